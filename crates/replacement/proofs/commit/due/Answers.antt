-- `due` meets its contract: where it says no, all tests have failed.
use native.Mathlib.Omega.{arith}
use Rattle.stops.proofs.SetBits.{stops_in_few}
use Rattle.replacement.proofs.commit.due.Goals as goal

pub overflow_add-p : goal.overflow_add-p
overflow_add-p c = omega (arith, c.requires, c.count.ensures, stops_in_few c.args.change.alive c.requires.1.1.1)

pub overflow_add-p-else-change : goal.overflow_add-p-else-change
overflow_add-p-else-change c = omega (arith, c.requires, c.count.ensures, stops_in_few c.args.change.alive c.requires.1.1.1)
