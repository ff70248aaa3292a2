-- `carried::child_costs` meets its contract: the node's last place is one of the table.
use native.Mathlib.Omega.{arith}
use Rattle.stops.proofs.Digits.{last-place}
use Rattle.carried.proofs.child_costs.Goals as goal

pub bounds-t-place : goal.bounds-t-place
bounds-t-place c = omega (arith, c.last-place.ensures, last-place c.args.b)
