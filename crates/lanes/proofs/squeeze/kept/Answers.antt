-- `kept` meets its contract: the bound decides whether the record is stored.
use mathlib.Core.Path.{refl}
use native.Mathlib.Omega.{arith}
use borrow.Author.Tests.{le-leb, lt-leb}
use Rattle.records.proofs.ViewLaws.{length-records}
use Rattle.lanes.specs.Code.{is_within}
use Rattle.lanes.proofs.squeeze.kept.Goals as goal

pub returns-then-limit-bound_at : goal.returns-then-limit-bound_at
unfolding is_within
returns-then-limit-bound_at c =
    rw (← c.bound_at.ensures, lt-leb c.bound_at.result c.args.limit (omega arith)) (refl, refl)

pub overflow_add-result : goal.overflow_add-result
overflow_add-result c = omega (arith, length-records c.args.w.now)

pub returns : goal.returns
unfolding is_within
returns c =
    rw (← c.bound_at.ensures, le-leb c.bound_at.result c.args.limit (omega arith), ← c.load-x.ensures)
    (refl, c.store.ensures)
