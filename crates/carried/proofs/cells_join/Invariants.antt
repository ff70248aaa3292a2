-- `carried::cells_join` meets its contract. The loop's invariant: at each place from the first on that is before s stands the lesser of what was
-- there and of the row's leg.
use Rattle.carried.specs.Code.{lessened, Entered}
use Rattle.carried.proofs.cells_join.Given as goal

abbrev pub invariant-loop-s : goal.invariant-loop-s
invariant-loop-s l = Entered (lessened l.row l.r l.initial.into) l.initial.into l.into l.from l.s
