-- `carried::least_into` meets its contract. The loop's invariant: with the rows of the stops left, each place gets the least leg into it.
use Rattle.carried.proofs.RowLaws.{Joined}
use Rattle.carried.proofs.least_into.Given as goal

abbrev pub invariant-loop-r : goal.invariant-loop-r
invariant-loop-r l = Joined l.t l.rest l.into l.r-iterator.left
