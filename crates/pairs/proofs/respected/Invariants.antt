-- `pairs::respected` meets its contract: without pairs every node respects them. The loop's invariant: the stops of x so far respect the pairs, and
-- `rest` is the set of the stops that they leave (`Respecting`).
use Rattle.pairs.specs.Code.{pairs_in}
use Rattle.pairs.proofs.PairLaws.{holding}
use Rattle.pairs.proofs.LoopLaws.{Respecting}
use Rattle.pairs.proofs.respected.Given as goal

abbrev pub invariant-loop-s : goal.invariant-loop-s
invariant-loop-s l = Respecting l.n (pairs_in (holding l.before)) l.x l.rest l.s-index
