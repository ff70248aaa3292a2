-- `pairs::ready` meets its contract: without pairs no stop waits. The loop's invariant: the stops found, with those of what is left that need not
-- wait behind them, are all that need not wait (`Readying`).
use Rattle.pairs.specs.Code.{pairs_in}
use Rattle.pairs.proofs.PairLaws.{holding}
use Rattle.pairs.proofs.LoopLaws.{Readying}
use Rattle.pairs.proofs.ready.Given as goal

abbrev pub invariant-loop-s : goal.invariant-loop-s
invariant-loop-s l = Readying (pairs_in (holding l.before)) l.rest l.found l.s-iterator.left
