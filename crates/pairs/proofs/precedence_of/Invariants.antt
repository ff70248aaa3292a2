-- `pairs::precedence_of` meets its contract. The loop's invariant: the bytes left make of the sets so far what the whole file makes of empty ones
-- (`Marking`). Each byte is a stop, so its set has a place and its power of two fits.
use Rattle.pairs.proofs.FileLaws.{Marking}
use Rattle.pairs.proofs.precedence_of.Given as goal

abbrev pub invariant-loop-pair : goal.invariant-loop-pair
invariant-loop-pair l = Marking l.pairs l.before l.pair-iterator.rest.now l.pair-iterator.size
