-- `trim` meets its contract. The loop's invariant is `Trimmed`, with i records left.
use Rattle.records.specs.Code.{records}
use Rattle.chains.proofs.TrimLaws.{Trimmed}
use Rattle.chains.proofs.trim.trim.Given as goal

abbrev pub invariant-loop-i : goal.invariant-loop-i
invariant-loop-i l = Trimmed (records l.w) l.p l.initial.index l.index l.i
