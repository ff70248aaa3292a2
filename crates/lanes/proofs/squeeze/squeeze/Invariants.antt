-- `squeeze` meets its contract. The loop's invariant is `Sifted` itself, up to i.
use Rattle.records.specs.Code.{records, Sifted}
use Rattle.lanes.specs.Code.{is_within}
use Rattle.lanes.proofs.squeeze.squeeze.Given as goal

abbrev pub invariant-loop-i : goal.invariant-loop-i
invariant-loop-i l = Sifted (is_within l.limit) (records l.initial.w) 0 l.i 0 (records l.w) l.next
