-- `note` meets its contract. The loop's invariant: the minima are right for the first i records, and all else in the index is as it was.
use Prim.Native.Nat.{◌^◌}
use Rattle.records.specs.Code.{records}
use Rattle.blocks.specs.Code.{Blocked, Same}
use Rattle.blocks.proofs.keep.note.Given as goal

abbrev pub invariant-loop-i : goal.invariant-loop-i
invariant-loop-i l = Blocked (records l.w) l.i (2 ^ l.shift) l.index × Same l.initial.index l.index
