-- `slide` meets its contract: as `sift`, with a test that every record passes.
use Prim.Native.Nat.{◌≤◌}
use Rattle.records.specs.Code.{records, Sifted, always}
use Rattle.pool.proofs.settle.slide.Given as goal

abbrev pub invariant-loop-i : goal.invariant-loop-i
invariant-loop-i l = (l.next ≤ l.i) × Sifted always (records l.initial.w) l.from l.i l.at (records l.w) l.next
