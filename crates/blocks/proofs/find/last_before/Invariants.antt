-- `last_before` meets its contract. The invariant: the bounds behind those that are left are above the limit.
use Prim.Native.Nat.{ℕ, ◌≤◌, ◌<◌}
use Rattle.records.specs.Code.{records}
use Rattle.blocks.specs.Code.{bound_at}
use Rattle.blocks.proofs.find.last_before.Given as goal

abbrev pub invariant-loop-i : goal.invariant-loop-i
invariant-loop-i l = (j : ℕ) → l.i ≤ j → j < l.to → l.limit < bound_at (records l.w) j
