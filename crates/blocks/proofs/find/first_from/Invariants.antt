-- `first_from` meets its contract. The invariant: the bounds from `from` to i are above the limit.
use Prim.Native.Nat.{ℕ, ◌≤◌, ◌<◌}
use Rattle.records.specs.Code.{records}
use Rattle.blocks.specs.Code.{bound_at}
use Rattle.blocks.proofs.find.first_from.Given as goal

abbrev pub invariant-loop-i : goal.invariant-loop-i
invariant-loop-i l = (j : ℕ) → l.from ≤ j → j < l.i → l.limit < bound_at (records l.w) j
