-- `least_in` meets its contract. The loop's invariant: `least` is the least bound of the records from `from` to i.
use Prim.Native.Nat.{ℕ, ◌≤◌, ◌<◌}
use Rattle.records.specs.Code.{records}
use Rattle.blocks.specs.Code.{Least, bound_at}
use Rattle.blocks.proofs.keep.least_in.Given as goal

abbrev pub invariant-loop-i : goal.invariant-loop-i
invariant-loop-i l = Least (λ (j : ℕ). (l.from ≤ j) × (j < l.i)) (bound_at (records l.w)) l.least
