-- `open_in` meets its contract. The invariant: no record that the walk has passed is open, so one that is, once it is met, is the first such.
use mathlib.Core.Path.{◌≡◌}
use mathlib.Core.Bool.{false}
use Prim.Native.Nat.{ℕ}
use lib.ListN.{get_or}
use Rattle.stops.specs.Code.{empty_record}
use Rattle.records.specs.Code.{records}
use Rattle.selection.specs.Code.{is_open}
use Rattle.selection.proofs.WalkLaws.{Walked}
use Rattle.selection.proofs.open_nodes.open_in.Given as goal

abbrev pub invariant-loop-c : goal.invariant-loop-c
invariant-loop-c l = Walked l.late l.from l.to l.c (λ (j : ℕ). is_open l.n l.limit (get_or (records l.w) j empty_record) ≡ false)
