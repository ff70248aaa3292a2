-- `first_open` meets its contract. The invariant: no record of a block that the walk has passed is open, so one that is, once it is met, is the
-- first such.
use mathlib.Core.Path.{◌≡◌}
use mathlib.Core.Bool.{false}
use Prim.Native.Nat.{ℕ, ◌^◌}
use lib.ListN.{get_or}
use Rattle.stops.specs.Code.{empty_record}
use Rattle.records.specs.Code.{records}
use Rattle.blocks.specs.Code.{in_block}
use Rattle.selection.specs.Code.{is_open}
use Rattle.selection.proofs.WalkLaws.{Walked}
use Rattle.selection.proofs.open_nodes.first_open.Given as goal

abbrev pub invariant-loop-c : goal.invariant-loop-c
invariant-loop-c l =
    Walked l.late 0 l.end l.c (λ (k : ℕ). (j : ℕ) → in_block l.p.used (2 ^ l.p.shift) k j → is_open l.n l.limit (get_or (records l.w) j empty_record) ≡ false)
