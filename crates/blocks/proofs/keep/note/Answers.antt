-- The goals of `keep::note` that the search leaves.
use mathlib.Core.Path.{ap, ◌∙◌}
use Prim.Native.Nat.{◌/◌, ◌^◌, ◌<◌, min}
use native.Mathlib.Omega.{arith}
use Rattle.records.specs.Code.{records}
use Rattle.lanes.specs.Sizes.{blocks}
use Rattle.blocks.proofs.BlockLaws.{shift_small, block_below}
use Rattle.blocks.proofs.KeepLaws.{same_set, same-on, blocked_joins}
use Rattle.blocks.proofs.keep.note.Goals as goal

pub loop-i-preserved : goal.loop-i-preserved
loop-i-preserved c =
    let s = c.loop-i in
    let pre = c.requires in
    let here : s.i / 2 ^ c.args.shift < blocks = block_below _ pre.0.wide s.i _ (omega (arith, pre.1.1.1.0)) in (
      blocked_joins (records c.args.w.now) s.i _ s.index _ s.invariant.0 (omega (arith, pre.1.1.0)) (omega (arith, pre.1.1.1.0))
          (c.min.ensures ∙ ap (min _) c.bound_at.ensures),
      same-on _ s.index _ s.invariant.1 (same_set s.index _ _ here),
    )

pub overflow_shr-k : goal.overflow_shr-k
overflow_shr-k c = omega (arith, shift_small blocks c.args.shift (omega arith) c.requires.1.1.1.1)
