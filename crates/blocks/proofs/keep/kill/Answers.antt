-- `kill` meets its contract: a record that changes leaves the minima of the other blocks right, and that of its own too if it is below its bound.
use Prim.Native.Nat.{◌/◌, ◌^◌, ◌<◌}
use native.Mathlib.Omega.{arith}
use Rattle.records.specs.Code.{records}
use Rattle.lanes.specs.Sizes.{blocks}
use Rattle.blocks.proofs.BlockLaws.{shift_small, block_below}
use Rattle.blocks.proofs.KeepLaws.{blocked_but, blocked_spared, same_none}
use Rattle.blocks.proofs.keep.kill.Goals as goal
use Rattle.blocks.proofs.keep.kill.Goals.{Start}

-- the record's block is one of the index
block : (c : Start) → c.args.i / 2 ^ c.args.shift < blocks
block c = block_below _ c.requires.0.wide c.args.i _ (omega (arith, c.requires.0.reach))

pub overflow_shr-k : goal.overflow_shr-k
overflow_shr-k c = omega (arith, shift_small blocks c.args.shift (omega arith) c.requires.1.1)

pub offset_bounds-index-k : goal.offset_bounds-index-k
offset_bounds-index-k c = record { fits = omega (arith, block (goal.at.offset_bounds-index-k c).Start) }

pub bounds-index-k : goal.bounds-index-k
bounds-index-k c = omega (arith, block (goal.at.bounds-index-k c).Start, c.requires.0.whole)

pub returns-then-index-k : goal.returns-then-index-k
returns-then-index-k c =
    let a = c.args in
    let read = c.bound_at-bound.ensures in (
      c.mark.ensures,
      (
        blocked_spared (records a.w.now) _ a.used _ a.index.now a.i c.requires.0 c.requires.1.0 c.mark.ensures
            (omega (arith, c.if-index-k.true, read)),
        same_none _,
      ),
    )

pub refresh-requires : goal.refresh-requires
refresh-requires c =
    let a = c.args in
    (blocked_but (records a.w.now) _ a.used _ a.index.now a.i _ c.requires.0 c.mark.ensures, (block (goal.at.refresh-requires c).Start, c.requires.1.1))
