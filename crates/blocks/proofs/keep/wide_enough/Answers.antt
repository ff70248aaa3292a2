-- The goals of `keep::wide_enough` that the search leaves.
use Prim.Native.Nat.{◌<◌}
use native.Mathlib.Omega.{arith}
use Rattle.lanes.specs.Sizes.{blocks}
use Rattle.blocks.proofs.BlockLaws.{shift_small, shift_more}
use Rattle.blocks.proofs.keep.wide_enough.Goals as goal
use Rattle.blocks.proofs.keep.wide_enough.Goals.{At-loop-s}

-- a shift is below 62 while the blocks have few enough places
few : (c : At-loop-s) → c.loop-s.s < 62
few c = shift_small blocks c.loop-s.s (omega arith) c.loop-s.invariant

pub loop-s-preserved : goal.loop-s-preserved
loop-s-preserved c = shift_more c.loop-s.s (omega arith)

pub loop-s-init : goal.loop-s-init
loop-s-init c = c.requires.1

pub overflow_cast-s : goal.overflow_cast-s
overflow_cast-s c = omega (arith, few c)

pub overflow_shl-s : goal.overflow_shl-s
overflow_shl-s c = omega (arith, few c)

pub overflow_add-s : goal.overflow_add-s
overflow_add-s c = omega (arith, few (goal.at.overflow_add-s c).At-loop-s)

pub loop-s-smaller : goal.loop-s-smaller
loop-s-smaller c = omega (arith, few (goal.at.loop-s-smaller c).At-loop-s)
