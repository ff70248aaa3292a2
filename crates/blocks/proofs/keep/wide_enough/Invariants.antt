-- `wide_enough` meets its contract. The loop's invariant: the blocks have few enough places for a shift to be right.
use Prim.Native.Nat.{◌*◌, ◌-◌, ◌^◌, ◌<◌}
use Rattle.lanes.specs.Sizes.{blocks}
use Rattle.blocks.proofs.keep.wide_enough.Given as goal

abbrev pub invariant-loop-s : goal.invariant-loop-s
invariant-loop-s l = blocks * 2 ^ l.s < 2 ^ 62

abbrev pub decreases-loop-s : goal.decreases-loop-s
decreases-loop-s l = 62 - l.s
