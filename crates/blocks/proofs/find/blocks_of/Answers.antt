-- `blocks_of` meets its contract: the last place in use is in the last block.
use Prim.Native.Nat.{◌-◌, ◌/◌, ◌^◌, ◌≤◌, ◌<◌}
use native.Mathlib.Omega.{arith}
use lib.Pow.{pow_pos, shr_le}
use Rattle.lanes.specs.Sizes.{blocks}
use Rattle.blocks.proofs.BlockLaws.{shift_small, block_up_to, block_below}
use Rattle.blocks.proofs.find.blocks_of.Goals as goal

pub overflow_add-result : goal.overflow_add-result
overflow_add-result c =
    let a = c.args in
    let small : (a.used - 1) / 2 ^ a.shift ≤ a.used - 1 = shr_le (a.used - 1) a.shift in
    record { fits = omega arith }

pub returns : goal.returns
returns c =
    let a = c.args in
    let wide : 1 ≤ 2 ^ a.shift = pow_pos a.shift in (
      λ i h. let up : i / 2 ^ a.shift ≤ (a.used - 1) / 2 ^ a.shift = block_up_to _ wide i (a.used - 1) (omega arith) in omega arith,
      λ h. let few : (a.used - 1) / 2 ^ a.shift < blocks = block_below _ wide (a.used - 1) blocks (omega arith) in omega arith,
    )

pub overflow_shr-result : goal.overflow_shr-result
overflow_shr-result c = omega (arith, shift_small blocks c.args.shift (omega arith) c.requires.1)
