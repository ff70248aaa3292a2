-- `earliest` meets its contract: the first block with such a record, and the first one in it.
use mathlib.Core.Path.{◌≡◌}
use Prim.Native.Nat.{ℕ, ◌*◌, ◌^◌, ◌%◌, ◌≤◌, ◌<◌}
use native.Mathlib.Omega.{arith}
use lib.ListN.{get_or}
use Rattle.std.proofs.Common.{rules}
use Rattle.lanes.specs.Sizes.{blocks}
use Rattle.blocks.proofs.BlockLaws.{shift_small, shifted}
use Rattle.blocks.proofs.FindLaws.{some_block, in_block_lem, first_in_first}
use Rattle.blocks.proofs.find.earliest.Goals as goal
use Rattle.blocks.proofs.find.earliest.Goals.{Start, After-unwrap-k}

-- there is such a block
some : (c : Start) → (k : ℕ) × ((k < blocks) × (get_or c.args.index.now k 0 ≤ c.args.limit))
some c = some_block c.requires.0 c.args.limit c.requires.1.1.1

pub unwrap-k-requires : goal.unwrap-k-requires
unwrap-k-requires c =
    let (k, (inside, low)) = some (goal.at.unwrap-k-requires c).Start in
    let whole = c.requires.0.whole in search rules

-- it is the first one
first :
    (c : After-unwrap-k)
    → let k = c.unwrap-k.result in
    let index = c.args.index.now in
    (k < blocks) × ((get_or index k 0 ≤ c.args.limit) × ((j : ℕ) → j < k → c.args.limit < get_or index j 0))
first c =
    let (k, (inside, low)) = some (goal.at.first_from-requires c).Start in
    let whole = c.requires.0.whole in search rules

-- where the block starts
start : (c : After-unwrap-k) →
    let s = c.args.shift in c.unwrap-k.result * 2 ^ s % 2 ^ 64 ≡ c.unwrap-k.result * 2 ^ s
start c =
    shifted c.unwrap-k.result c.args.shift (omega (arith, (first c).0)) c.requires.1.0

pub first_from-requires : goal.first_from-requires
first_from-requires c =
    let b = c.requires.0 in
    let block = first c in
    let (i, (from, (end, (inside, low)))) = in_block_lem b c.args.limit c.unwrap-k.result c.requires.1.1.0 block.0 block.1.0 in
    (b.inside, (i, (rw (start c) from, (inside, low))))

pub returns : goal.returns
returns c =
    let at = (goal.at.returns c).After-unwrap-k in
    let (inside, (low, passed)) = c.first_from.ensures in
    first_in_first c.requires.0 c.args.limit c.unwrap-k.result c.first_from.result (first at).1.1 inside low (rw (start at) at passed)

pub overflow_shl-k : goal.overflow_shl-k
overflow_shl-k c = omega (arith, shift_small blocks c.args.shift (omega arith) c.requires.1.0)
