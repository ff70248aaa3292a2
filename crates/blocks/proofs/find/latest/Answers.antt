-- `latest` meets its contract: the last block with such a record, and the last one in it.
use mathlib.Core.Path.{◌≡◌, ap, ◌∙◌}
use Prim.Native.Nat.{ℕ, ◌+◌, ◌*◌, ◌/◌, ◌^◌, ◌≤◌, ◌<◌, min}
use native.Mathlib.Omega.{arith}
use lib.ListN.{length, get_or, take}
use lib.Seq.{get_or-take, length-take-le}
use Rattle.std.proofs.Common.{rules}
use Rattle.lanes.specs.Sizes.{blocks}
use Rattle.blocks.proofs.BlockLaws.{shift_small, shifted}
use Rattle.blocks.proofs.FindLaws.{block_tells, in_block_lem, last_in_last}
use Rattle.blocks.proofs.find.latest.Goals as goal
use Rattle.blocks.proofs.find.latest.Goals.{After-blocks_of, After-unwrap-k, After-min}

few : (c : After-blocks_of) → c.blocks_of.result ≤ blocks
few c = c.blocks_of.ensures.1 c.requires.0.reach

-- those that are looked at are in the index
long : (c : After-blocks_of) → length (take c.blocks_of.result c.args.index.now) ≡ c.blocks_of.result
long c = length-take-le c.blocks_of.result c.args.index.now (omega (arith, few c, c.requires.0.whole))

-- there is such a block
some :
    (c : After-blocks_of)
    → (k : ℕ) × ((k < c.blocks_of.result) × (get_or (take c.blocks_of.result c.args.index.now) k 0 ≤ c.args.limit))
some c =
    let b = c.requires.0 in
    let (i, (inside, low)) = c.requires.1.1.1 in
    let k = i / 2 ^ c.args.shift in
    let there : k < c.blocks_of.result = c.blocks_of.ensures.0 i inside in
    (k, (there, rw (get_or-take c.blocks_of.result c.args.index.now k 0 there) (omega (arith, (block_tells b i inside).1))))

pub unwrap-k-requires : goal.unwrap-k-requires
unwrap-k-requires c =
    let at = (goal.at.unwrap-k-requires c).After-blocks_of in
    let (k, (inside, low)) = some at in
    let whole = long at in
    search rules

-- it is the last one
last :
    (c : After-unwrap-k)
    → let k = c.unwrap-k.result in
    let end = c.blocks_of.result in
    let index = c.args.index.now in
    (k < end) × ((get_or index k 0 ≤ c.args.limit) × ((j : ℕ) → k < j → j < end → c.args.limit < get_or index j 0))
last c =
    let end = c.blocks_of.result in
    let k = c.unwrap-k.result in
    let minima = take end c.args.index.now in
    let inside : k < end = search rules in
    let low : get_or minima k 0 ≤ c.args.limit = search rules in
    let behind : (j : ℕ) → k + 1 ≤ j → j < length minima → c.args.limit < get_or minima j 0 = search rules in (
      inside,
      (
        rw (← get_or-take end c.args.index.now k 0 inside) low,
        λ j h m. rw (← get_or-take end c.args.index.now j 0 m) (behind j (omega arith) (omega (arith, long (goal.at.overflow_shl-k c).After-blocks_of))),
      ),
    )

-- where the records of the block end
ends : (c : After-min) →
    let a = c.args in c.min.result ≡ min ((c.unwrap-k.result + 1) * 2 ^ a.shift) a.used
ends c =
    let at = (goal.at.last_before-requires c).After-unwrap-k in
    let blocks-few = few (goal.at.last_before-requires c).After-blocks_of in
    c.min.ensures
    ∙ ap (λ (v : ℕ). min v c.args.used) (shifted (c.unwrap-k.result + 1) c.args.shift (omega (arith, blocks-few, (last at).0)) c.requires.1.0)

pub last_before-requires : goal.last_before-requires
last_before-requires c =
    let block = last (goal.at.last_before-requires c).After-unwrap-k in
    let (i, (from, (end, (inside, low)))) =
    in_block_lem c.requires.0 c.args.limit c.unwrap-k.result c.requires.1.1.0
    (omega (arith, few (goal.at.last_before-requires c).After-blocks_of, block.0)) block.1.0 in (
      omega (arith, c.requires.0.inside, ends c),
      (i, (omega (arith, ends c), low)),
    )

pub returns : goal.returns
returns c =
    last_in_last c.requires.0 c.args.limit c.blocks_of.result c.unwrap-k.result c.min.result c.last_before.result
    c.blocks_of.ensures.0
    (last (goal.at.returns c).After-unwrap-k).1.1
    (ends (goal.at.returns c).After-min)
    c.last_before.ensures.0
    c.last_before.ensures.1.0
    c.last_before.ensures.1.1

pub overflow_shl-k : goal.overflow_shl-k
overflow_shl-k c = omega (arith, shift_small blocks c.args.shift (omega arith) c.requires.1.0)
