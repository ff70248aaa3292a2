-- `refresh` meets its contract: the places of a block are those from its first one, or the first out of use, to that of the next block.
use mathlib.Core.Path.{◌≡◌}
use Prim.Native.Nat.{◌+◌, ◌*◌, ◌^◌, ◌<◌, min}
use native.Mathlib.Omega.{arith}
use Rattle.records.specs.Code.{records}
use Rattle.lanes.specs.Sizes.{blocks}
use Rattle.blocks.specs.Code.{bound_at}
use Rattle.blocks.proofs.BlockLaws.{shift_small, shifted, least_block, block_runs}
use Rattle.blocks.proofs.KeepLaws.{blocked_set, same_set}
use Rattle.blocks.proofs.keep.refresh.Goals as goal
use Rattle.blocks.proofs.keep.refresh.Goals.{After-min-from, After-min-to, Start}

few : (c : Start) → c.args.shift < 62
few c = shift_small blocks c.args.shift (omega arith) c.requires.1.1

-- where the block starts, and where it ends
starts :
    (c : After-min-from)
    → let a = c.args in c.min-from.result ≡ min (a.k * 2 ^ a.shift) a.used
starts c =
    rw (shifted c.args.k c.args.shift (omega arith) c.requires.1.1) at c.min-from.ensures

ends :
    (c : After-min-to)
    → let a = c.args in c.min-to.result ≡ min ((a.k + 1) * 2 ^ a.shift) a.used
ends c =
    rw (shifted (c.args.k + 1) c.args.shift (omega arith) c.requires.1.1) at c.min-to.ensures

pub least_in-requires : goal.least_in-requires
least_in-requires c =
    let a = c.args in
    (block_runs a.used (2 ^ a.shift) a.k _ _ (starts (goal.at.least_in-requires c).After-min-from) (ends c), omega (arith, ends c, c.requires.0.inside))

pub returns : goal.returns
returns c =
    let a = c.args in
    let recs = records a.w.now in
    let low =
    least_block a.used (2 ^ a.shift) a.k _ _ c.requires.0.wide (starts (goal.at.returns c).After-min-from) (ends (goal.at.returns c).After-min-to) (bound_at recs)
    c.least_in.result c.least_in.ensures in (
      blocked_set recs a.used (2 ^ a.shift) a.index.now a.k _ c.requires.0 c.requires.1.0 low,
      same_set a.index.now a.k _ c.requires.1.0,
    )

pub overflow_shl-k : goal.overflow_shl-k
overflow_shl-k c = omega (arith, few (goal.at.overflow_shl-k c).Start)

pub overflow_shl-k-2 : goal.overflow_shl-k-2
overflow_shl-k-2 c = omega (arith, few (goal.at.overflow_shl-k-2 c).Start)
