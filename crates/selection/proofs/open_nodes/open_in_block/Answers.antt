-- `open_in_block` meets its contract: no record of a block whose minimum is above the limit is open, and the places of a block are those from
-- its first one, or the first out of use, to that of the next block.
use mathlib.Core.Path.{◌≡◌}
use Prim.Native.Nat.{◌+◌, ◌*◌, ◌^◌, ◌<◌, min}
use native.Mathlib.Omega.{arith}
use lib.ListN.{get_or}
use Rattle.stops.specs.Code.{empty_record}
use Rattle.records.specs.Code.{records}
use Rattle.lanes.specs.Sizes.{blocks}
use Rattle.blocks.proofs.BlockLaws.{shift_small, shifted, block_run, run_block}
use Rattle.blocks.proofs.FindLaws.{block_least}
use Rattle.selection.proofs.ChooseLaws.{over_shut, open_like}
use Rattle.selection.proofs.open_nodes.open_in_block.Goals as goal
use Rattle.selection.proofs.open_nodes.open_in_block.Goals.{After-min-from, After-min-to, Start}

few : (c : Start) → c.args.p.shift < 62
few c = shift_small blocks c.args.p.shift (omega arith) c.requires.0.1

pub returns-then-limit-index : goal.returns-then-limit-index
returns-then-limit-index c =
    let a = c.args in
    λ j q.
    over_shut a.n a.limit (get_or (records a.w.now) j empty_record)
    (omega (arith, c.if-limit-index.true, (block_least c.requires.0.0 a.k c.requires.1).low j q))

-- where the block starts, and where it ends
starts :
    (c : After-min-from)
    → let a = c.args in c.min-from.result ≡ min (a.k * 2 ^ a.p.shift) a.p.used
starts c =
    rw (shifted c.args.k c.args.p.shift (omega (arith, c.requires.1)) c.requires.0.1) at c.min-from.ensures

ends :
    (c : After-min-to)
    → let a = c.args in
    c.min-to.result ≡ min ((a.k + 1) * 2 ^ a.p.shift) a.p.used
ends c =
    rw (shifted (c.args.k + 1) c.args.p.shift (omega (arith, c.requires.1)) c.requires.0.1) at c.min-to.ensures

pub returns : goal.returns
returns c =
    let a = c.args in
    let from = starts (goal.at.returns c).After-min-from in
    let to = ends (goal.at.returns c).After-min-to in
    open_like a.late _ _ a.n a.limit (records a.w.now) c.open_in.result (run_block a.p.used (2 ^ a.p.shift) a.k _ _ c.requires.0.0.wide from to)
    (block_run a.p.used (2 ^ a.p.shift) a.k _ _ c.requires.0.0.wide from to)
    c.open_in.ensures

pub overflow_shl-k : goal.overflow_shl-k
overflow_shl-k c = omega (arith, few (goal.at.overflow_shl-k c).Start)

pub overflow_shl-k-2 : goal.overflow_shl-k-2
overflow_shl-k-2 c = omega (arith, few (goal.at.overflow_shl-k-2 c).Start)
