-- The goals of `least_into` that the search leaves.
use Rattle.carried.proofs.RowLaws.{joined_starts, joined_again, joined_ends}
use Rattle.carried.proofs.least_into.Goals as goal

pub loop-r-init : goal.loop-r-init
loop-r-init c =
    rw (c.into_iter-r-iterator.ensures.into_iter_gives, c.stops_of-r-items.ensures)
    (joined_starts _ _ _ c.requires.0.small c.cleared.ensures.done c.cleared.ensures.room)

pub loop-r-preserved : goal.loop-r-preserved
loop-r-preserved c =
    let (first, left) = c.in-Some.ensures.steps in
    let j = c.row_joins.ensures in
    joined_again c.in-Some.r c.loop-r.invariant first left j.0 j.1

pub returns : goal.returns
returns c =
    let l = c.loop-r.invariant in
    (joined_ends c.args.t.now c.requires.0 c.requires.1.0 l c.in-None.ensures.steps, l.room)
