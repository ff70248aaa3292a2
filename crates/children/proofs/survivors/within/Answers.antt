-- The goals of `survivors::within` that the search leaves.
use mathlib.Core.Path.{◌≡◌}
use Rattle.records.specs.Code.{records, in_slot}
use Rattle.records.proofs.SlotLaws.{thinning_starts, thinning_adds, thinning_tests, thinning_ends}
use Rattle.lanes.specs.Code.{is_within}
use Rattle.children.proofs.survivors.within.Goals as goal
use Rattle.children.proofs.survivors.within.Goals.{After-bound_at}

-- the bound of the stop's child is read
bound_read :
    (c : After-bound_at)
    → c.bound_at.result ≡ (in_slot (records c.args.kids.now) c.in-Some.s).bound
unfolding in_slot
bound_read c = cc

pub loop-s-init : goal.loop-s-init
loop-s-init c =
    rw (c.into_iter-s-iterator.ensures.into_iter_gives, c.stops_of-s-items.ensures) (thinning_starts _ _ _ c.requires.small)

pub loop-s-preserved : goal.loop-s-preserved
unfolding is_within
loop-s-preserved c =
    let steps = c.in-Some.ensures.steps in
    thinning_tests c.loop-s.invariant steps.0 steps.1 (rw (← bound_read (goal.at.loop-s-preserved c).After-bound_at) c.with_if-kept.ensures)

pub with_if-kept-requires : goal.with_if-kept-requires
with_if-kept-requires c = thinning_adds c.loop-s.invariant c.in-Some.ensures.steps.0

pub returns : goal.returns
returns c = thinning_ends c.loop-s.invariant c.in-None.ensures.steps
