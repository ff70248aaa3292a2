-- The goals of `strike::strike_all` that the search leaves.
use mathlib.Core.Path.{◌≡◌, ap}
use Prim.Native.Nat.{ℕ, ◌<◌}
use native.Mathlib.Omega.{arith}
use lib.ListN.{length, get_or}
use Rattle.stops.specs.Code.{empty_record, rec_dominates}
use Rattle.records.specs.Code.{records, in_slot}
use Rattle.lanes.proofs.LiveLaws.{live_few}
use Rattle.replacement.specs.Code.{Strikes}
use Rattle.replacement.proofs.StrikeLaws.{striking_all_starts, striking_all_again, striking_all_ends}
use Rattle.replacement.proofs.strike.strike_all.Goals as goal
use Rattle.replacement.proofs.strike.strike_all.Goals.{After-slot, After-strike-lost}

-- the child stands in its stop's slot, which is inside
child :
    (c : After-slot)
    → let kids = records c.args.kids.now in
    (get_or kids c.slot.result empty_record ≡ in_slot kids c.in-Some.s) × (c.slot.result < length kids)
unfolding in_slot
child c = (
  ap (λ (j : ℕ). get_or (records c.args.kids.now) j empty_record) c.slot.ensures,
  omega (arith, c.slot.ensures, c.in-Some.ensures.steps.0.some, c.in-Some.ensures.steps.0.few, c.requires.1.0.room),
)

pub strike-lost-requires : goal.strike-lost-requires
strike-lost-requires c =
    let sized = c.requires.1.1 c.in-Some.s (c.loop-s.invariant.1.among c.in-Some.s c.in-Some.ensures.steps.0.member) in
    ((c.loop-s.invariant.0, (child (goal.at.strike-lost-requires c).After-slot).1), rw (child (goal.at.strike-lost-requires c).After-slot).0 sized)

-- what its chain loses, seen from behind `strike`
strikes :
    (c : After-strike-lost)
    → let a = c.args in
    Strikes (rec_dominates (in_slot (records a.kids.now) c.in-Some.s)) a.p.used (records c.loop-s.w)
    (records c.strike-lost.new.w)
    c.strike-lost.result
unfolding in_slot
strikes c =
    let there : get_or (records c.args.kids.now) c.slot.result empty_record ≡ in_slot (records c.args.kids.now) c.in-Some.s =
    ap (λ (j : ℕ). get_or (records c.args.kids.now) j empty_record) c.slot.ensures in
    rw (← there) c.strike-lost.ensures.1

pub overflow_add-lost : goal.overflow_add-lost
overflow_add-lost c =
    let a = c.args in
    omega (arith, c.loop-s.invariant.1.strikes.count, (strikes (goal.at.overflow_add-lost c).After-strike-lost).count, live_few (records a.w.now) a.p.used, c.ranges)

pub loop-s-preserved : goal.loop-s-preserved
loop-s-preserved c =
    let steps = c.in-Some.ensures.steps in
    (c.strike-lost.ensures.0, striking_all_again c.loop-s.invariant.1 steps.0 steps.1 (strikes (goal.at.loop-s-preserved c).After-strike-lost))

pub loop-s-init : goal.loop-s-init
loop-s-init c =
    (c.requires.0, rw (c.into_iter-s-iterator.ensures.into_iter_gives, c.stops_of-s-items.ensures) (striking_all_starts _ _ _ _ c.requires.1.0.small))

pub returns : goal.returns
returns c = (c.loop-s.invariant.0, striking_all_ends c.loop-s.invariant.1 c.in-None.ensures.steps)
