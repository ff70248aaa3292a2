-- The goals of `walk::unrivalled` that the search leaves.
use mathlib.Core.Path.{◌≡◌, ap, sym, ◌∙◌}
use mathlib.Core.Bool.{Bool, true, false, not}
use mathlib.Core.Logic.{◌≢◌}
use Prim.Native.Nat.{ℕ, ◌≤◌, ◌<◌}
use native.Mathlib.Omega.{arith}
use lib.ListN.{length, get_or}
use Rattle.lists.specs.Lists.{any}
use Rattle.stops.specs.Code.{empty_record}
use Rattle.records.specs.Code.{records, in_slot}
use Rattle.records.proofs.SlotLaws.{thinning_starts, thinning_adds, thinning_keeps, thinning_drops, thinning_ends}
use Rattle.lanes.specs.Code.{sized, place_of, lane_of}
use Rattle.chains.specs.Code.{bucket_of, is_rival, is_free}
use Rattle.chains.proofs.WalkLaws.{StandingAt, place_inside, standing_top, standing_after, standing_met, standing_end, bucket_head, rival_bucket}
use Rattle.chains.proofs.walk.unrivalled.Goals as goal
use Rattle.chains.proofs.walk.unrivalled.Goals.{After-after-c, After-rival, After-slot-k, In-loop-c}

-- the child stands in its stop's slot, which is inside
child :
    (c : After-slot-k)
    → let kids = records c.args.kids.now in
    (get_or kids c.slot-k.result empty_record ≡ in_slot kids c.in-Some.s) × (c.slot-k.result < length kids)
unfolding in_slot
child c =
    let kids = records c.args.kids.now in (
      ap (λ (j : ℕ). get_or kids j empty_record) c.slot-k.ensures,
      omega (arith, c.slot-k.ensures, c.in-Some.ensures.steps.0.some, c.in-Some.ensures.steps.0.few, c.requires.0.0.room),
    )

-- whether it is left, by what the inner loop found
free :
    (c : After-slot-k) (b : Bool)
    → let a = c.args in
    let lane = lane_of (records a.w.now) a.p.end a.p.count in
    any (is_rival a.limit (get_or (records a.kids.now) c.slot-k.result empty_record)) lane ≡ b
    → is_free a.limit lane (in_slot (records a.kids.now) c.in-Some.s) ≡ not b
unfolding is_free
free c b e = rw (← (child c).0, e)

-- the record that the walk stands at is the lane's, and in the pool
standing :
    (c : In-loop-c)
    → let a = c.args in
    (c.loop-c.c ≢ 0) × ((0 < a.p.end → c.loop-c.c ≤ a.p.end) × (place_of a.p.end c.loop-c.c < length (records a.w.now)))
standing c =
    let at = c.loop-c.invariant in
    let some : c.loop-c.c ≢ 0 = c.loop-c-test.true in
    (some, (λ h. omega (arith, at.below, c.requires.1.lies.apart h), place_inside c.requires.1.lies c.loop-c.c some at.below))

tested :
    (c : After-rival)
    → let a = c.args in
    is_rival a.limit (get_or (records a.kids.now) c.slot-k.result empty_record)
    (sized (get_or (records a.w.now) (place_of a.p.end c.loop-c.c) empty_record))
    ≡ c.rival.result
tested c = rw (← c.place.ensures) (sym c.rival.ensures)

pub top-c-requires : goal.top-c-requires
top-c-requires c linked = (c.requires.1.chains linked).room

pub loop-c-init : goal.loop-c-init
loop-c-init c =
    let a = c.args in
    let x = get_or (records a.kids.now) c.slot-k.result empty_record in
    standing_top (records a.w.now) a.p (is_rival a.limit x) (bucket_of x) a.index.now c.requires.1 (rival_bucket a.limit x)
    (bucket_head x) c.top-c.result (rw c.load.ensures at c.top-c.ensures)

pub child-preserved-then-rival : goal.child-preserved-then-rival
child-preserved-then-rival c =
    let a = c.args in
    let x = get_or (records a.kids.now) c.slot-k.result empty_record in
    let met = standing_met (records a.w.now) a.p (is_rival a.limit x) (bucket_of x) c.loop-c.c (standing (goal.at.child-preserved-then-rival c).In-loop-c).0
    c.loop-c.invariant (tested (goal.at.child-preserved-then-rival c).After-rival ∙ c.if-rival.true) in
    thinning_drops c.child.invariant c.in-Some.ensures.steps.0 c.in-Some.ensures.steps.1 (free (goal.at.child-preserved-then-rival c).After-slot-k true met)

-- the walk stands at the next one, which is before
goes_on :
    (c : After-after-c)
    → let a = c.args in
    let x = get_or (records a.kids.now) c.slot-k.result empty_record in
    c.loop-c.c ≢ 0 → is_rival a.limit x (sized (get_or (records a.w.now) (place_of a.p.end c.loop-c.c) empty_record)) ≡ c.rival.result
    → StandingAt (records a.w.now) a.p (is_rival a.limit x) (bucket_of x) c.after-c.result × (c.after-c.result < c.loop-c.c)
goes_on c some met =
    let a = c.args in
    let x = get_or (records a.kids.now) c.slot-k.result empty_record in
    standing_after (records a.w.now) a.p (is_rival a.limit x) (bucket_of x) a.index.now c.requires.1 (rival_bucket a.limit x)
    c.loop-c.c some c.loop-c.invariant (met ∙ c.if-rival.false) c.after-c.result c.after-c.ensures

pub child-preserved : goal.child-preserved
child-preserved c =
    let a = c.args in
    let x = get_or (records a.kids.now) c.slot-k.result empty_record in
    let none = standing_end (records a.w.now) a.p (is_rival a.limit x) (bucket_of x) c.loop-c.c c.loop-c-test.false
    c.loop-c.invariant in
    thinning_keeps c.child.invariant c.in-Some.ensures.steps.0 c.in-Some.ensures.steps.1 c.with-kept.ensures (free (goal.at.child-preserved c).After-slot-k false none)

pub child-init : goal.child-init
child-init c =
    rw (c.into_iter-s-iterator.ensures.into_iter_gives, c.stops_of-s-items.ensures) (thinning_starts _ _ _ c.requires.0.0.small)

pub load-requires : goal.load-requires
load-requires c = (child c).1

pub place-requires : goal.place-requires
place-requires c = let at = standing c in (omega arith, at.1.0)

pub rival-requires : goal.rival-requires
rival-requires c = (rw c.place.ensures (standing (goal.at.rival-requires c).In-loop-c).1.1, (child (goal.at.rival-requires c).After-slot-k).1)

pub after-c-requires : goal.after-c-requires
after-c-requires c = let at = standing (goal.at.after-c-requires c).In-loop-c in (omega arith, at.1)

pub loop-c-smaller : goal.loop-c-smaller
loop-c-smaller c = let at = goal.at.loop-c-smaller c in (goes_on c (standing at.In-loop-c).0 (tested at.After-rival)).1

pub loop-c-preserved : goal.loop-c-preserved
loop-c-preserved c = let at = goal.at.loop-c-preserved c in (goes_on c (standing at.In-loop-c).0 (tested at.After-rival)).0

pub with-kept-requires : goal.with-kept-requires
with-kept-requires c = thinning_adds c.child.invariant c.in-Some.ensures.steps.0

pub returns : goal.returns
returns c = thinning_ends c.child.invariant c.in-None.ensures.steps
