-- The goals of `family::family` that the search leaves.
use mathlib.Core.Path.{◌≡◌, refl, ap, subst, ◌∙◌}
use mathlib.Core.List.{List}
use Prim.Native.Nat.{ℕ, ◌+◌, ◌-◌, ◌*◌, ◌^◌, ◌%◌, ◌≤◌}
use native.Mathlib.Omega.{arith}
use lib.ListN.{get_or}
use Rattle.sizes.specs.Sizes.{most_stops}
use Rattle.lists.specs.Lists.{In}
use Rattle.orders.specs.Pairs.{ready}
use Rattle.orders.proofs.Pairs.{in_ready}
use Rattle.stops.specs.Legs.{row_leg, legs}
use Rattle.stops.specs.Code.{stops_in, reckoning, reckon_on}
use Rattle.stops.proofs.SetLoops.{passed_ends}
use Rattle.pairs.specs.Code.{pairs_in}
use Rattle.carried.specs.Code.{ahead_of}
use Rattle.records.proofs.Mask.{rest_small}
use Rattle.children.specs.Code.{rest_of, born_of}
use Rattle.children.proofs.FamilyLaws.{rest_sum, placing_starts, placing_again}
use Rattle.children.proofs.KidLaws.{Kid, kid_bears, kid_made}
use Rattle.children.proofs.family.family.Goals as goal
use Rattle.children.proofs.family.family.Goals.{After-child_costs-costs, In-Some, Start}

-- 2 to the power n is small, and b's set is below it
sums :
    (c : Start)
    → let a = c.args in
    (a.b.set + rest_of a.setting a.b + 1 ≡ 2 ^ a.setting.n) × (2 ^ a.setting.n ≤ 2 ^ most_stops)
sums c = rest_sum c.requires.0 c.requires.1.0

rest_is :
    (c : Start) →
    let a = c.args in 1 * 2 ^ a.setting.n % 2 ^ 32 - 1 - a.b.set ≡ rest_of a.setting a.b
unfolding rest_of
rest_is c = omega (arith, sums c)

pub ready-born-requires : goal.ready-born-requires
unfolding rest_of
ready-born-requires c =
    rw (rest_is (goal.at.ready-born-requires c).Start) (rest_small c.args.setting.n c.requires.0.few c.args.b.set)

pub child_costs-costs-requires : goal.child_costs-costs-requires
child_costs-costs-requires c =
    (c.requires.0.few, (omega (arith, sums (goal.at.child_costs-costs-requires c).Start), (c.requires.0.cheap, refl)))

-- what `child_costs` found for the child by a stop
abbrev leg_of : After-child_costs-costs → ℕ → ℕ
leg_of c s = get_or c.child_costs-costs.result.legs s 0

abbrev own_of : After-child_costs-costs → ℕ → ℕ
own_of c s = get_or c.child_costs-costs.new.into s 0

abbrev own_ahead : After-child_costs-costs → ℕ → ℕ
own_ahead c s = ahead_of c.child_costs-costs.result.family (own_of c s) s

-- a stop that need not wait is one that b leaves
stays :
    (c : After-child_costs-costs) (s : ℕ) → In s (stops_in c.ready-born.result) →
    let a = c.args in In s (stops_in (rest_of a.setting a.b))
unfolding rest_of
stays c s i =
    let a = c.args in
    let left : 1 * 2 ^ a.setting.n % 2 ^ 32 - 1 - a.b.set ≡ rest_of a.setting a.b = omega (arith, rest_sum c.requires.0 c.requires.1.0) in
    let pairs = pairs_in c.args.setting.precedence in
    (in_ready pairs _ s
    (subst (λ (xs : List ℕ). In s xs) (c.ready-born.ensures.stops ∙ ap (λ (m : ℕ). ready pairs (stops_in m)) left) i)).0

-- and these are its leg and what the bound adds
kid :
    (c : After-child_costs-costs) (s : ℕ) → In s (stops_in c.ready-born.result) →
    let a = c.args in Kid a.setting a.t a.b s (leg_of c s) (own_ahead c s)
unfolding rest_of reckon_on reckoning legs row_leg
kid c s i =
    let p = c.requires in
    record {
      rows = p.0;
      encoded = p.1.0;
      stop = stays c s i;
      flies = ap (λ (row : List ℕ). get_or row s 0) c.child_costs-costs.ensures.legs;
      adds = c.child_costs-costs.ensures.gives.ahead s (stays c s i);
    }

pub loop-s-init : goal.loop-s-init
loop-s-init c =
    rw (c.into_iter-s-iterator.ensures.into_iter_gives, c.stops_of-s-items.ensures)
    (placing_starts refl c.ready-born.ensures.small c.requires.1.1)

-- the stop of a turn is one of them
turn : (c : In-Some) → In c.in-Some.s (stops_in c.ready-born.result)
turn c = c.loop-s.invariant.passed.among c.in-Some.s c.in-Some.ensures.steps.0.member

pub added-ahead-requires : goal.added-ahead-requires
unfolding rest_of
added-ahead-requires c =
    let s = c.in-Some.s in
    let own = turn (goal.at.added-ahead-requires c).In-Some in
    let d = (goal.at.added-ahead-requires c).After-child_costs-costs in
    (c.child_costs-costs.ensures.gives.less s (stays d s own), omega (arith, (kid_bears (kid d s own)).fits))

pub child-requires : goal.child-requires
child-requires c =
    rw c.added-ahead.ensures
    (kid_bears (kid (goal.at.child-requires c).After-child_costs-costs c.in-Some.s (turn (goal.at.child-requires c).In-Some)))

pub loop-s-preserved : goal.loop-s-preserved
loop-s-preserved c =
    let steps = c.in-Some.ensures.steps in
    placing_again c.loop-s.invariant steps.0 steps.1
    (c.child.ensures
    ∙ ap (born_of c.args.b c.in-Some.s (leg_of (goal.at.loop-s-preserved c).After-child_costs-costs c.in-Some.s)) c.added-ahead.ensures)
    (rw c.slot.ensures at c.store.ensures)

pub returns : goal.returns
returns c =
    let l = c.loop-s.invariant in
    let r = c.ready-born.ensures in
    record {
      small = r.small;
      stops = r.stops ∙ ap (λ (m : ℕ). ready (pairs_in c.args.setting.precedence) (stops_in m)) (rest_is (goal.at.returns c).Start);
      each = λ s i. passed_ends l.passed c.in-None.ensures.steps s i ∙ kid_made (kid (goal.at.returns c).After-child_costs-costs s i);
      room = l.room;
    }

pub overflow_sub-rest-2 : goal.overflow_sub-rest-2
overflow_sub-rest-2 c = omega (arith, sums (goal.at.overflow_sub-rest-2 c).Start)
