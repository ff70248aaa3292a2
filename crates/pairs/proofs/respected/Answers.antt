-- The goals of `respected` that the search leaves.
use mathlib.Core.Path.{◌≡◌, sym, subst}
use Prim.Native.Nat.{◌-◌, ◌*◌, ◌^◌, ◌%◌, ◌≤◌}
use native.Mathlib.Omega.{arith}
use Rattle.sizes.specs.Sizes.{most_stops}
use Rattle.lists.proofs.Parts.{in_get_or}
use Rattle.orders.specs.Pairs.{Pairing}
use Rattle.stops.proofs.SetBits.{all_small}
use Rattle.pairs.specs.Code.{pairs_in}
use Rattle.pairs.proofs.PairLaws.{holding, paired, unpaired, respects-none, waits_some, waits-none}
use Rattle.pairs.proofs.LoopLaws.{respecting_starts, respecting_left, respecting_fails, respecting_again}
use Rattle.pairs.proofs.respected.Goals as goal
use Rattle.pairs.proofs.respected.Goals.{After-from-s, In-Some}

pub returns-in_default : goal.returns-in_default
returns-in_default c = rw (unpaired c.args.precedence c.in_default.is) (sym (respects-none _))

pub loop-s-init : goal.loop-s-init
loop-s-init c =
    let all : 1 * 2 ^ c.args.n % 2 ^ 32 - 1 ≡ 2 ^ c.args.n - 1 = omega (arith, all_small c.args.n c.requires.0) in
    rw all (respecting_starts c.args.n _ _ c.requires.0)

-- there are pairs, by the sets alone, and they are apart
apart : (c : In-Some) → Pairing c.args.n (pairs_in (holding c.in-Some.before))
apart c = subst (Pairing c.args.n) (paired c.args.precedence c.in-Some.is) c.requires.1.0

-- the next stop is one of a day
stop : (c : After-from-s) → let s = c.from-s.result in (1 ≤ s) × (s ≤ most_stops)
stop c =
    rw c.from-s.ensures
    (omega (arith, c.requires.0, c.requires.1.1.only _ (in_get_or c.args.x.now c.loop-s.s-index 0 c.loop-s-test.true)))

pub bounds-before-s : goal.bounds-before-s
bounds-before-s c = omega (arith, stop (goal.at.bounds-before-s c).After-from-s)

pub returns-then-before-s-ne0 : goal.returns-then-before-s-ne0
returns-then-before-s-ne0 c =
    let (some, few) = stop (goal.at.returns-then-before-s-ne0 c).After-from-s in
    let l = c.loop-s.invariant in
    rw (paired c.args.precedence c.in-Some.is)
    (sym
    (respecting_fails (apart (goal.at.returns-then-before-s-ne0 c).In-Some) c.requires.1.1 l c.loop-s-test.true c.from-s.ensures
    (waits_some _ _ l.small _ some few c.if-before-s-ne0.true)))

pub without-rest-requires : goal.without-rest-requires
without-rest-requires c =
    let l = c.loop-s.invariant in
    (l.small, respecting_left (apart (goal.at.without-rest-requires c).In-Some) c.requires.1.1 l c.loop-s-test.true c.from-s.ensures)

pub loop-s-preserved : goal.loop-s-preserved
loop-s-preserved c =
    let (some, few) = stop (goal.at.loop-s-preserved c).After-from-s in
    let l = c.loop-s.invariant in
    respecting_again (apart (goal.at.loop-s-preserved c).In-Some) c.requires.1.1 l c.loop-s-test.true c.from-s.ensures
    (waits-none _ _ l.small _ some few c.if-before-s-ne0.false) c.without-rest.ensures
