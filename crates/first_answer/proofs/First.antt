-- What requests A.1, A.4 and A.5 say of a first order (specs/Request), proved, a theorem for each type; A.6 is in FirstPairs. Besides, for the crates
-- above:
--   first_of_allowed    where the pairs pass, the first order of a table is an order that respects them
--   promised_places    an answer has as many places as there may be stops
--   first_on_lem           an answer by its legs, its test of what is allowed and its cause
use mathlib.Core.Path.{◌≡◌, refl, sym, ap, ap₂, subst, ◌∙◌}
use mathlib.Core.Bool.{Bool, true, false, or-true, and-false}
use mathlib.Core.List.{List, []}
use mathlib.Core.Logic.{◌⊎◌, inl, ◌≢◌}
use Prim.Native.Nat.{ℕ, zero, suc, ◌≤◌, ◌<◌}
use native.Mathlib.Omega.{arith}
use lib.Dec.{T}
use lib.ListN.{length, take, replicate, length-append, length-replicate}
use borrow.Author.Tests.{lt-leb}
use Rattle.sizes.specs.Sizes.{most_stops, order_places}
use Rattle.lists.specs.Lists.{padded}
use Rattle.lists.proofs.Tests.{to_true}
use Rattle.lists.proofs.Padded.{take-padded}
use Rattle.orders.specs.Orders.{Node, Order, is_order}
use Rattle.orders.specs.Pairs.{pairs_of, Pairing, respects, Allowed}
use Rattle.orders.proofs.Order.{order-length, order_is_order}
use Rattle.orders.proofs.Pairs.{respects_root, respects-same, orders_with_in}
use Rattle.stops.specs.Tables.{flying, counted, rows}
use Rattle.stops.specs.Legs.{Legs, legs, path, cost}
use Rattle.stops.specs.Bounds.{ends_away}
use Rattle.stops.specs.Stops.{day, day_on}
use Rattle.stops.specs.Away.{day_away, day_away_on}
use Rattle.stops.proofs.LegTable.{leg_in_rows}
use Rattle.stops.proofs.Charges.{day_cost_pays, uncharged_rows}
use Rattle.stops.proofs.Away.{away_cost}
use Rattle.answer.specs.Call.{call_of}
use Rattle.answer.specs.Answer.{day_of}
use Rattle.answer.specs.Demands.{Planner, RunIsWritten}
use Rattle.answer.specs.Checks.{cause₅, against_pairs, first_cause, job_cause, pair_cause, cause}
use Rattle.answer.proofs.AsBefore.{table_causes_as_before}
use Rattle.answer.proofs.Passes.{TablePasses, first_passed, pairs_pairing, known_bound}
use Rattle.answer.proofs.Ending.{first_cause_small}
use Rattle.answer.proofs.Demand3.{cheapest_of_all}
use Rattle.first_answer.specs.Exchanges.{exchanged}
use Rattle.first_answer.specs.First.{legs_of, nearest_of, first_of, respond, first_answer, Promised}
use Rattle.first_answer.specs.declared.FirstOrder.{FirstOrder}
use Rattle.first_answer.specs.Request.{
  CheapestIsFirst,
  ExchangesEnd,
  FewExchanges,
  ExchangesImprove,
  shown,
  Given,
  GivesOrder,
  OwnCost,
  NoExchangeCheaper,
  NoDearerThanNearest,
  RefusedByCause,
  PassesAsStart,
  PlanNoDearer,
  FirstFlies,
  FirstPays,
  FirstUncharged,
  FirstEndsHome,
  FirstEndsAway,
  FirstByEnd,
  first_on,
}
use Rattle.first_answer.proofs.Cheapest.{cheapest-first}
use Rattle.first_answer.proofs.Exchanged.{exchanged-order}
use Rattle.first_answer.proofs.NearestOrder.{nearest-allowed}
use Rattle.first_answer.proofs.Settled.{improved_settles, improved_only, settles_few, improved-cost, improved-least, improved-order, improved-allowed}

pub cheapest_is_first : CheapestIsFirst
cheapest_is_first A f x xs = cheapest-first f x xs

pub exchanges-end : ExchangesEnd
exchanges-end L allowed x = (improved_settles L allowed x, improved_only L allowed x)

pub few_exchanges : FewExchanges
few_exchanges L allowed x y s = settles_few L allowed s

pub exchanges_improve : ExchangesImprove
exchanges_improve L allowed x = (improved-cost L allowed x, improved-least L allowed x)

-- ---- the first order of a table

module _ (n bound : ℕ) (table pairs : List ℕ) where
  abbrev L : Legs
  L = legs_of n bound table

  abbrev allowed : Node → Bool
  allowed = respects (pairs_of pairs)

  abbrev near : Node
  near = nearest_of n bound table pairs

  abbrev first : Node
  first = first_of n bound table pairs

  module _ (ok : Pairing n (pairs_of pairs)) where
    nearest_of-allowed : Allowed n (pairs_of pairs) near
    unfolding nearest_of
    nearest_of-allowed = nearest-allowed n ok L

    pub first_of_allowed : Allowed n (pairs_of pairs) first
    unfolding first_of
    first_of_allowed = record {
      order = improved-order L allowed n near nearest_of-allowed.order;
      respected = improved-allowed L allowed near nearest_of-allowed.respected;
    }

    first_of_length : length first ≡ n
    first_of_length = order-length n first first_of_allowed.order

  first_of_cost : cost L first ≤ cost L near
  unfolding first_of
  first_of_cost = improved-cost L allowed near

  first_of_least : (p q : ℕ) → p < q → q < length first → T (allowed (exchanged first p q)) → cost L first ≤ cost L (exchanged first p q)
  unfolding first_of
  first_of_least p q h k a = improved-least L allowed near p q h k a

  -- what is returned with number 0
  pub record Shows (r : FirstOrder) : Type 0 where
    pub passes : TablePasses n table
    pub pairing : Pairing n (pairs_of pairs)
    pub costs : r.cost ≡ cost L first
    pub places : r.order ≡ padded order_places first
    pub stops : shown n r ≡ first

  given_shows : (r : FirstOrder) → Given n bound table pairs r → Shows r
  unfolding first_answer respond
  given_shows r (e, z) = go (first_cause n bound table pairs) refl e
    where
      go : (k : ℕ) → first_cause n bound table pairs ≡ k → r ≡ respond n bound table pairs k → Shows r
      go zero none e =
          let (passes, whole) = first_passed n bound table pairs none in
          let ok : Pairing n (pairs_of pairs) = pairs_pairing whole in
          record {
            passes = passes;
            pairing = ok;
            costs = ap (λ (a : FirstOrder). a.cost) e;
            places = ap (λ (a : FirstOrder). a.order) e;
            stops =
                ap (λ (a : FirstOrder). take n a.order) e
                ∙ subst (λ (k : ℕ). take k (padded order_places first) ≡ first) (first_of_length ok) (take-padded order_places first);
          }
      go (suc k) some e = absurd (omega (arith, ap (λ (a : FirstOrder). a.number) e, z))

-- ---- what is returned

pub gives_order : GivesOrder
gives_order n bound table pairs r g =
    let s = given_shows n bound table pairs r g in
    (rw s.stops (first_of_allowed n bound table pairs s.pairing), rw s.stops s.places)

pub own-cost : OwnCost
own-cost n bound table pairs r g = let s = given_shows n bound table pairs r g in rw s.stops s.costs

pub no_exchange_cheaper : NoExchangeCheaper
no_exchange_cheaper n bound table pairs r g p q h k a =
    let s = given_shows n bound table pairs r g in
    let inside : q < length (first_of n bound table pairs) = omega (arith, first_of_length n bound table pairs s.pairing) in
    rw (s.stops, s.costs) (first_of_least n bound table pairs p q h inside (rw s.stops at a))

pub no_dearer_than_nearest : NoDearerThanNearest
no_dearer_than_nearest n bound table pairs r g =
    let s = given_shows n bound table pairs r g in
    (nearest_of-allowed n bound table pairs s.pairing, rw s.costs (first_of_cost n bound table pairs))

pub refused_by_cause : RefusedByCause
unfolding first_answer respond
refused_by_cause n bound table pairs r e = go (first_cause n bound table pairs) (first_cause_small n bound table pairs) e
  where
    zeros : FirstOrder
    zeros = record { number = r.number; cost = 0; order = replicate order_places 0 }

    go :
        (k : ℕ) → (k ≤ 4) ⊎ (k ≡ 11) → r ≡ respond n bound table pairs k
        → (r.number ≡ k) × ((r.number ≤ 4) ⊎ (r.number ≡ 11)) × (r.number ≢ 0 → r ≡ zeros)
    go zero h e =
        let none : r.number ≡ 0 = ap (λ (a : FirstOrder). a.number) e in
        (none, inl (omega arith), λ some. absurd (some none))
    go (suc k) h e =
        let number : r.number ≡ suc k = ap (λ (a : FirstOrder). a.number) e in
        (number, subst (λ (j : ℕ). (j ≤ 4) ⊎ (j ≡ 11)) (sym number) h, λ some. e ∙ rw number)

pub promised_places : (n bound : ℕ) (table pairs : List ℕ) (r : FirstOrder) → Promised n bound table pairs r → length r.order ≡ order_places
unfolding first_answer respond padded
promised_places n bound table pairs r e = go (first_cause n bound table pairs) refl e
  where
    go : (k : ℕ) → first_cause n bound table pairs ≡ k → r ≡ respond n bound table pairs k → length r.order ≡ order_places
    go zero none e =
        let (passes, whole) = first_passed n bound table pairs none in
        let few : n ≤ most_stops = passes.priced.few in
        rw e (simp (length-append, length-replicate) (omega (arith, first_of_length n bound table pairs (pairs_pairing whole))))
    go (suc k) some e = rw e refl

pub passes_as_start : PassesAsStart
unfolding cause₅ against_pairs job_cause pair_cause call_of cause
passes_as_start job bound table pairs r g =
    let a = (gives_order job.n bound table pairs r g).0 in
    let x : Node = shown job.n r in
    let order : is_order job.n x ≡ true = to_true (is_order job.n x) (order_is_order job.n x a.order) in
    let kept : respects (pairs_of pairs) x ≡ true = to_true (respects (pairs_of pairs) x) a.respected in
    let none : respects (pairs_of pairs) [] ≡ true = to_true (respects (pairs_of pairs) []) (respects_root (pairs_of pairs)) in
    let passes : cause₅ job.n x ≡ false = rw (order, or-true) in
    let along : against_pairs job.n x pairs ≡ false = rw (kept, and-false) in
    let free : against_pairs job.n [] pairs ≡ false = rw (none, and-false) in
    (passes, along, λ later. rw passes, λ budget pool. rw (passes, along, free))

-- whatever planner answers as the written run does
pub plan_no_dearer : (P : Planner) → RunIsWritten P → PlanNoDearer P
unfolding day_of day_on day legs_of
plan_no_dearer P run c a bound pairs r p h ends same g =
    let n : ℕ = c.job.n in
    let f : Allowed n (pairs_of pairs) (shown n r) = (gives_order n bound c.table pairs r g).0 in
    let allowed : Allowed n (pairs_of c.pairs) (shown n r) = record {
      order = f.order;
      respected = subst T (respects-same (pairs_of pairs) (pairs_of c.pairs) same (shown n r)) f.respected;
    } in
    rw (own-cost n bound c.table pairs r g, ends)
    ((cheapest_of_all c a (run c a p) h).least (shown n r) (orders_with_in n (pairs_of c.pairs) (shown n r) allowed))

-- ---- request A.4

pub first_flies : FirstFlies
unfolding legs_of legs rows flying
first_flies n bound table few i j h k = leg_in_rows n (counted (ends_away bound) (flying n table)) few i j h k

pub first_pays : FirstPays
unfolding legs_of day_on day
first_pays n bound table pairs r g =
    let passed = (given_shows n bound table pairs r g).passes in
    own-cost n bound table pairs r g
    ∙ day_cost_pays n passed.some passed.priced.few (ends_away bound) table (shown n r) (gives_order n bound table pairs r g).0.order

-- the answer by some legs, some test and some number, and which they are
pub first_on_lem :
    (n bound : ℕ) (table pairs : List ℕ)
    → first_answer n bound table pairs
    ≡ first_on (legs (rows n (ends_away bound) table)) (respects (pairs_of pairs)) n (first_cause n bound table pairs)
unfolding first_answer respond first_of nearest_of legs_of
first_on_lem n bound table pairs = at (first_cause n bound table pairs)
  where
    at : (k : ℕ) → respond n bound table pairs k ≡ first_on (legs (rows n (ends_away bound) table)) (respects (pairs_of pairs)) n k
    at zero = refl
    at (suc k) = refl

pub first_uncharged : FirstUncharged
unfolding first_cause
first_uncharged n bound table pairs r e none =
    e ∙ first_on_lem n bound table pairs
    ∙ ap₂ (λ (L : Legs) (k : ℕ). first_on L (respects (pairs_of pairs)) n k) (ap legs (uncharged_rows n (ends_away bound) table none))
    (table_causes_as_before n table none _)

-- ---- request A.5

-- bounds 0 and 1 are for a day that ends at home
home_bound : (bound : ℕ) → bound ≤ 1 → ends_away bound ≡ false
unfolding ends_away
home_bound bound h = lt-leb 2 bound (omega arith)

pub first_ends_home : FirstEndsHome
first_ends_home n bound table pairs r e h =
    e ∙ first_on_lem n bound table pairs
    ∙ ap₂ (λ (away : Bool) (k : ℕ). first_on (legs (rows n away table)) (respects (pairs_of pairs)) n k) (home_bound bound h)
    (known_bound n bound table pairs (omega arith))

pub first_ends_away : FirstEndsAway
unfolding legs_of day_on day day_away_on day_away
first_ends_away n bound table pairs r g away =
    let passed = (given_shows n bound table pairs r g).passes in
    let order : Order n (shown n r) = (gives_order n bound table pairs r g).0.order in
    let L : Legs = legs (rows n false table) in
    let long : length (shown n r) ≡ n = order-length n (shown n r) order in
    let costs : (x : Node) → Order n x → cost (legs (rows n (ends_away bound) table)) x ≡ path L x =
    λ x o. rw away (away_cost n passed.some passed.priced.few table x o) in
    let near = no_dearer_than_nearest n bound table pairs r g in (
      own-cost n bound table pairs r g ∙ costs (shown n r) order,
      λ p q h k a.
          subst (λ (v : ℕ). r.cost ≤ v) (costs (exchanged (shown n r) p q) (exchanged-order (shown n r) p q (omega (arith, long)) (omega (arith, long)) n order))
          (no_exchange_cheaper n bound table pairs r g p q h k a),
      subst (λ (v : ℕ). r.cost ≤ v) (costs (nearest_of n bound table pairs) near.0.order) near.1,
    )

pub first_by_end : FirstByEnd
first_by_end n a b table pairs r s e f h k ends =
    e ∙ first_on_lem n a table pairs
    ∙ ap₂ (λ (away : Bool) (k : ℕ). first_on (legs (rows n away table)) (respects (pairs_of pairs)) n k) ends
    (known_bound n a table pairs h ∙ sym (known_bound n b table pairs k))
    ∙ sym (f ∙ first_on_lem n b table pairs)
