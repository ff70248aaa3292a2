-- Laws of the call for a first order.
--   file_asks       what `precedence_of` and `make` ask of a pair file that passes
--   refused-first   a refusal is the answer where one of causes 1 to 4 and 11 applies
--   makes-first     where none does, what `make` writes by the rows and the precedence is the first order, and its cost
--   made-first      that order, with zeros behind it, and its cost are the answer then
--   zeros-front     the part of the answer's places that is lent for the order has n
use mathlib.Core.Path.{◌≡◌, refl, ap, sym, ◌∙◌}
use mathlib.Core.List.{List, ◌++◌}
use mathlib.Core.Logic.{◌≢◌}
use Prim.Native.Nat.{ℕ, zero, suc, ◌≤◌}
use native.Mathlib.Omega.{arith}
use lib.ListN.{length, take, drop, replicate, length-take}
use Rattle.sizes.specs.Sizes.{most_stops, order_places}
use Rattle.lists.proofs.Padded.{append-zeros}
use Rattle.orders.specs.Pairs.{Pairing, pairs_of, respects}
use Rattle.orders.proofs.Order.{order-length}
use Rattle.stops.specs.Tables.{rows}
use Rattle.stops.specs.Legs.{legs, cost}
use Rattle.stops.specs.Bounds.{ends_away}
use Rattle.pairs.specs.Code.{OfStops, pairs_in, precedence_of}
use Rattle.pairs.specs.declared.Precedence.{Precedence}
use Rattle.pairs.proofs.GoodFile.{of_stops, its_pairing, its_respects}
use Rattle.answer.specs.Refusals.{number}
use Rattle.answer.specs.Checks.{first_cause}
use Rattle.answer.specs.declared.refusal.Refusal.{Refusal}
use Rattle.answer.proofs.Passes.{PairsPass, first_passed, pairs_pairing}
use Rattle.checks.proofs.RefusalLaws.{numbered}
use Rattle.first_answer.specs.Nearest.{nearest}
use Rattle.first_answer.specs.Exchanges.{improved}
use Rattle.first_answer.specs.First.{legs_of, nearest_of, first_of, respond, first_answer}
use Rattle.first_answer.specs.declared.FirstOrder.{FirstOrder}
use Rattle.first_answer.proofs.First.{first_of_allowed}
use Rattle.first_order.specs.Code.{allowed_by}

pub file_asks :
    {n : ℕ} {bytes : List ℕ} → n ≤ most_stops → PairsPass n bytes → OfStops bytes × Pairing n (pairs_in (precedence_of bytes))
file_asks {n} {bytes} few p = (of_stops n few bytes p.only p.once, its_pairing n few bytes p.only p.once)

-- as many zeros as an order has places
unfoldable pub zeros : List ℕ
zeros = replicate order_places 0

pub zeros-front : (n : ℕ) → n ≤ order_places → n ≡ length (take n zeros)
unfolding zeros
zeros-front n h = omega (arith, length-take n zeros)

module _ (n bound : ℕ) (table pairs : List ℕ) where
  pub refused-first :
      (r : Refusal) → number r ≡ first_cause n bound table pairs
      → ◌≡◌ {A = FirstOrder} (record { number = number r; cost = 0; order = replicate order_places 0 }) (first_answer n bound table pairs)
  unfolding first_answer respond
  refused-first r e = go (number r) (numbered r) ∙ ap (respond n bound table pairs) e
    where
      go : (j : ℕ) → j ≢ 0 → ◌≡◌ {A = FirstOrder} (record { number = j; cost = 0; order = replicate order_places 0 }) (respond n bound table pairs j)
      go zero h = absurd (h refl)
      go (suc j) h = refl

  -- the test by the precedence that the file makes is the test by its pairs
  same_test : {d : Precedence} → n ≤ most_stops → PairsPass n pairs → d ≡ precedence_of pairs → allowed_by d ≡ respects (pairs_of pairs)
  same_test few p is = ap (λ (d : Precedence). allowed_by d) is ∙ (λ i x. its_respects n few pairs p.only p.once x i)

  module _ (none : first_cause n bound table pairs ≡ 0) where
    pub makes-first :
        {t : List (List ℕ)} {d : Precedence} → t ≡ rows n (ends_away bound) table → d ≡ precedence_of pairs
        → (x : List ℕ) {v : ℕ} → x ≡ improved (legs t) (allowed_by d) (nearest n (legs t) (allowed_by d)) → v ≡ cost (legs t) x
        → (x ≡ first_of n bound table pairs) × (v ≡ cost (legs_of n bound table) x)
    unfolding legs_of nearest_of first_of
    makes-first loaded marked x made costs =
        let (passes, p) = first_passed n bound table pairs none in
        let test = same_test passes.priced.few p marked in
        (made ∙ rw (loaded, test), rw loaded at costs)

  pub made-first :
      0 ≡ first_cause n bound table pairs → (x : List ℕ) {v : ℕ} → x ≡ first_of n bound table pairs → v ≡ cost (legs_of n bound table) x
      → ◌≡◌ {A = FirstOrder} (record { number = 0; cost = v; order = x ++ drop n zeros }) (first_answer n bound table pairs)
  unfolding first_answer respond zeros
  made-first none x made costs =
      let (passes, p) = first_passed n bound table pairs (sym none) in
      let allowed = first_of_allowed n bound table pairs (pairs_pairing p) in
      let long : length (first_of n bound table pairs) ≡ n = order-length n (first_of n bound table pairs) allowed.order in
      rw (costs, made, append-zeros order_places n (first_of n bound table pairs) long) (ap (respond n bound table pairs) none)
