-- What the loops of the nearest-stop order need.
--   Found, found-ends    a loop that looks for the nearest stop of a set
--   nearest_in_in, nearest_in-next    the nearest of some stops is one of them, and it is the next that a node flies
--   Underway, underway_starts, underway_again    a loop that flies from a stop to the nearest of those that need not wait
--   underway_some, underway_stop    there is one until all are flown, and the nearest is one of the stops left
use mathlib.Core.Path.{◌≡◌, refl, ap, sym, ◌∙◌}
use mathlib.Core.Bool.{not}
use mathlib.Core.List.{List, [], ◌∷◌}
use mathlib.Core.Logic.{◌⊎◌, inl, inr}
use Prim.Native.Nat.{ℕ, suc, ◌+◌, ◌-◌, ◌^◌, ◌≤◌, ◌<◌}
use native.Mathlib.Omega.{arith}
use lib.Dec.{T}
use lib.ListN.{length}
use Rattle.sizes.specs.Sizes.{most_stops}
use Rattle.lists.specs.Lists.{In, without}
use Rattle.lists.proofs.Tests.{ordered}
use Rattle.lists.proofs.Members.{in_head}
use Rattle.lists.proofs.Empty.{in_nonempty}
use Rattle.lists.proofs.Distinct.{length_without}
use Rattle.orders.specs.Orders.{Node, left, last, size, extend}
use Rattle.orders.specs.Pairs.{Pair, Pairing, respects, waits, ready}
use Rattle.orders.proofs.Sets.{empty_set, size-left, last-extend, left-extend}
use Rattle.orders.proofs.Pairs.{respects_root, ready-respects, in_ready, ready_some}
use Rattle.stops.specs.Legs.{Legs}
use Rattle.stops.specs.Code.{stops_in}
use Rattle.stops.proofs.SetBits.{stops_in_zero, stops_in_range, stops_in-distinct, stops_in-without, all_small, stops_in-all}
use Rattle.first_answer.specs.Nearest.{cheapest, to_nearest, next_stops, onward, nearest}
use Rattle.first_answer.proofs.Cheapest.{cheapest_in}
use Rattle.first_answer.proofs.NearestOrder.{next_stops-ready}
use Rattle.first_order.specs.Code.{nearest_in}

-- The nearest stop of a set is found so: with `found` the nearest of the stops passed and `left` the others, the nearest of `found` and of
-- those left stays `goal`.
pub record Found (f : ℕ → ℕ) (goal found left : ℕ) : Type 0 where
  pub small : left < 2 ^ most_stops
  pub inside : found ≤ most_stops
  pub same : cheapest f found (stops_in left) ≡ goal

pub found-ends : {f : ℕ → ℕ} {goal found left : ℕ} → Found f goal found left → left ≡ 0 → found ≡ goal
found-ends {f} {goal} {found} l e = sym (ap (cheapest f found) (ap stops_in e ∙ stops_in_zero)) ∙ l.same

nearest_in_in : (f : ℕ → ℕ) (stops : List ℕ) → 1 ≤ length stops → In (nearest_in f stops) stops
nearest_in_in f [] h = absurd (omega arith)
nearest_in_in f (s ∷ ss) h = cheapest_in f s ss

nearest_in-next :
    (L : Legs) (x : Node) (stops : List ℕ) → 1 ≤ length stops → to_nearest L x stops ≡ extend x (nearest_in (L.leg (last x)) stops)
nearest_in-next L x [] h = absurd (omega arith)
nearest_in-next L x (s ∷ ss) h = refl

-- The nearest-stop order is flown so: x, the node so far, has k stops, respects the pairs and ends at `place`, `rest` is the set of the others of the n
-- stops, and as many stops more, each the nearest that may be flown, still lead to the nearest-stop order.
pub record Underway (n : ℕ) (L : Legs) (pairs : List Pair) (x : Node) (k place rest : ℕ) : Type 0 where
  pub at : place ≡ last x
  pub inside : place ≤ most_stops
  pub small : rest < 2 ^ most_stops
  pub leaves : stops_in rest ≡ left n x
  pub so_far : T (respects pairs x)
  pub many : k + length (stops_in rest) ≡ n
  pub same : onward n L (respects pairs) (length (stops_in rest)) x ≡ nearest n L (respects pairs)

pub underway_starts : (n : ℕ) (L : Legs) (pairs : List Pair) → n ≤ most_stops → Underway n L pairs [] 0 0 (2 ^ n - 1)
unfolding last size nearest
underway_starts n L pairs few =
    let many : length (stops_in (2 ^ n - 1)) ≡ n = omega (arith, ap length (stops_in-all n few), size-left n [], ap length (empty_set n)) in
    record {
      at = refl;
      inside = omega arith;
      small = omega (arith, all_small n few);
      leaves = stops_in-all n few;
      so_far = respects_root pairs;
      many = omega arith;
      same = ap (λ (k : ℕ). onward n L (respects pairs) k []) many;
    }

module _ {n : ℕ} {L : Legs} {pairs : List Pair} {x : Node} {k place rest : ℕ} (u : Underway n L pairs x k place rest) where
  -- while fewer than n stops are flown, with the set of those that need not wait
  module _ (ok : Pairing n pairs) (h : k < n) (set : ℕ) (these : stops_in set ≡ ready pairs (stops_in rest)) where
    some_ready : 1 ≤ length (stops_in set)
    some_ready = go (stops_in rest) refl
      where
        go : (stops : List ℕ) → stops_in rest ≡ stops → 1 ≤ length (stops_in set)
        go [] e = absurd (omega (arith, u.many, ap length e))
        go (s ∷ ss) e = let (r, m) = ready_some ok (stops_in rest) s (rw e in_head) in rw these (in_nonempty m)

    pub underway_some : 0 < set
    underway_some = go (ordered set 0)
      where
        go : (set ≤ 0) ⊎ (0 < set) → 0 < set
        go (inl z) =
            let none : set ≡ 0 = omega arith in
            omega (arith, some_ready, ap length (ap stops_in none ∙ stops_in_zero))
        go (inr p) = p

    -- the nearest of those, by whatever legs, is one of the stops left, and need not wait
    nearest-ready : (f : ℕ → ℕ) (s : ℕ) → s ≡ nearest_in f (stops_in set) → In s (stops_in rest) × T (not (waits pairs (stops_in rest) s))
    nearest-ready f s e = in_ready pairs (stops_in rest) s (rw (e, ← these) (nearest_in_in f (stops_in set) some_ready))

    pub underway_stop : (f : ℕ → ℕ) (s : ℕ) → s ≡ nearest_in f (stops_in set) → In s (stops_in rest) × (s ≤ most_stops)
    underway_stop f s e = let (i, w) = nearest-ready f s e in (i, (stops_in_range rest u.small s i).1)

    -- which are the stops that may be flown next
    next-stops : next_stops n (respects pairs) x ≡ stops_in set
    next-stops = next_stops-ready n ok x u.so_far ∙ ap (ready pairs) (sym u.leaves) ∙ sym these

    pub underway_again :
        (s others : ℕ) → s ≡ nearest_in (L.leg place) (stops_in set) → others ≡ rest - 2 ^ (s - 1) → Underway n L pairs (extend x s) (suc k) s others
    underway_again s others e o =
        let (i, w) = nearest-ready (L.leg place) s e in
        let fewer : stops_in others ≡ without s (stops_in rest) = ap stops_in o ∙ (stops_in-without rest u.small s i).1 in
        let shorter : length (stops_in rest) ≡ suc (length (stops_in others)) =
        length_without s (stops_in-distinct rest u.small) i ∙ ap (λ (l : List ℕ). suc (length l)) (sym fewer) in
        let next : to_nearest L x (next_stops n (respects pairs) x) ≡ extend x s =
        ap (to_nearest L x) next-stops ∙ nearest_in-next L x (stops_in set) some_ready
        ∙ ap (extend x) (sym (e ∙ ap (λ (p : ℕ). nearest_in (L.leg p) (stops_in set)) u.at)) in
        record {
          at = sym (last-extend x s);
          inside = (underway_stop (L.leg place) s e).1;
          small = omega (arith, u.small);
          leaves = fewer ∙ ap (without s) u.leaves ∙ sym (left-extend n x s);
          so_far = rw (ready-respects ok x s u.so_far (rw u.leaves at i)) (rw u.leaves at w);
          many = omega (arith, u.many);
          same =
              ap (onward n L (respects pairs) (length (stops_in others))) (sym next)
              ∙ ap (λ (j : ℕ). onward n L (respects pairs) j x) (sym shorter)
              ∙ u.same;
        }
