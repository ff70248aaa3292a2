-- The pairs that a precedence has.
--   Held, pairs_in_lem            a pair is one of them just if its first stop is of the set that the second one has
--   holding, paired           where there are pairs, they lie in the sets alone
--   unpaired, respects-none   where there are none, every node respects them
--   waits_some, waits-none    a stop has to wait just if that set has a stop to come
use mathlib.Core.Path.{◌≡◌, refl, ap, sym, subst}
use mathlib.Core.Bool.{Bool, true, false}
use Rattle.std.specs.Prelude.{None, Some}
use mathlib.Core.List.{List, []}
use mathlib.Core.Logic.{◌≢◌, ◌↔◌}
use Prim.Native.Nat.{ℕ, ◌+◌, ◌^◌, ◌≤◌, ◌<◌}
use native.Mathlib.Omega.{arith}
use lib.Bits.{bit_and}
use lib.Dec.{T, T_not, not_T}
use lib.ListN.{get_or}
use Rattle.sizes.specs.Sizes.{most_stops}
use Rattle.lists.specs.Lists.{In, from, each}
use Rattle.lists.proofs.Tests.{not_not, to_true, to_false}
use Rattle.lists.proofs.Members.{in_map, map_in, in_each, each_in, in_from, from_in}
use Rattle.orders.specs.Orders.{Node}
use Rattle.orders.specs.Pairs.{Pair, respects, waits}
use Rattle.orders.proofs.Pairs.{in_waits, waits_in}
use Rattle.stops.specs.Code.{stops_in}
use Rattle.stops.proofs.SetJoin.{both_none, both_some}
use Rattle.pairs.specs.Code.{pairs_to, pairs_in}
use Rattle.pairs.specs.declared.Precedence.{Precedence}

-- the first stop is of the set of the second
abbrev pub Held : List ℕ → Pair → Type 0
Held before p = (1 ≤ p.1) × (p.1 ≤ most_stops) × In p.0 (stops_in (get_or before p.1 0))

in_pairs_to : (before : List ℕ) (p : Pair) (s : ℕ) → In p (pairs_to before s) → (s ≡ p.1) × In p.0 (stops_in (get_or before s 0))
in_pairs_to before p s m =
    let (a, i, e) = in_map (λ a. (a, s)) (stops_in (get_or before s 0)) p m in
    (ap (λ (q : Pair). q.1) (sym e), subst (λ (r : ℕ). In r (stops_in (get_or before s 0))) (ap (λ (q : Pair). q.0) (sym e)) i)

-- the precedence that has pairs, by its sets alone
abbrev pub holding : List ℕ → Precedence
holding before = record { before = Some before }

pub pairs_in_lem : (before : List ℕ) (p : Pair) → In p (pairs_in (holding before)) ↔ Held before p
unfolding pairs_in
pairs_in_lem before p = (there, λ h. each_in (pairs_to before) (from 1 most_stops) p.1 p (from_in 1 most_stops p.1 h.0 (omega arith)) (map_in (λ a. (a, p.1)) h.2))
  where
    there : In p (each (pairs_to before) (from 1 most_stops)) → Held before p
    there m =
        let (s, i, j) = in_each (pairs_to before) (from 1 most_stops) p m in
        let (e, k) = in_pairs_to before p s j in
        let h : (1 ≤ s) × (s < 1 + most_stops) = in_from 1 most_stops s i in
        (omega arith, omega arith, rw e at k)

pub paired : (d : Precedence) {before : List ℕ} → d.before ≡ Some before → pairs_in d ≡ pairs_in (holding before)
unfolding pairs_in
paired d e = rw e

pub unpaired : (d : Precedence) → d.before ≡ None → pairs_in d ≡ []
unfolding pairs_in
unpaired d e = rw e

pub respects-none : (x : Node) → respects [] x ≡ true
unfolding respects
respects-none x = refl

-- The set of stop s and the stops to come have one in common just if a pair puts one of these before s.
module _ (before : List ℕ) (rest : ℕ) (small : rest < 2 ^ most_stops) (s : ℕ) (some : 1 ≤ s) (few : s ≤ most_stops) where
  abbrev pairs : List Pair
  pairs = pairs_in (holding before)

  abbrev set : ℕ
  set = get_or before s 0

  abbrev waiting : Bool
  waiting = waits pairs (stops_in rest) s

  pub waits_some : bit_and set rest ≢ 0 → waiting ≡ true
  waits_some h =
      to_true waiting (not_not waiting (λ w. h (both_none rest small set (λ a i j. T_not waiting w (go a i j)))))
    where
      go : (a : ℕ) → In a (stops_in set) → In a (stops_in rest) → T waiting
      go a i j = waits_in pairs (stops_in rest) (a, s) ((pairs_in_lem before (a, s)).1 (some, few, i)) j

  pub waits-none : bit_and set rest ≡ 0 → waiting ≡ false
  waits-none h = to_false waiting (not_T waiting (λ w. go (in_waits pairs (stops_in rest) s w)))
    where
      go : (p : Pair) × In p pairs × (s ≡ p.1) × In p.0 (stops_in rest) → ⊥
      go (p, m, e, j) = both_some rest small set p.0 (rw e ((pairs_in_lem before p).0 m).2) j h
