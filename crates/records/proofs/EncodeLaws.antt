-- The laws of a search on the records of nodes, for every day that is a walk.
--   encode_child        the bound of a child, from the set of its parent's record
--   encode-smaller      of nodes of one length, the order of a record is smaller just if the node's is
--   encode-dominates    dominance of records is dominance of nodes
use mathlib.Core.Path.{◌≡◌, refl, ap, sym, ◌∙◌, subst}
use mathlib.Core.Bool.{Bool}
use mathlib.Core.Logic.{◌⊎◌, inl, inr}
use Prim.Native.Nat.{ℕ, ◌+◌, ◌-◌, ◌^◌, ◌≤◌}
use native.Mathlib.Omega.{arith}
use lib.Dec.{T}
use Rattle.sizes.specs.Sizes.{most_stops}
use Rattle.lists.specs.Lists.{In}
use Rattle.lists.proofs.Tests.{same_tests, Tied}
use Rattle.orders.specs.Orders.{Node, set_of, left, mask, last, smaller, size, extend, Partial}
use Rattle.orders.proofs.Partial.{partial_size}
use Rattle.orders.proofs.Smaller.{irreflexive, tied_le, le_tied}
use Rattle.days.specs.Days.{Day}
use Rattle.days.specs.Code.{Reckoning}
use Rattle.days.proofs.Walk.{Alike, Walk, alike_size}
use Rattle.stops.specs.Code.{stops_in, last_stop, rec_smaller, rec_dominates}
use Rattle.stops.specs.declared.node_record.Record.{Record}
use Rattle.stops.proofs.Dominance.{Precedes, Dominates, dominates_parts, parts_dominate}
use Rattle.records.specs.Code.{encode}
use Rattle.records.proofs.SmallerWords.{words-smaller}
use Rattle.records.proofs.Mask.{stops-set, stops_child}
use Rattle.records.proofs.Encode.{partial_digits, partial_short, encode-last}

module _ {n most : ℕ} {D : Day} {R : Reckoning} (walk : Walk n most D R) (few : n ≤ most_stops) where
  pub encode_child :
      (k : ℕ) → k ≤ most → (x : Node) (s : ℕ) → In s (left n x)
      → D.bound k (extend x s)
      ≡ D.path (extend x s) + R.ahead k (R.after (R.place x) s) (stops_in (2 ^ n - 1 - mask (set_of n x) - 2 ^ (s - 1)))
  encode_child k h x s m =
      rw (stops_child n few x s m, walk.bound_ahead k h (extend x s), walk.place-extend x s m) refl

pub encode-smaller :
    (n : ℕ) → n ≤ most_stops → (D : Day) (k : ℕ) (w x : Node) → Partial n w → Partial n x → size n w ≡ size n x
    → rec_smaller (encode n D k w) (encode n D k x) ≡ smaller w x
unfolding rec_smaller encode
encode-smaller n few D k w x p q e =
    words-smaller w x (partial_digits n few w p) (partial_digits n few x q) (omega (arith, partial_size n w p, partial_size n x q))
    (partial_short n few w p)

-- Both dominances ask for one set, one place, and the cheaper path or, where both cost the same, the smaller order: the sets' words are equal just when
-- the sets are, the places are the last stops, and the order words tell which order is smaller.
module _
    {n most : ℕ} {D : Day} {R : Reckoning} (walk : Walk n most D R) (ends : (x : Node) → R.place x ≡ last x) (few : n ≤ most_stops) (k : ℕ)
    (w x : Node) (p : Partial n w) (q : Partial n x)
  where
    -- their records
    w' : Record
    w' = encode n D k w

    x' : Record
    x' = encode n D k x

    last-place : (y : Node) → Partial n y → last_stop (encode n D k y) ≡ R.place y
    last-place y r = encode-last n few D k y r ∙ sym (ends y)

    smaller-same : size n w ≡ size n x → rec_smaller w' x' ≡ smaller w x
    unfolding w' x'
    smaller-same e = encode-smaller n few D k w x p q e

    -- what dominates on records is like x and not x
    dominates_alike : Dominates w' x' → Alike n D R w x × (w ≡ x → ⊥)
    unfolding w' x' encode
    dominates_alike d =
        let first : Tied (D.path w) (D.path x) (smaller w x) =
        subst (λ (less : Bool). Tied (D.path w) (D.path x) less) (smaller-same d.size) d.precedes in
        let (low, tie) = tied_le (D.path w) (D.path x) w x first in (
          record {
            stops = sym (stops-set n few w) ∙ ap stops_in d.set ∙ stops-set n few x;
            place = sym (last-place w p) ∙ d.last ∙ last-place x q;
            cheaper = low;
            tie = tie;
          },
          λ e. never_first (subst (λ (y : Node). Tied (D.path y) (D.path x) (smaller y x)) e first),
        )
      where
        never_first : Tied (D.path x) (D.path x) (smaller x x) → ⊥
        never_first (inl l) = omega arith
        never_first (inr (e, s)) = irreflexive x s

    -- and what is like x and not x dominates
    alike_dominates : Alike n D R w x → (w ≡ x → ⊥) → Dominates w' x'
    unfolding w' x' encode
    alike_dominates a differs = record {
      size = alike_size a;
      set = ap mask a.stops;
      last = last-place w p ∙ a.place ∙ sym (last-place x q);
      precedes = go (le_tied (D.path w) (D.path x) w x a.cheaper a.tie);
    }
      where
        go : (w ≡ x) ⊎ Tied (D.path w) (D.path x) (smaller w x) → Precedes w' x'
        go (inl e) = absurd (differs e)
        go (inr first) = subst (λ (less : Bool). Tied (D.path w) (D.path x) less) (sym (smaller-same (alike_size a))) first

    pub encode-dominates : rec_dominates (encode n D k w) (encode n D k x) ≡ D.dominates w x
    unfolding w' x'
    encode-dominates = same_tests (rec_dominates w' x') (D.dominates w x) to back
      where
        pick : (w ≡ x → ⊥) → (w ≡ x) ⊎ T (D.dominates w x) → T (D.dominates w x)
        pick differs (inl e) = absurd (differs e)
        pick differs (inr t) = t

        to : T (rec_dominates w' x') → T (D.dominates w x)
        to t = let (a, differs) = dominates_alike (dominates_parts w' x' t) in pick differs (walk.alike_dominates w x a)

        back : T (D.dominates w x) → T (rec_dominates w' x')
        back t =
            parts_dominate w' x'
            (alike_dominates (walk.dominator_alike w x t) (λ e. walk.irreflexive x (subst (λ (z : Node). T (D.dominates z x)) e t)))
