-- The precedence that a pair file makes.
--   precedence_none, precedence_some    it has sets where the file has pairs
--   precedence_pairs    its pairs are those of the file
--   Marking, marking_stops, marking_again, marking_ends    the invariant of the loop that makes it
use mathlib.Core.Path.{◌≡◌, refl, sym, ◌∙◌}
use mathlib.Core.List.Memᴰ
use mathlib.Core.List.{List, [], ◌∷◌, ◌++◌}
use mathlib.Core.Logic.{◌⊎◌, inl, inr, ◌≢◌, ◌↔◌}
use Prim.Native.Nat.{ℕ, ◌-◌, ◌^◌, ◌≤◌, ◌<◌}
use native.Mathlib.Omega.{arith}
use lib.ListN.{length, get_or, set, replicate, length-set, length-replicate, get_or-replicate}
use lib.Seq.{get_or-set_same, get_or-set_other}
use Rattle.std.specs.Prelude.{None}
use Rattle.sizes.specs.Sizes.{most_stops, places}
use Rattle.lists.specs.Lists.{In, Distinct, more}
use Rattle.lists.proofs.Tests.{compared}
use Rattle.lists.proofs.Members.{in_head}
use Rattle.orders.specs.Pairs.{Pair, pairs_of}
use Rattle.orders.proofs.PairFile.{pair_stops}
use Rattle.stops.specs.Code.{stops_in}
use Rattle.stops.proofs.SetBits.{stops_in_zero}
use Rattle.stops.proofs.SetJoin.{stops_in_one}
use Rattle.pairs.specs.Code.{OfStops, marked, pairs_in, precedence_of}
use Rattle.pairs.proofs.PairLaws.{Held, holding, pairs_in_lem}

-- what is not among the bytes keeps its set
marked_other : (sets bytes : List ℕ) (s : ℕ) → (In s bytes → ⊥) → get_or (marked sets bytes) s 0 ≡ get_or sets s 0
marked_other sets [] s new = refl
marked_other sets (a ∷ []) s new = refl
marked_other sets (a ∷ b ∷ bytes) s new =
    marked_other (set sets b (2 ^ (a - 1))) bytes s (λ m. new (Memᴰ.tail (Memᴰ.tail m)))
    ∙ get_or-set_other sets b s (2 ^ (a - 1)) 0 (λ e. new (rw e (Memᴰ.tail in_head)))

-- Of a file with no stop twice, the second stop of a pair has the set of the first: no later pair sets another.
marked_pair :
    (sets bytes : List ℕ) → length sets ≡ places → OfStops bytes → Distinct bytes → (p : Pair) → In p (pairs_of bytes)
    → get_or (marked sets bytes) p.1 0 ≡ 2 ^ (p.0 - 1)
marked_pair sets [] long all once p m = absurd (Memᴰ.not-nil m)
marked_pair sets (a ∷ []) long all once p m = absurd (Memᴰ.not-nil m)
marked_pair sets (a ∷ b ∷ bytes) long all (more new_a (more new_b once)) p m =
    go (Memᴰ.cases_cons m)
    (marked_pair (set sets b (2 ^ (a - 1))) bytes (length-set sets b (2 ^ (a - 1)) ∙ long) (λ s i. all s (Memᴰ.tail (Memᴰ.tail i))) once p)
  where
    go :
        (p ≡ (a, b)) ⊎ In p (pairs_of bytes) → (In p (pairs_of bytes) → get_or (marked (set sets b (2 ^ (a - 1))) bytes) p.1 0 ≡ 2 ^ (p.0 - 1))
        → get_or (marked (set sets b (2 ^ (a - 1))) bytes) p.1 0 ≡ 2 ^ (p.0 - 1)
    go (inl e) again =
        rw e
        (marked_other (set sets b (2 ^ (a - 1))) bytes b new_b
        ∙ get_or-set_same sets b (2 ^ (a - 1)) 0 (omega (arith, all b (Memᴰ.tail in_head))))
    go (inr i) again = again i

-- a stop of a set comes of a pair, or stood there before
marked_in :
    (sets bytes : List ℕ) → length sets ≡ places → OfStops bytes → (p : Pair) → In p.0 (stops_in (get_or (marked sets bytes) p.1 0))
    → In p (pairs_of bytes) ⊎ In p.0 (stops_in (get_or sets p.1 0))
marked_in sets [] long all p m = inr m
marked_in sets (a ∷ []) long all p m = inr m
marked_in sets (a ∷ b ∷ bytes) long all (c, s) m =
    go
    (marked_in (set sets b (2 ^ (a - 1))) bytes (length-set sets b (2 ^ (a - 1)) ∙ long) (λ s i. all s (Memᴰ.tail (Memᴰ.tail i))) (c, s) m)
    (compared s b)
  where
    go :
        In (c, s) (pairs_of bytes) ⊎ In c (stops_in (get_or (set sets b (2 ^ (a - 1))) s 0)) → (s ≡ b) ⊎ (s ≢ b)
        → In (c, s) ((a, b) ∷ pairs_of bytes) ⊎ In c (stops_in (get_or sets s 0))
    go (inl i) h = inl (Memᴰ.tail i)
    go (inr i) (inl e) = inl (rw (e, same) in_head)
      where
        same : c ≡ a
        same =
            let h : (1 ≤ a) × (a ≤ most_stops) = all a in_head in
            let k : (1 ≤ b) × (b ≤ most_stops) = all b (Memᴰ.tail in_head) in
            Memᴰ.eq_of_singleton (rw (e, get_or-set_same sets b (2 ^ (a - 1)) 0 (omega arith), stops_in_one a h.0 h.1) at i)
    go (inr i) (inr e) = inr (rw (get_or-set_other sets b s (2 ^ (a - 1)) 0 e) at i)

-- a pair file makes sets if it is not empty
pub precedence_none : (bytes : List ℕ) → length bytes ≡ 0 → precedence_of bytes ≡ record { before = None }
unfolding precedence_of
precedence_none [] h = refl
precedence_none (a ∷ bytes) h = absurd (omega arith)

pub precedence_some : (bytes : List ℕ) → 0 < length bytes → precedence_of bytes ≡ holding (marked (replicate places 0) bytes)
unfolding precedence_of
precedence_some [] h = absurd (omega arith)
precedence_some (a ∷ bytes) h = refl

pub precedence_pairs : (bytes : List ℕ) → OfStops bytes → Distinct bytes → (p : Pair) → In p (pairs_in (precedence_of bytes)) ↔ In p (pairs_of bytes)
unfolding precedence_of pairs_in
precedence_pairs [] all once p = (λ m. m, λ m. m)
precedence_pairs (a ∷ rest) all once p = (λ m. there ((pairs_in_lem sets p).0 m), λ m. (pairs_in_lem sets p).1 (back m))
  where
    bytes : List ℕ
    bytes = a ∷ rest

    sets : List ℕ
    sets = marked (replicate places 0) bytes

    none_before : In p.0 (stops_in (get_or (replicate places 0) p.1 0)) → p.1 ≤ most_stops → ⊥
    none_before i h = Memᴰ.not-nil (rw (get_or-replicate {A = ℕ} places p.1 0 0 (omega arith), stops_in_zero) at i)

    there : Held sets p → In p (pairs_of bytes)
    there h = go (marked_in (replicate places 0) bytes (length-replicate {A = ℕ} places 0) all p h.2)
      where
        go : In p (pairs_of bytes) ⊎ In p.0 (stops_in (get_or (replicate places 0) p.1 0)) → In p (pairs_of bytes)
        go (inl i) = i
        go (inr i) = absurd (none_before i h.1)

    back : In p (pairs_of bytes) → Held sets p
    back m =
        let (i, j) = pair_stops bytes p m in
        let h : (1 ≤ p.0) × (p.0 ≤ most_stops) = all p.0 i in
        let k : (1 ≤ p.1) × (p.1 ≤ most_stops) = all p.1 j in
        let e : get_or sets p.1 0 ≡ 2 ^ (p.0 - 1) =
        marked_pair (replicate places 0) bytes (length-replicate {A = ℕ} places 0) all once p m in
        (k.0, k.1, rw (e, stops_in_one p.0 h.0 h.1) in_head)

short : (sets bytes : List ℕ) → length bytes ≤ 1 → marked sets bytes ≡ sets
short sets [] h = refl
short sets (a ∷ []) h = refl
short sets (a ∷ b ∷ bytes) h = absurd (omega arith)

-- A file is gone through two bytes at a time: the bytes left make of the sets so far what the whole file makes of empty ones.
pub record Marking (bytes sets left : List ℕ) (size : ℕ) : Type 0 where
  pub two : size ≡ 2
  pub stops : OfStops left
  pub same : marked sets left ≡ marked (replicate places 0) bytes

module _ {bytes sets left : List ℕ} {size : ℕ} (m : Marking bytes sets left size) where
  -- the stops of the next pair
  pub marking_stops :
      (pair behind : List ℕ) → (left ≡ pair ++ behind) × (length pair ≡ size)
      → ((1 ≤ get_or pair 0 0) × (get_or pair 0 0 ≤ most_stops)) × ((1 ≤ get_or pair 1 0) × (get_or pair 1 0 ≤ most_stops))
  marking_stops [] behind (e, l) = absurd (omega (arith, m.two))
  marking_stops (a ∷ []) behind (e, l) = absurd (omega (arith, m.two))
  marking_stops (a ∷ b ∷ rest) behind (e, l) = (m.stops a (rw e in_head), m.stops b (rw e (Memᴰ.tail in_head)))

  pub marking_again :
      (pair : List ℕ) {behind : List ℕ} {size' b one : ℕ} → (left ≡ pair ++ behind) × (length pair ≡ size) → size' ≡ size → b ≡ get_or pair 1 0
      → one ≡ 2 ^ (get_or pair 0 0 - 1) → Marking bytes (set sets b one) behind size'
  marking_again [] (e, l) s q r = absurd (omega (arith, m.two))
  marking_again (a ∷ []) (e, l) s q r = absurd (omega (arith, m.two))
  marking_again (a ∷ b ∷ []) (e, l) s q r =
      rw (q, r) record { two = s ∙ m.two; stops = λ t i. m.stops t (rw e (Memᴰ.tail (Memᴰ.tail i))); same = rw e at m.same }
  marking_again (a ∷ b ∷ c ∷ rest) (e, l) s q r = absurd (omega (arith, m.two))

  pub marking_ends : length left < size → sets ≡ marked (replicate places 0) bytes
  marking_ends h = sym (short sets left (omega (arith, m.two))) ∙ m.same
