-- Orders of one length are compared by their words as stop by stop (request A.8): where the words of the first stops are equal, those of the
-- stops behind tell.
--   words-smaller    of two nodes, one is before the other by its words just if it is the smaller
use mathlib.Core.Path.{◌≡◌, refl, ◌∙◌}
use mathlib.Core.Bool.{Bool, false, cond, or-false}
use mathlib.Core.List.Memᴰ
use mathlib.Core.List.{[], ◌∷◌}
use mathlib.Core.Logic.{◌⊎◌, inl, inr, ◌≢◌}
use Prim.Native.Nat.{ℕ, zero, suc, ◌+◌, ◌*◌, ◌-◌, ◌/◌, ◌%◌, ◌≤◌}
use native.Mathlib.Omega.{arith}
use borrow.Author.Tests.{le-ltb, eq-eqb, ne_eqb}
use lib.Dec.{ltb, eqb}
use lib.ListN.{length, take, drop, length-drop, drop_of_length-le}
use lib.Seq.{take_all}
use Rattle.sizes.specs.Sizes.{most_stops, stop_base, word_stops}
use Rattle.lists.proofs.Members.{in_head}
use Rattle.lists.proofs.Tests.{tests, same_tests, equal_eqb, compared}
use Rattle.orders.specs.Orders.{Node, smaller}
use Rattle.stops.specs.Code.{digits_before, words_before}
use Rattle.stops.proofs.WordsBefore.{digits_differ, digits_agree, digits_same}
use Rattle.records.specs.Records.{order_word}
use Rattle.records.proofs.OrderWords.{Digits, digits_drop}

-- two words with a stop in front of each: the words tell where the stops are the same, and else the stops do
module _ (s t v w : ℕ) (a : (1 ≤ s) × (s ≤ stop_base)) (b : (1 ≤ t) × (t ≤ stop_base)) where
  abbrev p : ℕ
  p = s - 1 + stop_base * v

  abbrev q : ℕ
  q = t - 1 + stop_base * w

  stops_agree : (k : ℕ) → s ≡ t → (eqb p q ≡ eqb v w) × (digits_before (suc k) p q ≡ digits_before k v w)
  stops_agree k e =
      let above : p / stop_base ≡ v = omega arith in
      let above' : q / stop_base ≡ w = omega arith in
      let one : suc k - 1 ≡ k = omega arith in (
        same_tests (eqb p q) (eqb v w) (λ h. equal_eqb v w (omega (arith, tests))) (λ h. equal_eqb p q (omega (arith, tests))),
        digits_agree (suc k) p q (omega arith) (omega arith) ∙ rw (above, above', one) refl,
      )

  stops_differ : (k : ℕ) → s ≢ t → (eqb p q ≡ false) × (digits_before (suc k) p q ≡ ltb s t)
  stops_differ k h =
      let lowest : p % stop_base ≡ s - 1 = omega arith in
      let lowest' : q % stop_base ≡ t - 1 = omega arith in (
        ne_eqb p q (λ e. omega arith),
        digits_differ (suc k) p q (omega arith) (λ e. omega arith)
            ∙ rw (lowest, lowest') (same_tests (ltb (s - 1) (t - 1)) (ltb s t) (λ l. omega (arith, tests)) (λ l. omega (arith, tests))),
      )

-- the words of the first k stops tell, or where these are equal the stops behind
split :
    (k : ℕ) (x y : Node) → Digits x → Digits y → length x ≡ length y
    → cond (eqb (order_word (take k x)) (order_word (take k y))) (smaller (drop k x) (drop k y)) (digits_before k (order_word (take k x)) (order_word (take k y)))
    ≡ smaller x y
split zero x y d e l = refl
split (suc k) [] [] d e l = refl
split (suc k) [] (t ∷ y) d e l = absurd (omega arith)
split (suc k) (s ∷ x) [] d e l = absurd (omega arith)
split (suc k) (s ∷ x) (t ∷ y) d e l =
    go (compared s t) (split k x y (λ r i. d r (Memᴰ.tail i)) (λ r i. e r (Memᴰ.tail i)) (omega arith))
  where
    v : ℕ
    v = order_word (take k x)

    w : ℕ
    w = order_word (take k y)

    behind : Bool
    behind = smaller (drop k x) (drop k y)

    go :
        (s ≡ t) ⊎ (s ≢ t) → cond (eqb v w) behind (digits_before k v w) ≡ smaller x y
        → cond (eqb (s - 1 + stop_base * v) (t - 1 + stop_base * w)) behind (digits_before (suc k) (s - 1 + stop_base * v) (t - 1 + stop_base * w))
        ≡ smaller (s ∷ x) (t ∷ y)
    go (inl h) again =
        let (same, digits) = stops_agree s t v w (d s in_head) (e t in_head) k h in
        rw (same, digits, le-ltb s t (omega arith), eq-eqb s t h) again
    go (inr h) again =
        let (apart, digits) = stops_differ s t v w (d s in_head) (e t in_head) k h in
        rw (apart, digits, ne_eqb s t h, or-false (ltb s t)) refl

-- of stops that one word has room for, the word tells
word-smaller :
    (k : ℕ) (x y : Node) → Digits x → Digits y → length x ≡ length y → length x ≤ k → digits_before k (order_word x) (order_word y) ≡ smaller x y
word-smaller k x y d e l h =
    go (compared (order_word x) (order_word y))
    ∙ rw (
      take_all k x (omega arith),
      take_all k y (omega arith),
      drop_of_length-le x {i = k} (omega arith),
      drop_of_length-le y {i = k} (omega arith),
    ) at (split k x y d e l)
  where
    go :
        (order_word x ≡ order_word y) ⊎ (order_word x ≢ order_word y)
        → digits_before k (order_word x) (order_word y) ≡ cond (eqb (order_word x) (order_word y)) false (digits_before k (order_word x) (order_word y))
    go (inl h) = rw (h, eq-eqb (order_word y) (order_word y) refl) (digits_same k (order_word y))
    go (inr h) = rw (ne_eqb (order_word x) (order_word y) h) refl

pub words-smaller :
    (x y : Node) → Digits x → Digits y → length x ≡ length y → length x ≤ most_stops
    → words_before (order_word (take word_stops x)) (order_word (drop word_stops x)) (order_word (take word_stops y)) (order_word (drop word_stops y))
    ≡ smaller x y
unfolding words_before
words-smaller x y d e l few =
    let long : length (drop word_stops x) ≡ length x - word_stops = length-drop word_stops x in
    let long' : length (drop word_stops y) ≡ length y - word_stops = length-drop word_stops y in
    rw (word-smaller word_stops (drop word_stops x) (drop word_stops y) (digits_drop word_stops x d) (digits_drop word_stops y e) (omega arith) (omega arith))
    (split word_stops x y d e l)
