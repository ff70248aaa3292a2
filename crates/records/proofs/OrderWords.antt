-- The order of a node as two words, of its first stops and of those that the first word has no room for: stop s is the
-- digit s-1, the first lowest.
--   first_below, second_below      how large a word of k digits can be
--   first-digit, second_digit      the stops can be read back
--   stop_range, stop_read          the stop at a place is one that a digit can hold, and a node's own
--   first-extend, second_extend    one stop more is one digit more, in the second word once the first is full
-- Each is shown of one word (`word-..`) and then of both.
use mathlib.Core.Path.{◌≡◌, refl, ap, sym, ◌∙◌, subst}
use mathlib.Core.Bool.{Bool, true, false, cond}
use mathlib.Core.List.Memᴰ
use mathlib.Core.List.{[], ◌∷◌}
use mathlib.Core.Logic.{◌⊎◌, inl, inr}
use Prim.Native.Nat.{ℕ, zero, suc, ◌+◌, ◌*◌, ◌-◌, ◌^◌, ◌/◌, ◌%◌, ◌≤◌, ◌<◌, min}
use native.Mathlib.Nat.{pow-suc, pow-succ', pow-le-pow_right, div-div-eq-div-mul, mul_assoc, mul_comm}
use native.Mathlib.Omega.{arith}
use borrow.Author.Tests.{lt-ltb, le-ltb}
use lib.Dec.{ltb}
use lib.ListN.{length, get_or, take, drop, length-append, length-take, length-drop, take-append-drop, drop_of_length-le}
use lib.Seq.{get_or-take, get_or-drop, take_all, take-append-le, drop-append-le}
use Rattle.sizes.specs.Sizes.{stop_base, word_stops}
use Rattle.lists.specs.Lists.{In}
use Rattle.lists.proofs.Members.{in_head}
use Rattle.lists.proofs.Tests.{ordered}
use Rattle.orders.specs.Orders.{Node, extend}
use Rattle.records.specs.Records.{order_word, stop_at}
use Rattle.records.specs.Examples

-- each stop fits a digit
abbrev pub Digits : Node → Type 0
Digits x = (s : ℕ) → In s x → (1 ≤ s) × (s ≤ stop_base)

-- one word
word_small : (x : Node) → Digits x → order_word x < stop_base ^ length x
word_small [] d = omega arith
word_small (s ∷ x) d =
    let h : (1 ≤ s) × (s ≤ stop_base) = d s in_head in
    omega (arith, word_small x (λ r i. d r (Memᴰ.tail i)), pow-suc stop_base (length x))

word_below : (x : Node) → Digits x → (k : ℕ) → length x ≤ k → order_word x < stop_base ^ k
word_below x d k h = omega (arith, word_small x d, pow-le-pow_right {n = stop_base} (omega arith) {i = length x} {j = k} h)

word-digit : (x : Node) → Digits x → (i : ℕ) → i < length x → order_word x / stop_base ^ i % stop_base + 1 ≡ get_or x i 0
word-digit [] d i h = absurd (omega arith)
word-digit (s ∷ x) d zero h = let b : (1 ≤ s) × (s ≤ stop_base) = d s in_head in omega arith
word-digit (s ∷ x) d (suc i) h =
    let b : (1 ≤ s) × (s ≤ stop_base) = d s in_head in
    let w : ℕ = s - 1 + stop_base * order_word x in
    let e : w / stop_base ≡ order_word x = omega arith in
    let f : w / stop_base ^ suc i ≡ order_word x / stop_base ^ i =
    ap (λ (m : ℕ). w / m) (pow-succ' stop_base i) ∙ sym (div-div-eq-div-mul w stop_base (stop_base ^ i)) ∙ ap (λ (m : ℕ). m / stop_base ^ i) e in
    ap (λ (m : ℕ). m % stop_base + 1) f ∙ word-digit x (λ r j. d r (Memᴰ.tail j)) i (omega arith)

word-extend : (x : Node) (s : ℕ) → order_word (extend x s) ≡ order_word x + (s - 1) * stop_base ^ length x
word-extend [] s = omega arith
word-extend (r ∷ x) s =
    let e : (s - 1) * stop_base ^ suc (length x) ≡ stop_base * ((s - 1) * stop_base ^ length x) =
    ap (λ (m : ℕ). (s - 1) * m) (pow-suc stop_base (length x)) ∙ sym (mul_assoc (s - 1) (stop_base ^ length x) stop_base)
    ∙ mul_comm ((s - 1) * stop_base ^ length x) stop_base in
    omega (arith, word-extend x s)

-- the two words of a node
digits_take : (k : ℕ) (x : Node) → Digits x → Digits (take k x)
digits_take k x d s i = d s (subst (λ (l : Node). In s l) (take-append-drop k x) (Memᴰ.append_left {s = take k x} (drop k x) i))

pub digits_drop : (k : ℕ) (x : Node) → Digits x → Digits (drop k x)
digits_drop k x d s i = d s (subst (λ (l : Node). In s l) (take-append-drop k x) (Memᴰ.append_right (take k x) i))

module _ (x : Node) (d : Digits x) where
  pub first_below : (k : ℕ) → min word_stops (length x) ≤ k → order_word (take word_stops x) < stop_base ^ k
  first_below k h = word_below (take word_stops x) (digits_take word_stops x d) k (omega (arith, length-take word_stops x))

  pub second_below : (k : ℕ) → length x - word_stops ≤ k → order_word (drop word_stops x) < stop_base ^ k
  second_below k h = word_below (drop word_stops x) (digits_drop word_stops x d) k (omega (arith, length-drop word_stops x))

  pub first-digit : (i : ℕ) → i < length x → i < word_stops → order_word (take word_stops x) / stop_base ^ i % stop_base + 1 ≡ get_or x i 0
  first-digit i h k = word-digit (take word_stops x) (digits_take word_stops x d) i (omega (arith, length-take word_stops x)) ∙ get_or-take word_stops x i 0 k

  pub second_digit : (i : ℕ) → i < length x → word_stops ≤ i → order_word (drop word_stops x) / stop_base ^ (i - word_stops) % stop_base + 1 ≡ get_or x i 0
  second_digit i h k =
      word-digit (drop word_stops x) (digits_drop word_stops x d) (i - word_stops) (omega (arith, length-drop word_stops x)) ∙ get_or-drop word_stops x (i - word_stops) 0
      ∙ ap (λ (j : ℕ). get_or x j 0) (omega arith)

  pub stop_read : (i : ℕ) → i < length x → stop_at (order_word (take word_stops x)) (order_word (drop word_stops x)) i ≡ get_or x i 0
  unfolding stop_at
  stop_read i h = go (ordered word_stops i)
    where
      go : (word_stops ≤ i) ⊎ (i < word_stops) → stop_at (order_word (take word_stops x)) (order_word (drop word_stops x)) i ≡ get_or x i 0
      go (inl k) = rw (le-ltb i word_stops k) (second_digit i h k)
      go (inr k) = rw (lt-ltb i word_stops k) (first-digit i h k)

-- whatever the two words are
pub stop_range : (first second k : ℕ) → (1 ≤ stop_at first second k) × (stop_at first second k ≤ stop_base)
unfolding stop_at
stop_range first second k = go (ltb k word_stops)
  where
    go :
        (b : Bool)
        → (1 ≤ cond b (first / stop_base ^ k % stop_base) (second / stop_base ^ (k - word_stops) % stop_base) + 1)
        × (cond b (first / stop_base ^ k % stop_base) (second / stop_base ^ (k - word_stops) % stop_base) + 1 ≤ stop_base)
    go true = (omega arith, omega arith)
    go false = (omega arith, omega arith)

-- a stop more goes into the first word while that has room, and then into the second
pub first-extend :
    (x : Node) (s : ℕ) → order_word (take word_stops (extend x s)) ≡ order_word (take word_stops x) + cond (ltb (length x) word_stops) ((s - 1) * stop_base ^ length x) 0
first-extend x s = go (ordered word_stops (length x))
  where
    go :
        (word_stops ≤ length x) ⊎ (length x < word_stops)
        → order_word (take word_stops (extend x s)) ≡ order_word (take word_stops x) + cond (ltb (length x) word_stops) ((s - 1) * stop_base ^ length x) 0
    go (inl h) = rw (le-ltb (length x) word_stops h, take-append-le word_stops x (s ∷ []) h) (omega arith)
    go (inr h) =
        rw (lt-ltb (length x) word_stops h, take_all word_stops (extend x s) (omega (arith, length-append x (s ∷ []))), take_all word_stops x (omega arith))
        (word-extend x s)

pub second_extend :
    (x : Node) (s : ℕ)
    → order_word (drop word_stops (extend x s)) ≡ order_word (drop word_stops x) + cond (ltb (length x) word_stops) 0 ((s - 1) * stop_base ^ (length x - word_stops))
second_extend x s = go (ordered word_stops (length x))
  where
    go :
        (word_stops ≤ length x) ⊎ (length x < word_stops)
        → order_word (drop word_stops (extend x s)) ≡ order_word (drop word_stops x) + cond (ltb (length x) word_stops) 0 ((s - 1) * stop_base ^ (length x - word_stops))
    go (inl h) = rw (le-ltb (length x) word_stops h, drop-append-le word_stops x (s ∷ []) h, ← length-drop word_stops x) (word-extend (drop word_stops x) s)
    go (inr h) =
        rw (
          lt-ltb (length x) word_stops h,
          drop_of_length-le (extend x s) {i = word_stops} (omega (arith, length-append x (s ∷ []))),
          drop_of_length-le x {i = word_stops} (omega arith),
        ) refl
