-- Laws of lists that settling rests on: what one turn of `turn` and of `clear` does to the list that is still to be reached, where
-- their loops end, and how the passes of `settle` join. Each loop's invariant is that the list to be reached, made from the list at
-- hand, is the one made from the list at entry.
use mathlib.Core.Path.{◌≡◌, refl, sym, ap, ◌∙◌}
use mathlib.Core.List.{List, [], ◌∷◌, ◌++◌, reverse, reverse-cons, reverse-append, append_assoc, append-nil}
use Prim.Native.Nat.{ℕ, suc, ◌+◌, ◌-◌, ◌≤◌, ◌<◌}
use native.Mathlib.Numerals.{add-one}
use native.Mathlib.Omega.{arith}
use lib.ListN.{length, get_or, set, take, drop, replicate, length-set, length-append, length-reverse, take-append-drop, drop_of_length-le}
use lib.Seq.{slice, length-slice, slice-cons, take_all, take-append-le, drop_at, length-take-le, take-take, take-suc, take-suc-set, take-set-le, take-set-lt, drop-set-lt, drop-cons, drop-append-le, get_or-set_same}
use Rattle.lists.specs.Lists.{keep}
use Rattle.stops.specs.Code.{empty_record}
use Rattle.stops.specs.declared.node_record.Record.{Record}
use Rattle.records.specs.Code.{Sifted, always}

module _ {A : Type 0} where
  -- the list with its elements from i to j in reverse order
  abbrev pub turned : ℕ → ℕ → List A → List A
  turned i j l = take i l ++ (reverse (slice i j l) ++ drop j l)

  -- the list cut at i and j
  parts : (i j : ℕ) (l : List A) → i ≤ j → take i l ++ (slice i j l ++ drop j l) ≡ l
  parts i j l h =
      sym (append_assoc (take i l) (slice i j l) (drop j l))
      ∙ ap (λ (r : List A). r ++ slice i j l ++ drop j l) (sym (take-take i j l h))
      ∙ ap (λ (r : List A). r ++ drop j l) (take-append-drop i (take j l))
      ∙ take-append-drop j l

  pub length-turned : (i j : ℕ) (l : List A) → i ≤ j → length (turned i j l) ≡ length l
  length-turned i j l h =
      simp (length-append, length-reverse) (omega (arith, simp length-append at (ap length (parts i j l h))))

  reverse_short : (l : List A) → length l ≤ 1 → reverse l ≡ l
  reverse_short [] h = refl
  reverse_short (x ∷ []) h = refl
  reverse_short (x ∷ y ∷ l) h = absurd (omega arith)

  -- at most one element to turn
  pub turn_ends : (i j : ℕ) (l : List A) → i ≤ j → j ≤ i + 1 → j ≤ length l → turned i j l ≡ l
  turn_ends i j l h k m =
      ap (λ (r : List A). take i l ++ (r ++ drop j l)) (reverse_short (slice i j l) (rw (length-slice i j l m) (omega arith)))
      ∙ parts i j l h

  slice_snoc : (i j : ℕ) (l : List A) (d : A) → i ≤ j → j < length l → slice i (suc j) l ≡ slice i j l ++ (get_or l j d ∷ [])
  slice_snoc i j l d h k =
      ap (drop i) (take-suc l j d k) ∙ drop-append-le i (take j l) (get_or l j d ∷ []) (rw (length-take-le j l (omega arith)) h)

  -- A turn of the loop: the elements at i and j change places, and what lies between them is left to turn. Turned around, the elements
  -- from i to j are the one at j, those between in reverse order, and the one at i. After the two stores the one at j is the last of
  -- the front (`front`), the one at i is the first of the rest (`back`), and between them nothing has changed (`middle`).
  turn_step :
      (i j : ℕ) (l : List A) (d : A) → i < j → j < length l
      → turned (suc i) j (set (set l i (get_or l j d)) j (get_or l i d)) ≡ turned i (suc j) l
  turn_step i j l d h k = rw (front, middle, back, whole) (simp append_assoc)
    where
      x : A
      x = get_or l i d

      y : A
      y = get_or l j d

      front : take (suc i) (set (set l i y) j x) ≡ take i l ++ (y ∷ [])
      front = take-set-le (suc i) (set l i y) j x h ∙ take-suc-set l i y (omega arith)

      middle : slice (suc i) j (set (set l i y) j x) ≡ slice (suc i) j l
      middle =
          ap (drop (suc i)) (take-set-le j (set l i y) j x (omega arith) ∙ take-set-lt j l i y h)
          ∙ drop-set-lt (suc i) (take j l) i y (omega arith)

      back : drop j (set (set l i y) j x) ≡ x ∷ drop (suc j) l
      back =
          drop-cons (set (set l i y) j x) j d (rw (length-set, length-set) k)
          ∙ rw (get_or-set_same (set l i y) j x d (rw length-set k))
          (rw (drop-set-lt (suc j) (set l i y) j x (omega arith), drop-set-lt (suc j) l i y (omega arith)))

      whole : reverse (slice i (suc j) l) ≡ y ∷ (reverse (slice (suc i) j l) ++ (x ∷ []))
      whole =
          rw (slice-cons i (suc j) l d (omega arith) k, slice_snoc (suc i) j l d h k, reverse-cons, reverse-append)

  -- the same in the loop's own terms: m is the last place before j
  pub turn_again :
      (i j m i' j' : ℕ) (l l₁ l₂ : List A) (d x y : A) → i' ≡ suc i → suc m ≡ j → j' ≡ m → i < m → m < length l → x ≡ get_or l i d
      → y ≡ get_or l m d → l₁ ≡ set l i y → l₂ ≡ set l₁ m x → turned i' j' l₂ ≡ turned i j l
  turn_again i j m i' j' l l₁ l₂ d x y up last down h k ex ey e₁ e₂ =
      rw (e₂, e₁, ex, ey, up, down) (turn_step i m l d h k ∙ ap (λ (n : ℕ). turned i n l) last)

  -- the list with its elements from k to n cleared
  abbrev pub cleared : ℕ → A → ℕ → List A → List A
  cleared n d k l = take k l ++ replicate (n - k) d

  pub clear_again :
      (n k : ℕ) (l l₁ : List A) (d : A) → k < n → k < length l → l₁ ≡ set l k d → cleared n d (k + 1) l₁ ≡ cleared n d k l
  clear_again n k l l₁ d h m e =
      rw (e, add-one, take-suc-set l k d m, append_assoc) (ap (λ (r : ℕ). take k l ++ replicate r d) one)
    where
      one : suc (n - suc k) ≡ n - k
      one = omega arith

  pub clear_ends : (n k : ℕ) (l : List A) (d : A) → n ≤ k → length l ≤ k → cleared n d k l ≡ l
  clear_ends n k l d h m = rw (take_all k l m) (ap (λ (r : ℕ). l ++ replicate r d) none ∙ append-nil l)
    where
      none : n - k ≡ 0
      none = omega arith

keep-always : (xs : List Record) → keep always xs ≡ xs
unfolding always
keep-always [] = refl
keep-always (x ∷ xs) = ap (λ (r : List Record). x ∷ r) (keep-always xs)

-- where sliding ends: nothing is left out
pub slide_end : (l l' : List Record) (from to at e : ℕ) → to ≤ length l → Sifted always l from to at l' e → e ≡ at + (to - from)
slide_end l l' from to at e h slid = slid.count ∙ rw (keep-always, length-slice from to l h)

-- Settling: the branched records, which reach the end of the list, are turned around, slid behind the first a, and what is left of
-- the list is cleared. Turning them leaves the first a alone, and sliding leaves out nothing, so that b records stand behind the a.
pub settle_joins :
    (n a b e : ℕ) (l l₁ l₂ : List Record) → n ≡ length l → a + b ≤ n → l₁ ≡ turned (n - b) n l → Sifted always l₁ (n - b) n a l₂ e
    → cleared n empty_record e l₂ ≡ take a l ++ (reverse (drop (n - b) l) ++ replicate (n - (a + b)) empty_record)
settle_joins n a b e l l₁ l₂ whole room turns slid =
    rw (slid.front, keep-always, all, halves, active, branched, end) (append_assoc (take a l) tail (replicate (n - (a + b)) empty_record))
  where
    tail : List Record
    tail = reverse (drop (n - b) l)

    halves : l₁ ≡ take (n - b) l ++ tail
    halves = turns ∙ rw (take_all n l (omega arith), drop_of_length-le l {i = n} (omega arith), append-nil)

    long : length l₁ ≡ length l
    long = ap length turns ∙ length-turned (n - b) n l (omega arith)

    front_long : length (take (n - b) l) ≡ n - b
    front_long = length-take-le (n - b) l (omega arith)

    all : take n l₁ ≡ l₁
    all = take_all n l₁ (omega (arith, long))

    active : take a (take (n - b) l ++ tail) ≡ take a l
    active = take-append-le a (take (n - b) l) tail (omega (arith, front_long)) ∙ take-take a (n - b) l (omega arith)

    branched : drop (n - b) (take (n - b) l ++ tail) ≡ tail
    branched = drop_at (take (n - b) l) tail (n - b) front_long

    end : e ≡ a + b
    end = omega (arith, slide_end l₁ l₂ (n - b) n a e (omega (arith, long)) slid)
