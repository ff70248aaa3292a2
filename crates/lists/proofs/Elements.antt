-- Laws of the elements of a list by their places.
--   get_or_numbers, get_or-from               element i of the numbers a, a + 1, .. and of what a function makes of them
--   get_d_past                             there is none past the end
--   get_or_small                            no element is above a number that none of the list is above
--   part_from                             the part of a list from a place on, as it is lent
--   Rest, any_finds, any_skips, any-ends  a loop that looks for an element that passes a test
use mathlib.Core.Path.{◌≡◌, ap, ◌∙◌}
use mathlib.Core.Bool.{Bool, true, false, not}
use mathlib.Core.List.Memᴰ
use mathlib.Core.List.{List, [], ◌∷◌, map}
use Prim.Native.Nat.{ℕ, zero, suc, ◌+◌, ◌-◌, ◌≤◌, ◌<◌}
use native.Mathlib.Numerals.{add-one}
use native.Mathlib.Omega.{arith}
use lib.ListN.{length, get_or, take, drop, length-map, length-drop, drop_of_length-le, get_or-eq_default}
use lib.Seq.{take_all, drop-cons}
use Rattle.lists.specs.Lists.{In, any, from}
use Rattle.lists.proofs.Members.{in_head, length_from}

pub get_or_numbers : (a k i j : ℕ) → i < k → a + i ≡ j → get_or (from a k) i 0 ≡ j
get_or_numbers a zero i j h e = absurd (omega arith)
get_or_numbers a (suc k) zero j h e = omega arith
get_or_numbers a (suc k) (suc i) j h e = get_or_numbers (suc a) k i j (omega arith) (omega arith)

module _ {A : Type 0} where
  pub get_or-from : (f : ℕ → A) (a k i j : ℕ) (d : A) → i < k → a + i ≡ j → get_or (map f (from a k)) i d ≡ f j
  get_or-from f a zero i j d h e = absurd (omega arith)
  get_or-from f a (suc k) zero j d h e = ap f (omega arith)
  get_or-from f a (suc k) (suc i) j d h e = get_or-from f (suc a) k i j d (omega arith) (omega arith)

  pub get_d_past : (f : ℕ → A) (a k i : ℕ) (d : A) → k ≤ i → get_or (map f (from a k)) i d ≡ d
  get_d_past f a k i d h = get_or-eq_default (map f (from a k)) d (omega (arith, length-map (from a k) f, length_from a k))

  pub part_from : (k : ℕ) (xs : List A) → take (length xs - k) (drop k xs) ≡ drop k xs
  part_from k xs = take_all (length xs - k) (drop k xs) (omega (arith, length-drop k xs))

pub get_or_small : (m : ℕ) (xs : List ℕ) → ((a : ℕ) → In a xs → a ≤ m) → (i : ℕ) → get_or xs i 0 ≤ m
get_or_small m [] h i = omega arith
get_or_small m (x ∷ xs) h zero = h x in_head
get_or_small m (x ∷ xs) h (suc i) = get_or_small m xs (λ a k. h a (Memᴰ.tail k)) i

-- Where none of the first k elements passes, the answer lies with the rest of the list.
module _ {A : Type 0} (test : A → Bool) (xs : List A) where
  abbrev pub Rest : ℕ → Type 0
  Rest k = any test xs ≡ any test (drop k xs)

  pub any_finds : (k : ℕ) (d : A) → Rest k → k < length xs → test (get_or xs k d) ≡ true → false ≡ not (any test xs)
  any_finds k d r h e = rw (r, drop-cons xs k d, e)

  pub any_skips : (k : ℕ) (d : A) → Rest k → k < length xs → test (get_or xs k d) ≡ false → Rest (k + 1)
  any_skips k d r h e = r ∙ rw (drop-cons xs k d, e, add-one k)

  pub any-ends : (k : ℕ) → Rest k → length xs ≤ k → true ≡ not (any test xs)
  any-ends k r h = rw (r, drop_of_length-le xs h)
