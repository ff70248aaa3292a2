-- Laws of lengths, sums and least values: `keep` parts a list and its sum in two, `sum` of joined lists, `least` is attained and is
-- below each, at most the least of a part, and the same of lists with the same elements.
use mathlib.Core.Path.{◌≡◌, refl, ap, ◌∙◌}
use mathlib.Core.Bool.{Bool, true, false, not}
use mathlib.Core.List.Memᴰ
use mathlib.Core.List.{List, [], ◌∷◌, ◌++◌, map}
use mathlib.Core.Logic.{◌⊎◌, inl, inr}
use Prim.Native.Nat.{ℕ, suc, ◌+◌, ◌*◌, ◌≤◌, ◌<◌, min}
use native.Mathlib.Omega.{arith}
use lib.ListN.{length, length-append}
use Rattle.lists.specs.Lists.{In, put, keep, sum, least, each}
use Rattle.lists.proofs.Tests.{ordered}
use Rattle.lists.proofs.Members.{in_head}

module _ {A : Type 0} where
  -- a test parts a list in two
  pub keep_parts : (test : A → Bool) (xs : List A) → length (keep test xs) + length (keep (λ x. not (test x)) xs) ≡ length xs
  keep_parts test [] = refl
  keep_parts test (x ∷ xs) = go (test x) (keep_parts test xs)
    where
      go :
          (b : Bool) → length (keep test xs) + length (keep (λ y. not (test y)) xs) ≡ length xs
          → length (put b x (keep test xs)) + length (put (not b) x (keep (λ y. not (test y)) xs)) ≡ suc (length xs)
      go true e = omega arith
      go false e = omega arith

  -- sum
  pub sum-append : (f : A → ℕ) (xs ys : List A) → sum f (xs ++ ys) ≡ sum f xs + sum f ys
  sum-append f [] ys = omega arith
  sum-append f (x ∷ xs) ys = omega (arith, sum-append f xs ys)

  pub sum-keep : (f : A → ℕ) (test : A → Bool) (xs : List A) → sum f (keep test xs) ≤ sum f xs
  sum-keep f test [] = omega arith
  sum-keep f test (x ∷ xs) = go (test x) (sum-keep f test xs)
    where
      go : (b : Bool) → sum f (keep test xs) ≤ sum f xs → sum f (put b x (keep test xs)) ≤ f x + sum f xs
      go true h = omega arith
      go false h = omega arith

  pub sum_parts : (f : A → ℕ) (test : A → Bool) (xs : List A) → sum f (keep test xs) + sum f (keep (λ x. not (test x)) xs) ≡ sum f xs
  sum_parts f test [] = refl
  sum_parts f test (x ∷ xs) = go (test x) (sum_parts f test xs)
    where
      go :
          (b : Bool) → sum f (keep test xs) + sum f (keep (λ y. not (test y)) xs) ≡ sum f xs
          → sum f (put b x (keep test xs)) + sum f (put (not b) x (keep (λ y. not (test y)) xs)) ≡ f x + sum f xs
      go true e = omega arith
      go false e = omega arith

  pub sum_mono : (f g : A → ℕ) (xs : List A) → ((x : A) → In x xs → f x ≤ g x) → sum f xs ≤ sum g xs
  sum_mono f g [] h = omega arith
  sum_mono f g (x ∷ xs) h = omega (arith, h x in_head, sum_mono f g xs (λ y m. h y (Memᴰ.tail m)))

  pub sum_same : (f g : A → ℕ) (xs : List A) → ((x : A) → In x xs → f x ≡ g x) → sum f xs ≡ sum g xs
  sum_same f g [] h = refl
  sum_same f g (x ∷ xs) h = omega (arith, h x in_head, sum_same f g xs (λ y m. h y (Memᴰ.tail m)))

  pub sum_const : (k : ℕ) (xs : List A) → sum (λ x. k) xs ≡ length xs * k
  sum_const k [] = omega arith
  sum_const k (x ∷ xs) = omega (arith, sum_const k xs)

  -- least
  pub least_le : (f : A → ℕ) (xs : List A) (x : A) → In x xs → least f xs ≤ f x
  least_le f [] x m = absurd (Memᴰ.not-nil m)
  least_le f (y ∷ []) x m = go (Memᴰ.cases_cons m)
    where
      go : (x ≡ y) ⊎ In x [] → f y ≤ f x
      go (inl e) = rw e (omega arith)
      go (inr k) = absurd (Memᴰ.not-nil k)
  least_le f (y ∷ z ∷ zs) x m = go (Memᴰ.cases_cons m) (λ k. least_le f (z ∷ zs) x k)
    where
      go : (x ≡ y) ⊎ In x (z ∷ zs) → (In x (z ∷ zs) → least f (z ∷ zs) ≤ f x) → min (f y) (least f (z ∷ zs)) ≤ f x
      go (inl e) again = rw e (omega arith)
      go (inr k) again = let h : least f (z ∷ zs) ≤ f x = again k in omega arith

  pub least_in : (f : A → ℕ) (y : A) (ys : List A) → (x : A) × In x (y ∷ ys) × (f x ≡ least f (y ∷ ys))
  least_in f y [] = (y, in_head, refl)
  least_in f y (z ∷ zs) = go (ordered (f y) (least f (z ∷ zs))) (least_in f z zs)
    where
      go :
          (f y ≤ least f (z ∷ zs)) ⊎ (least f (z ∷ zs) < f y) → ((x : A) × In x (z ∷ zs) × (f x ≡ least f (z ∷ zs)))
          → (x : A) × In x (y ∷ z ∷ zs) × (f x ≡ min (f y) (least f (z ∷ zs)))
      go (inl h) w = (y, in_head, omega arith)
      go (inr h) (x, m, e) = (x, Memᴰ.tail m, omega arith)

  -- the least of a list that has a member is the value of a member
  pub least-given : (f : A → ℕ) (xs : List A) (r : A) → In r xs → (x : A) × In x xs × (f x ≡ least f xs)
  least-given f [] r m = absurd (Memᴰ.not-nil m)
  least-given f (y ∷ ys) r m = least_in f y ys

  -- a member's value that is above none is the least
  pub least_is : (f : A → ℕ) (xs : List A) (v : ℕ) (r : A) → In r xs → v ≡ f r → ((x : A) → In x xs → v ≤ f x) → v ≡ least f xs
  least_is f xs v r m e below = let (x, i, g) = least-given f xs r m in omega (arith, least_le f xs r m, below x i, g, e)

  -- the least of all candidates is at most the least of some of them
  pub least_of_some :
      (f : A → ℕ) (xs : List A) (y : A) (ys : List A) → ((z : A) → In z (y ∷ ys) → In z xs) → least f xs ≤ least f (y ∷ ys)
  least_of_some f xs y ys some =
      let (z, m, e) = least_in f y ys in
      let k : least f xs ≤ f z = least_le f xs z (some z m) in
      omega arith

  -- no value is above m
  pub least_small : (f : A → ℕ) (m : ℕ) → ((x : A) → f x ≤ m) → (xs : List A) → least f xs ≤ m
  least_small f m h [] = omega arith
  least_small f m h (x ∷ xs) = omega (arith, least_le f (x ∷ xs) x in_head, h x)

  least-same :
      (f : A → ℕ) (x y : A) (xs ys : List A) → ((z : A) → In z (x ∷ xs) → In z (y ∷ ys)) → ((z : A) → In z (y ∷ ys) → In z (x ∷ xs))
      → least f (x ∷ xs) ≡ least f (y ∷ ys)
  least-same f x y xs ys there back =
      let (a, i, e) = least_in f x xs in
      let (b, j, g) = least_in f y ys in
      let below = least_le f (y ∷ ys) a (there a i) in
      let above = least_le f (x ∷ xs) b (back b j) in
      omega arith

  -- so the least lies with the members alone, of empty lists too; and that of a part, if it has a member, is not below that of the whole
  pub least_members : (f : A → ℕ) (xs ys : List A) → ((z : A) → In z xs → In z ys) → ((z : A) → In z ys → In z xs) → least f xs ≡ least f ys
  least_members f [] [] there back = refl
  least_members f [] (y ∷ ys) there back = absurd (Memᴰ.not-nil (back y in_head))
  least_members f (x ∷ xs) [] there back = absurd (Memᴰ.not-nil (there x in_head))
  least_members f (x ∷ xs) (y ∷ ys) there back = least-same f x y xs ys there back

  pub least_part : (f : A → ℕ) (xs ys : List A) (r : A) → In r ys → ((z : A) → In z ys → In z xs) → least f xs ≤ least f ys
  least_part f xs [] r m some = absurd (Memᴰ.not-nil m)
  least_part f xs (y ∷ ys) r m some = least_of_some f xs y ys some

  -- what is added to every value is added to the least
  pub least_adds :
      (f g : A → ℕ) (k : ℕ) (x : A) (xs : List A) → ((y : A) → In y (x ∷ xs) → f y ≡ g y + k)
      → least f (x ∷ xs) ≡ least g (x ∷ xs) + k
  least_adds f g k x [] h = h x in_head
  least_adds f g k x (y ∷ ys) h = omega (arith, h x in_head, least_adds f g k y ys (λ z m. h z (Memᴰ.tail m)))

  pub sum_adds : (f g h : A → ℕ) (xs : List A) → ((x : A) → In x xs → f x ≡ g x + h x) → sum f xs ≡ sum g xs + sum h xs
  sum_adds f g h [] e = refl
  sum_adds f g h (x ∷ xs) e = omega (arith, e x in_head, sum_adds f g h xs (λ y m. e y (Memᴰ.tail m)))

module _ {A B : Type 0} where
  pub length-each : (k : A → List B) (xs : List A) → length (each k xs) ≡ sum (λ x. length (k x)) xs
  length-each k [] = refl
  length-each k (x ∷ xs) = length-append (k x) (each k xs) ∙ ap (λ (m : ℕ). length (k x) + m) (length-each k xs)

  pub sum-map : (f : A → B) (g : B → ℕ) (xs : List A) → sum g (map f xs) ≡ sum (λ x. g (f x)) xs
  sum-map f g [] = refl
  sum-map f g (x ∷ xs) = ap (λ (m : ℕ). g (f x) + m) (sum-map f g xs)
