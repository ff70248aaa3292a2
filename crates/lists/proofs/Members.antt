-- Laws of membership: `In` in what `keep`, `any`, `all`, `map`, `each`, `from` and `without` make, and of `Distinct`.
use mathlib.Core.Path.{◌≡◌, refl, ap}
use mathlib.Core.Bool.{Bool, true, false, not}
use mathlib.Core.List.Memᴰ
use mathlib.Core.List.{List, [], ◌∷◌, ◌++◌, map}
use mathlib.Core.Logic.{◌⊎◌, inl, inr, ◌≢◌}
use Prim.Native.Nat.{ℕ, zero, suc, ◌+◌, ◌≤◌, ◌<◌}
use native.Mathlib.Omega.{arith}
use lib.Dec.{T, eqb}
use lib.ListN.{length}
use Rattle.lists.specs.Lists.{In, put, keep, any, all, from, each, without, Distinct, none, more}
use Rattle.lists.proofs.Tests.{and_left, and_right, and_both, or_cases, or_left, or_right, compared, neq, ne_neqb}

pub in_head : {A : Type 0} {x : A} {xs : List A} → In x (x ∷ xs)
in_head = Memᴰ.head refl

-- what is not the first of a list is behind it
pub in_behind : {A : Type 0} {a x : A} {xs : List A} → In a (x ∷ xs) → a ≢ x → In a xs
in_behind {A} {a} {x} {xs} m other = go (Memᴰ.cases_cons m)
  where
    go : (a ≡ x) ⊎ In a xs → In a xs
    go (inl e) = absurd (other e)
    go (inr i) = i

module _ {A : Type 0} where
  -- keep
  in_put : (b : Bool) (a x : A) (xs : List A) → In a (put b x xs) → ((a ≡ x) × T b) ⊎ In a xs
  in_put true a x xs h = go (Memᴰ.cases_cons h)
    where
      go : (a ≡ x) ⊎ In a xs → ((a ≡ x) × Unit {0}) ⊎ In a xs
      go (inl e) = inl (e, tt)
      go (inr m) = inr m
  in_put false a x xs h = inr h

  put_tail : (b : Bool) (a x : A) (xs : List A) → In a xs → In a (put b x xs)
  put_tail true a x xs h = Memᴰ.tail h
  put_tail false a x xs h = h

  put_head : (b : Bool) (a x : A) (xs : List A) → T b → a ≡ x → In a (put b x xs)
  put_head true a x xs h e = Memᴰ.head e
  put_head false a x xs h e = absurd h

  pub in_keep : (test : A → Bool) (xs : List A) (a : A) → In a (keep test xs) → In a xs × T (test a)
  in_keep test [] a h = absurd (Memᴰ.not-nil h)
  in_keep test (x ∷ xs) a h = go (in_put (test x) a x (keep test xs) h) (λ m. in_keep test xs a m)
    where
      go : ((a ≡ x) × T (test x)) ⊎ In a (keep test xs) → (In a (keep test xs) → In a xs × T (test a)) → In a (x ∷ xs) × T (test a)
      go (inl e) again = (Memᴰ.head e.0, rw e.0 e.1)
      go (inr m) again = (Memᴰ.tail (again m).0, (again m).1)

  pub keep_in : (test : A → Bool) (xs : List A) (a : A) → In a xs → T (test a) → In a (keep test xs)
  keep_in test [] a h k = absurd (Memᴰ.not-nil h)
  keep_in test (x ∷ xs) a h k = go (Memᴰ.cases_cons h) (λ m. keep_in test xs a m k)
    where
      go : (a ≡ x) ⊎ In a xs → (In a xs → In a (keep test xs)) → In a (keep test (x ∷ xs))
      go (inl e) again = put_head (test x) a x (keep test xs) (rw (← e) k) e
      go (inr m) again = put_tail (test x) a x (keep test xs) (again m)

  -- any, all
  pub any_in : (test : A → Bool) (xs : List A) → T (any test xs) → (a : A) × In a xs × T (test a)
  any_in test [] h = absurd h
  any_in test (x ∷ xs) h = go (or_cases (test x) (any test xs) h) (λ k. any_in test xs k)
    where
      go : T (test x) ⊎ T (any test xs) → (T (any test xs) → (a : A) × In a xs × T (test a)) → (a : A) × In a (x ∷ xs) × T (test a)
      go (inl k) again = (x, in_head, k)
      go (inr k) again = let (a, m, p) = again k in (a, Memᴰ.tail m, p)

  pub in_any : (test : A → Bool) (xs : List A) (a : A) → In a xs → T (test a) → T (any test xs)
  in_any test [] a h k = absurd (Memᴰ.not-nil h)
  in_any test (x ∷ xs) a h k = go (Memᴰ.cases_cons h) (λ m. in_any test xs a m k)
    where
      go : (a ≡ x) ⊎ In a xs → (In a xs → T (any test xs)) → T (any test (x ∷ xs))
      go (inl e) again = or_left (test x) (any test xs) (rw (← e) k)
      go (inr m) again = or_right (test x) (any test xs) (again m)

  pub all_in : (test : A → Bool) (xs : List A) → T (all test xs) → (a : A) → In a xs → T (test a)
  all_in test [] h a m = absurd (Memᴰ.not-nil m)
  all_in test (x ∷ xs) h a m = go (Memᴰ.cases_cons m) (λ k. all_in test xs (and_right (test x) (all test xs) h) a k)
    where
      go : (a ≡ x) ⊎ In a xs → (In a xs → T (test a)) → T (test a)
      go (inl e) again = rw e (and_left (test x) (all test xs) h)
      go (inr k) again = again k

  pub in_all : (test : A → Bool) (xs : List A) → ((a : A) → In a xs → T (test a)) → T (all test xs)
  in_all test [] h = tt
  in_all test (x ∷ xs) h = and_both (test x) (all test xs) (h x in_head) (in_all test xs (λ a m. h a (Memᴰ.tail m)))

  -- Distinct
  pub distinct-keep : (test : A → Bool) {xs : List A} → Distinct xs → Distinct (keep test xs)
  distinct-keep test none = none
  distinct-keep test (more {x} {xs} new d) = go (test x) (distinct-keep test d)
    where
      go : (b : Bool) → Distinct (keep test xs) → Distinct (put b x (keep test xs))
      go true k = more (λ m. new (in_keep test xs x m).0) k
      go false k = k

module _ {A B : Type 0} where
  pub in_map : (f : A → B) (xs : List A) (b : B) → In b (map f xs) → (a : A) × In a xs × (b ≡ f a)
  in_map f [] b h = absurd (Memᴰ.not-nil h)
  in_map f (x ∷ xs) b h = go (Memᴰ.cases_cons h) (λ m. in_map f xs b m)
    where
      go : (b ≡ f x) ⊎ In b (map f xs) → (In b (map f xs) → (a : A) × In a xs × (b ≡ f a)) → (a : A) × In a (x ∷ xs) × (b ≡ f a)
      go (inl e) again = (x, in_head, e)
      go (inr m) again = let (a, k, e) = again m in (a, Memᴰ.tail k, e)

  pub map_in : (f : A → B) {a : A} {xs : List A} → In a xs → In (f a) (map f xs)
  map_in f (Memᴰ.head e) = Memᴰ.head (ap f e)
  map_in f (Memᴰ.tail m) = Memᴰ.tail (map_in f m)

  pub in_each : (k : A → List B) (xs : List A) (b : B) → In b (each k xs) → (a : A) × In a xs × In b (k a)
  in_each k [] b h = absurd (Memᴰ.not-nil h)
  in_each k (x ∷ xs) b h = go (Memᴰ.append_cases (k x) h) (λ m. in_each k xs b m)
    where
      go : In b (k x) ⊎ In b (each k xs) → (In b (each k xs) → (a : A) × In a xs × In b (k a)) → (a : A) × In a (x ∷ xs) × In b (k a)
      go (inl m) again = (x, in_head, m)
      go (inr m) again = let (a, i, j) = again m in (a, Memᴰ.tail i, j)

  pub each_in : (k : A → List B) (xs : List A) (a : A) (b : B) → In a xs → In b (k a) → In b (each k xs)
  each_in k [] a b h m = absurd (Memᴰ.not-nil h)
  each_in k (x ∷ xs) a b h m = go (Memᴰ.cases_cons h) (λ i. each_in k xs a b i m)
    where
      go : (a ≡ x) ⊎ In a xs → (In a xs → In b (each k xs)) → In b (k x ++ each k xs)
      go (inl e) again = Memᴰ.append_left {s = k x} (each k xs) (rw (← e) m)
      go (inr i) again = Memᴰ.append_right (k x) (again i)

-- from
pub in_from : (a k s : ℕ) → In s (from a k) → (a ≤ s) × (s < a + k)
in_from a zero s h = absurd (Memᴰ.not-nil h)
in_from a (suc k) s h = go (Memᴰ.cases_cons h) (λ m. in_from (suc a) k s m)
  where
    go : (s ≡ a) ⊎ In s (from (suc a) k) → (In s (from (suc a) k) → (suc a ≤ s) × (s < suc a + k)) → (a ≤ s) × (s < a + suc k)
    go (inl e) again = (omega arith, omega arith)
    go (inr m) again = let h : (suc a ≤ s) × (s < suc a + k) = again m in (omega arith, omega arith)

pub from_in : (a k s : ℕ) → a ≤ s → s < a + k → In s (from a k)
from_in a zero s h j = absurd (omega arith)
from_in a (suc k) s h j = go (compared s a) (λ i. from_in (suc a) k s i (omega arith))
  where
    go : (s ≡ a) ⊎ (s ≢ a) → (suc a ≤ s → In s (from (suc a) k)) → In s (from a (suc k))
    go (inl e) again = Memᴰ.head e
    go (inr e) again = Memᴰ.tail (again (omega arith))

pub distinct_from : (a k : ℕ) → Distinct (from a k)
distinct_from a zero = none
distinct_from a (suc k) = more (λ m. let h : (suc a ≤ a) × (a < suc a + k) = in_from (suc a) k a m in omega arith) (distinct_from (suc a) k)

pub length_from : (a k : ℕ) → length (from a k) ≡ k
length_from a zero = refl
length_from a (suc k) = ap suc (length_from (suc a) k)

-- what is in a list without s is in the list and is not s, and the other way round
pub in_without : (s : ℕ) (xs : List ℕ) (r : ℕ) → In r (without s xs) → In r xs × (s ≢ r)
in_without s xs r m = let (i, h) = in_keep (λ q. not (eqb s q)) xs r m in (i, neq s r h)

pub without_in : (s : ℕ) (xs : List ℕ) (r : ℕ) → In r xs → s ≢ r → In r (without s xs)
without_in s xs r m h = keep_in (λ q. not (eqb s q)) xs r m (ne_neqb s r h)
