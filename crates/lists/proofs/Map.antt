-- Laws of mapped lists: where a test q says of f x what the test p says of x, `keep` and `any` of the mapped list are those of the
-- list, mapped; likewise `least` of numbers.
use mathlib.Core.Path.{◌≡◌, refl, ap}
use mathlib.Core.Bool.{Bool, true, false}
use mathlib.Core.List.Memᴰ
use mathlib.Core.List.{List, [], ◌∷◌, ◌++◌, map}
use Prim.Native.Nat.{ℕ, zero, suc, ◌+◌}
use native.Mathlib.Omega.{arith}
use Rattle.lists.specs.Lists.{In, put, keep, any, least, from}
use Rattle.lists.proofs.Members.{in_head}

module _ {A B : Type 0} (f : A → B) where
  -- lists are mapped alike by functions that agree on their elements
  pub map_same : (g : A → B) (xs : List A) → ((x : A) → In x xs → f x ≡ g x) → map f xs ≡ map g xs
  map_same g [] h = refl
  map_same g (x ∷ xs) h = rw (h x in_head, map_same g xs (λ y m. h y (Memᴰ.tail m)))

  pub keep-map :
      (p : A → Bool) (q : B → Bool) (xs : List A) → ((x : A) → In x xs → q (f x) ≡ p x) → keep q (map f xs) ≡ map f (keep p xs)
  keep-map p q [] same = refl
  keep-map p q (x ∷ xs) same = rw (same x in_head, keep-map p q xs (λ y m. same y (Memᴰ.tail m))) (go (p x))
    where
      go : (b : Bool) → put b (f x) (map f (keep p xs)) ≡ map f (put b x (keep p xs))
      go true = refl
      go false = refl

  pub any-map : (p : A → Bool) (q : B → Bool) (xs : List A) → ((x : A) → In x xs → q (f x) ≡ p x) → any q (map f xs) ≡ any p xs
  any-map p q [] same = refl
  any-map p q (x ∷ xs) same = rw (same x in_head, any-map p q xs (λ y m. same y (Memᴰ.tail m)))

  pub least-map : (g : A → ℕ) (h : B → ℕ) (xs : List A) → ((x : A) → In x xs → h (f x) ≡ g x) → least h (map f xs) ≡ least g xs
  least-map g h [] same = refl
  least-map g h (x ∷ []) same = same x in_head
  least-map g h (x ∷ y ∷ ys) same = rw (same x in_head, least-map g h (y ∷ ys) (λ z m. same z (Memᴰ.tail m)))

-- one number more
pub map-from : {B : Type 0} (f : ℕ → B) (a k b : ℕ) → a + k ≡ b → map f (from a (suc k)) ≡ map f (from a k) ++ (f b ∷ [])
map-from f a zero b e = rw (let e' : a ≡ b = omega arith in e')
map-from {B} f a (suc k) b e = ap (λ (l : List B). f a ∷ l) (map-from f (suc a) k b (omega arith))
