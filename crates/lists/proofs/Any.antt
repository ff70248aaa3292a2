-- Laws of `any` as equations: over the elements that a test keeps, over a list turned around, and by tests that agree on its elements.
use mathlib.Core.Path.{◌≡◌, refl, ap, ap₂, ◌∙◌}
use mathlib.Core.Bool.{Bool, true, false, ◌&&◌, ◌||◌}
use mathlib.Core.List.Memᴰ
use mathlib.Core.List.{List, [], ◌∷◌, reverse, reverse-cons}
use Rattle.lists.specs.Lists.{In, put, keep, any}
use Rattle.lists.proofs.Members.{in_head}
use Rattle.lists.proofs.Keep.{any_append}

or_turn : (a b : Bool) → (a || (b || false)) ≡ (b || a)
or_turn true true = refl
or_turn true false = refl
or_turn false true = refl
or_turn false false = refl

module _ {A : Type 0} where
  pub any-keep : (p q : A → Bool) (xs : List A) → any p (keep q xs) ≡ any (λ x. q x && p x) xs
  any-keep p q [] = refl
  any-keep p q (x ∷ xs) = go (q x) (any-keep p q xs)
    where
      go : (b : Bool) → any p (keep q xs) ≡ any (λ y. q y && p y) xs → any p (put b x (keep q xs)) ≡ (b && p x || any (λ y. q y && p y) xs)
      go true e = ap (λ (k : Bool). p x || k) e
      go false e = e

  pub any-reverse : (p : A → Bool) (xs : List A) → any p (reverse xs) ≡ any p xs
  any-reverse p [] = refl
  any-reverse p (x ∷ xs) =
      ap (any p) (reverse-cons x xs) ∙ any_append p (reverse xs) (x ∷ []) ∙ or_turn (any p (reverse xs)) (p x)
      ∙ ap (λ (k : Bool). p x || k) (any-reverse p xs)

  pub any_same : (p q : A → Bool) (xs : List A) → ((x : A) → In x xs → p x ≡ q x) → any p xs ≡ any q xs
  any_same p q [] h = refl
  any_same p q (x ∷ xs) h = ap₂ ◌||◌ (h x in_head) (any_same p q xs (λ y m. h y (Memᴰ.tail m)))
