-- Laws of `keep` and `any` as equations: equal tests keep the same elements, a test that all pass keeps all, two tests one after the
-- other are both at once, and `keep` and `any` of joined lists.
use mathlib.Core.Path.{◌≡◌, refl, ap}
use mathlib.Core.Bool.{Bool, true, false, ◌&&◌, ◌||◌}
use mathlib.Core.List.Memᴰ
use mathlib.Core.List.{List, [], ◌∷◌, ◌++◌}
use lib.Dec.{T}
use Rattle.lists.specs.Lists.{In, put, keep, any}
use Rattle.lists.proofs.Tests.{to_true}
use Rattle.lists.proofs.Members.{in_head}

module _ {A : Type 0} where
  put_same : (b c : Bool) (x : A) (xs ys : List A) → b ≡ c → xs ≡ ys → put b x xs ≡ put c x ys
  put_same b c x xs ys e f = rw (e, f)

  pub keep_same : (f g : A → Bool) (xs : List A) → ((x : A) → In x xs → f x ≡ g x) → keep f xs ≡ keep g xs
  keep_same f g [] h = refl
  keep_same f g (x ∷ xs) h =
      put_same (f x) (g x) x (keep f xs) (keep g xs) (h x in_head) (keep_same f g xs (λ y m. h y (Memᴰ.tail m)))

  pub keep_all : (test : A → Bool) (xs : List A) → ((x : A) → In x xs → T (test x)) → keep test xs ≡ xs
  keep_all test [] h = refl
  keep_all test (x ∷ xs) h =
      put_same (test x) true x (keep test xs) xs (to_true (test x) (h x in_head)) (keep_all test xs (λ y m. h y (Memᴰ.tail m)))

  pub keep-keep : (f g : A → Bool) (xs : List A) → keep f (keep g xs) ≡ keep (λ x. g x && f x) xs
  keep-keep f g [] = refl
  keep-keep f g (x ∷ xs) = go (g x) (keep-keep f g xs)
    where
      go :
          (b : Bool) → keep f (keep g xs) ≡ keep (λ y. g y && f y) xs
          → keep f (put b x (keep g xs)) ≡ put (b && f x) x (keep (λ y. g y && f y) xs)
      go true e = ap (put (f x) x) e
      go false e = e

  pub keep_append : (test : A → Bool) (xs ys : List A) → keep test (xs ++ ys) ≡ keep test xs ++ keep test ys
  keep_append test [] ys = refl
  keep_append test (x ∷ xs) ys = go (test x) (keep_append test xs ys)
    where
      go :
          (b : Bool) → keep test (xs ++ ys) ≡ keep test xs ++ keep test ys
          → put b x (keep test (xs ++ ys)) ≡ put b x (keep test xs) ++ keep test ys
      go true e = ap (λ (l : List A). x ∷ l) e
      go false e = e

  pub any_append : (test : A → Bool) (xs ys : List A) → any test (xs ++ ys) ≡ (any test xs || any test ys)
  any_append test [] ys = refl
  any_append test (x ∷ xs) ys = go (test x) (any_append test xs ys)
    where
      go : (b : Bool) → any test (xs ++ ys) ≡ (any test xs || any test ys) → (b || any test (xs ++ ys)) ≡ (b || any test xs || any test ys)
      go true e = refl
      go false e = e
