-- The test `same` says that two lists of numbers are equal.
use mathlib.Core.Path.{◌≡◌, refl, ap₂}
use mathlib.Core.List.{List, [], ◌∷◌}
use Prim.Native.Nat.{ℕ}
use lib.Dec.{T, eqb, eqb→eq, eqb_refl}
use Rattle.lists.specs.Lists.{same}
use Rattle.lists.proofs.Tests.{and_left, and_right, and_both}

pub same_equal : (xs ys : List ℕ) → T (same xs ys) → xs ≡ ys
same_equal [] [] h = refl
same_equal [] (y ∷ ys) h = absurd h
same_equal (x ∷ xs) [] h = absurd h
same_equal (x ∷ xs) (y ∷ ys) h =
    ap₂ (λ (s : ℕ) (l : List ℕ). s ∷ l)
    (eqb→eq x y (and_left (eqb x y) (same xs ys) h))
    (same_equal xs ys (and_right (eqb x y) (same xs ys) h))

pub same_refl : (xs : List ℕ) → T (same xs xs)
same_refl [] = tt
same_refl (x ∷ xs) = and_both (eqb x x) (same xs xs) (eqb_refl x) (same_refl xs)
