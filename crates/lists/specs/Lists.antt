-- The operations on lists that document 01's definitions are written with, beside the library's own (`length`, `◌++◌`, `map`, `take`).
--   In a xs          a stands in xs
--   keep test xs     the elements that pass the test, in their order
--   any test xs      some element passes;  all test xs: each one does
--   sum f xs         the sum of f over xs
--   least f xs       the least f over xs (0 of the empty list)
--   from a k         the k numbers a, a + 1, ..
--   each k xs        one list after another, each made of an element of xs by k
--   without s xs     the numbers of xs but for s
--   same xs ys       two lists of numbers are the same, as a test
--   padded len xs    the numbers of xs, and zeros behind, up to a length
--   Distinct xs      no element stands twice
-- Laws are in proofs/.
use Rattle.std.specs.Prelude.{Bool, true, false, not, ◌&&◌, ◌||◌, ℕ, zero, suc, ◌+◌, ◌-◌, min, eqb, length, replicate}
use mathlib.Core.List.{List, [], ◌∷◌, ◌++◌, Memᴰ}

abbrev pub In : {A : Type 0} → A → List A → Type 0
In a xs = Memᴰ a xs

-- x in front of xs if the test passed
abbrev pub put : {A : Type 0} → Bool → A → List A → List A
put true x xs = x ∷ xs
put false x xs = xs

abbrev pub keep : {A : Type 0} → (A → Bool) → List A → List A
keep test [] = []
keep test (x ∷ xs) = put (test x) x (keep test xs)

abbrev pub any : {A : Type 0} → (A → Bool) → List A → Bool
any test [] = false
any test (x ∷ xs) = test x || any test xs

abbrev pub all : {A : Type 0} → (A → Bool) → List A → Bool
all test [] = true
all test (x ∷ xs) = test x && all test xs

abbrev pub sum : {A : Type 0} → (A → ℕ) → List A → ℕ
sum f [] = 0
sum f (x ∷ xs) = f x + sum f xs

abbrev pub least : {A : Type 0} → (A → ℕ) → List A → ℕ
least f [] = 0
least f (x ∷ []) = f x
least f (x ∷ y ∷ ys) = min (f x) (least f (y ∷ ys))

abbrev pub from : ℕ → ℕ → List ℕ
from a zero = []
from a (suc k) = a ∷ from (suc a) k

abbrev pub each : {A B : Type 0} → (A → List B) → List A → List B
each k [] = []
each k (x ∷ xs) = k x ++ each k xs

abbrev pub without : ℕ → List ℕ → List ℕ
without s xs = keep (λ r. not (eqb s r)) xs

abbrev pub same : List ℕ → List ℕ → Bool
same [] [] = true
same [] (y ∷ ys) = false
same (x ∷ xs) [] = false
same (x ∷ xs) (y ∷ ys) = eqb x y && same xs ys

unfoldable pub padded : ℕ → List ℕ → List ℕ
padded len xs = xs ++ replicate (len - length xs) 0

pub data Distinct {A : Type 0} : List A → Type 0 where
  none : Distinct []
  more : {x : A} {xs : List A} → (In x xs → ⊥) → Distinct xs → Distinct (x ∷ xs)
