-- What the checks of n and of a starting order read of their causes.
--   few_stops       where cause 1 does not apply, n is small
--   empty-length    whether a starting order is empty, by its length
use mathlib.Core.Path.{◌≡◌, refl}
use mathlib.Core.Bool.{false}
use mathlib.Core.List.{List, [], ◌∷◌}
use Prim.Native.Nat.{ℕ, ◌≤◌}
use native.Mathlib.Omega.{arith}
use lib.Dec.{eqb}
use lib.ListN.{length}
use Rattle.sizes.specs.Sizes.{most_stops}
use Rattle.answer.specs.Checks.{cause₁, is_empty}

pub few_stops : (n : ℕ) → cause₁ n ≡ false → n ≤ most_stops
unfolding cause₁
few_stops n e = grind arith

pub empty-length : (x : List ℕ) → is_empty x ≡ eqb (length x) 0
empty-length [] = refl
empty-length (s ∷ x) = grind arith
