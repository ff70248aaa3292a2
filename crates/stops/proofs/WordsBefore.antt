-- Laws of the comparison of orders in their words (request A.8).
--   digits_differ, digits_agree    the lowest digit tells, or the digits above it do
--   firsts_differ, firsts_agree    the first words tell, or the second words do
--   digits_same                    a word does not go before itself
--   none_before_zeros              no order goes before zeros
use mathlib.Core.Path.{◌≡◌, refl}
use mathlib.Core.Bool.{Bool, true, false, cond, ◌&&◌, or-false}
use Prim.Native.Nat.{ℕ, zero, suc, ◌-◌, ◌/◌, ◌%◌, ◌<◌}
use native.Mathlib.Omega.{arith}
use borrow.Author.Tests.{eq-eqb, ne_eqb, le-ltb}
use lib.Dec.{ltb, eqb}
use Rattle.sizes.specs.Sizes.{stop_base, word_stops}
use Rattle.stops.specs.Code.{digits_before, words_before}

pub digits_differ :
    (k a b : ℕ) → 0 < k → (a % stop_base ≡ b % stop_base → ⊥) → digits_before k a b ≡ ltb (a % stop_base) (b % stop_base)
unfolding digits_before
digits_differ zero a b some h = absurd (omega arith)
digits_differ (suc k) a b some h = simp (ne_eqb (a % stop_base) (b % stop_base) h, or-false)

pub digits_agree :
    (k a b : ℕ) → 0 < k → a % stop_base ≡ b % stop_base → digits_before k a b ≡ digits_before (k - 1) (a / stop_base) (b / stop_base)
unfolding digits_before
digits_agree zero a b some h = absurd (omega arith)
digits_agree (suc k) a b some h =
    let one : suc k - 1 ≡ k = omega arith in
    rw (le-ltb (a % stop_base) (b % stop_base) (omega arith), eq-eqb (a % stop_base) (b % stop_base) h, one) refl

module _ (a₁ a₂ b₁ b₂ : ℕ) where
  pub firsts_differ : (a₁ ≡ b₁ → ⊥) → words_before a₁ a₂ b₁ b₂ ≡ digits_before word_stops a₁ b₁
  unfolding words_before
  firsts_differ h = simp (ne_eqb a₁ b₁ h)

  pub firsts_agree : a₁ ≡ b₁ → words_before a₁ a₂ b₁ b₂ ≡ digits_before word_stops a₂ b₂
  unfolding words_before
  firsts_agree h = simp (eq-eqb a₁ b₁ h)

pub digits_same : (k a : ℕ) → digits_before k a a ≡ false
unfolding digits_before
digits_same zero a = refl
digits_same (suc k) a =
    rw (le-ltb (a % stop_base) (a % stop_base) (omega arith), eq-eqb (a % stop_base) (a % stop_base) refl) (digits_same k (a / stop_base))

digits_zero : (k a : ℕ) → digits_before k a 0 ≡ false
unfolding digits_before
digits_zero zero a = refl
digits_zero (suc k) a = rw (le-ltb (a % stop_base) 0 (omega arith), digits_zero k (a / stop_base)) (go (eqb (a % stop_base) 0))
  where
    go : (b : Bool) → (b && false) ≡ false
    go true = refl
    go false = refl

pub none_before_zeros : (a₁ a₂ : ℕ) → words_before a₁ a₂ 0 0 ≡ false
unfolding words_before
none_before_zeros a₁ a₂ = rw (digits_zero word_stops a₁, digits_zero word_stops a₂) (go (eqb a₁ 0))
  where
    go : (b : Bool) → cond b false false ≡ false
    go true = refl
    go false = refl
