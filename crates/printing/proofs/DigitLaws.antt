-- Decimal digits.
--   fewest_digits    the fewest digits that hold a number, which `io` writes, are those of the definition
--   fewest_few       .. and at most twenty for a number of 64 bits
--   space_digits     behind a space they are a number as it is printed
use mathlib.Core.Path.{◌≡◌, refl, ap, sym, ◌∙◌}
use mathlib.Core.Bool.{Bool, true, false}
use mathlib.Core.List.{List, [], ◌∷◌, ◌++◌, append-nil}
use Prim.Native.Nat.{ℕ, zero, suc, ◌-◌, ◌^◌, ◌/◌, ◌%◌, ◌≤◌, ◌<◌}
use native.Mathlib.Nat.{pow-suc, one-le-pow, pow-le-pow_right}
use native.Mathlib.Omega.{arith}
use lib.ListN.{take}
use lib.Dec.{ltb}
use borrow.Author.Tests.{lt-ltb, ltb-true, ltb-false}
use Rattle.io.specs.Digits.{hex_digit_ascii, last_digits, IsDigitCount}
use Rattle.report_format.specs.Text.{digit, digits_of, decimal, spaced}
use Rattle.printing.specs.Code.{most_digits}

glyph_digit : (x : ℕ) → hex_digit_ascii (x % 10) ≡ digit (x % 10)
glyph_digit x = rw (lt-ltb (x % 10) 10 (omega arith))

-- x / 10 has a digit less than x
shorter : (k x : ℕ) → x < 10 ^ suc k → x / 10 < 10 ^ k
shorter k x h = omega (arith, pow-suc 10 k)

no_shorter : (k x j : ℕ) → 10 ^ k ≤ x → k ≡ suc j → 10 ^ j ≤ x / 10
no_shorter k x j h e = omega (arith, rw e at h, pow-suc 10 j)

-- a number with k digits, none if it is 0
front : (k most x : ℕ) → x < 10 ^ k → ((j : ℕ) → k ≡ suc j → 10 ^ j ≤ x) → x ≤ most → last_digits 10 k x ≡ digits_of most x
front zero zero x small large enough = refl
front zero (suc most) zero small large enough = refl
front zero (suc most) (suc x) small large enough = absurd (omega arith)
front (suc k) most zero small large enough = absurd (omega (arith, large k refl, one-le-pow k 10 (omega arith)))
front (suc k) zero (suc x) small large enough = absurd (omega arith)
front (suc k) (suc most) (suc x) small large enough =
    rw (glyph_digit (suc x), front k most (suc x / 10) (shorter k (suc x) small) (λ j e. no_shorter k (suc x) j (large k refl) e) (omega arith))

pub fewest_digits : (k x : ℕ) → IsDigitCount 10 1 x k → last_digits 10 k x ≡ decimal x
unfolding decimal
fewest_digits zero x h = absurd (omega arith)
fewest_digits (suc k) x h = rw (glyph_digit x, front k x (x / 10) (shorter k x h.1) large (omega arith))
  where
    large : (j : ℕ) → k ≡ suc j → 10 ^ j ≤ x / 10
    large j e =
        let same : suc k - 1 ≡ k = omega arith in
        no_shorter k x j (rw same at (h.2 (omega arith))) e

pub fewest_few : (k x : ℕ) → IsDigitCount 10 1 x k → x < 2 ^ 64 → k ≤ most_digits
fewest_few k x h fits = go (ltb most_digits k) refl
  where
    go : (b : Bool) → ltb most_digits k ≡ b → k ≤ most_digits
    go true e =
        let more : most_digits < k = ltb-true most_digits k e in
        let enough : most_digits ≤ k - 1 = omega arith in
        let grows : 10 ^ most_digits ≤ 10 ^ (k - 1) = pow-le-pow_right (omega arith) enough in
        absurd (omega (arith, h.2 (omega arith)))
    go false e = ltb-false most_digits k e

pub space_digits : (k x : ℕ) (out : List ℕ) → IsDigitCount 10 1 x k → take k out ≡ last_digits 10 k x → (32 ∷ []) ++ take k out ≡ spaced (x ∷ [])
unfolding spaced
space_digits k x out h e = ap (λ (l : List ℕ). 32 ∷ l) (e ∙ fewest_digits k x h ∙ sym (append-nil (decimal x)))
