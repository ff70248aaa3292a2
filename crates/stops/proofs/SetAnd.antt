-- What `◌&◌` does to a set of stops that is held as a number, and the number before it: all but the lowest stop stay (`stops_in-later`).
use mathlib.Core.Path.{◌≡◌, ◌∙◌}
use mathlib.Core.List.{List}
use Prim.Native.Nat.{ℕ, zero, suc, ◌-◌, ◌^◌, ◌/◌, ◌%◌, ◌≤◌, ◌<◌, min}
use native.Mathlib.Nat.{pow-suc}
use native.Mathlib.Omega.{arith}
use lib.Bits.{bit_and, and_step, and_self}
use lib.Count.{count_trailing_zeros}
use Rattle.sizes.specs.Sizes.{most_stops}
use Rattle.stops.proofs.SetBits.{Digits, no_digit, is_clear, is_set, stops_digits}

-- the digits of m and of m - 1 agree above the lowest that is set
digits_lowest : {k s m : ℕ} {xs : List ℕ} → Digits k s m xs → (l : ℕ) → k ≤ l → 0 < m → bit_and m (m - 1) ≡ m - 2 ^ count_trailing_zeros l m
unfolding count_trailing_zeros
digits_lowest (no_digit e) l f p = absurd (omega arith)
digits_lowest (is_clear h e d) zero f p = absurd (omega arith)
digits_lowest (is_set h e d) zero f p = absurd (omega arith)
digits_lowest (is_clear {m = m} h e d) (suc l) f p =
    let even : m % 2 ≡ 0 = omega arith in
    let half : m / 2 ≡ h = omega arith in
    let before : (m - 1) / 2 ≡ h - 1 = omega arith in
    let again : bit_and h (h - 1) ≡ h - 2 ^ count_trailing_zeros l h = digits_lowest d l (omega arith) (omega arith) in
    and_step m (m - 1) ∙ rw (even, half, before, again) (omega (arith, pow-suc 2 (count_trailing_zeros l h)))
digits_lowest (is_set {m = m} h e d) (suc l) f p =
    let odd : m % 2 ≡ 1 = omega arith in
    let half : m / 2 ≡ h = omega arith in
    let before : (m - 1) / 2 ≡ h = omega arith in
    let low : min 1 ((m - 1) % 2) ≡ 0 = omega arith in
    and_step m (m - 1) ∙ rw (odd, half, before, low, and_self) (omega arith)

pub stops_in-later : (m : ℕ) → m < 2 ^ most_stops → 0 < m → bit_and m (m - 1) ≡ m - 2 ^ count_trailing_zeros 32 m
stops_in-later m small p = digits_lowest (stops_digits m small) 32 (omega arith) p
