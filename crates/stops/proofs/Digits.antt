-- Stops as bits of a set and as digits of an order: what the shifts of `Record` compute, that a word has room for its digits,
-- and that the last one of any record is a place of the table.
use mathlib.Core.Path.{◌≡◌, refl, ap, sym, ◌∙◌, subst}
use mathlib.Core.Bool.{Bool, true, false, cond}
use Prim.Native.Nat.{ℕ, zero, suc, ◌+◌, ◌*◌, ◌-◌, ◌^◌, ◌%◌, ◌≤◌, ◌<◌}
use native.Mathlib.Nat.{mod-eq_of_lt, pow-suc, pow-le-pow_right, mul-le-mul_right}
use native.Mathlib.Omega.{arith}
use lib.Dec.{leb, eqb}
use lib.Pow.{pow_mono, pow-add}
use Rattle.sizes.specs.Sizes.{most_stops, stop_bits, stop_base, word_stops}
use Rattle.stops.specs.Code.{last_stop}
use Rattle.stops.specs.declared.node_record.Record.{Record}

-- stop s stands for one bit
pub bit_small : (s : ℕ) → s ≤ most_stops → 2 ^ (s - 1) ≤ 2 ^ 15
bit_small s h = pow_mono {i = s - 1} {j = 15} (omega arith)

pub bit_shifted : (s : ℕ) → s ≤ most_stops → (1 * 2 ^ (s - 1)) % 4_294_967_296 ≡ 2 ^ (s - 1)
bit_shifted s h =
    let k : 2 ^ (s - 1) ≤ 2 ^ 15 = bit_small s h in
    mod-eq_of_lt {n = 1 * 2 ^ (s - 1)} (omega arith) ∙ (let e : 1 * 2 ^ (s - 1) ≡ 2 ^ (s - 1) = omega arith in e)

-- what a digit at place k is worth
pub digit_pow : (k : ℕ) → 2 ^ (stop_bits * k) ≡ stop_base ^ k
digit_pow zero = refl
digit_pow (suc k) =
    ap (λ (m : ℕ). 2 ^ m) (let e : stop_bits * suc k ≡ stop_bits * k + stop_bits = omega arith in e) ∙ pow-add 2 (stop_bits * k) stop_bits
    ∙ ap (λ (m : ℕ). m * stop_base) (digit_pow k) ∙ sym (pow-suc stop_base k)

-- the digits of a word fit it
digits_fit : (k : ℕ) → k < word_stops → stop_base ^ k * stop_base ≤ 4_294_967_296
digits_fit k h = subst (λ (m : ℕ). m ≤ 4_294_967_296) (pow-suc stop_base k) (pow-le-pow_right {n = stop_base} (omega arith) {i = suc k} {j = word_stops} h)

module _ (k s : ℕ) (h : k < word_stops) (few : s ≤ most_stops) where
  digit_small : (s - 1) * stop_base ^ k ≤ 15 * stop_base ^ k
  digit_small = mul-le-mul_right {m = s - 1} {n = 15} (stop_base ^ k) (omega arith)

  pub digit_shifted : ((s - 1) * 2 ^ (stop_bits * k)) % 4_294_967_296 ≡ (s - 1) * stop_base ^ k
  digit_shifted =
      ap (λ (m : ℕ). ((s - 1) * m) % 4_294_967_296) (digit_pow k)
      ∙ mod-eq_of_lt {n = (s - 1) * stop_base ^ k} (omega (arith, digit_small, digits_fit k h, pow-le-pow_right {n = stop_base} (omega arith) {i = 0} {j = k} (omega arith)))

  pub digit-fits : (w : ℕ) → w < stop_base ^ k → w + (s - 1) * stop_base ^ k < 4_294_967_296
  digit-fits w room = omega (arith, digit_small, digits_fit k h)

cond_most : {m : ℕ} (test : Bool) (x y : ℕ) → x ≤ m → y ≤ m → cond test x y ≤ m
cond_most true x y h k = h
cond_most false x y h k = k

-- the last stop of any record, or home, is a place of the table
pub last-place : (b : Record) → last_stop b ≤ most_stops
unfolding last_stop
last-place b =
    cond_most (eqb b.size 0) _ _ (omega arith)
    (cond_most (leb b.size word_stops) _ _ (omega arith) (cond_most (leb b.size most_stops) _ _ (omega arith) (omega arith)))
