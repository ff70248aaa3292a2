-- The stops of a set that is held as a number (`stops_in`: stop s adds 2 to the power s-1), by arithmetic alone.
--   stops_in_zero, stops_in-next    the empty set has none; the first of any other set is one more than its trailing zeros
--   stops_in_range, stops_in-distinct, stops_in_few    they are stops of a day, none twice, and no more than it may have
--   stops_in-without               taking 2 to the power s-1 off takes stop s out, and nothing else
--   stops_in-mask, mask-stops_in, mask_small    the number of a set of stops (`mask`), and the way back
--   mask-others, stops_in-others   what is missing from the number of all n stops is the number of the other stops
--   all_small, stops_in-all        the number of all n stops, one less than 2 to the power n, is small; its stops are those that e leaves
--   stops_in-ones                  the digits that are set are as many as the stops
-- Each is shown of `Digits`, by halving the number.
use mathlib.Core.Path.{◌≡◌, refl, ap, ◌∙◌, sym}
use mathlib.Core.Bool.{Bool, true, false, not}
use mathlib.Core.List.Memᴰ
use mathlib.Core.List.{List, [], ◌∷◌}
use mathlib.Core.Logic.{◌⊎◌, inl, inr, ◌≢◌}
use Prim.Native.Nat.{ℕ, zero, suc, ◌+◌, ◌-◌, ◌^◌, ◌/◌, ◌%◌, ◌≤◌, ◌<◌}
use native.Mathlib.Nat.{pow-suc}
use native.Mathlib.Omega.{arith}
use lib.Count.{count_trailing_zeros, ones, ones_step}
use lib.Dec.{eqb, eqb_refl}
use lib.ListN.{length}
use lib.Pow.{pow_pos, pow_mono}
use Rattle.sizes.specs.Sizes.{most_stops}
use Rattle.lists.specs.Lists.{In, put, keep, sum, from, without, Distinct, none, more}
use Rattle.lists.proofs.Tests.{compared, to_true, to_false, ne_neqb}
use Rattle.lists.proofs.Members.{in_head, in_keep, in_from}
use Rattle.lists.proofs.Numbers.{sum_parts}
use Rattle.lists.proofs.Distinct.{without_absent}
use Rattle.orders.specs.Orders.{flown, set_of, left, mask}
use Rattle.orders.proofs.Sets.{empty_set}
use Rattle.stops.specs.Code.{bits, stops_in}
use Rattle.stops.specs.Examples

-- Digits k s m xs: m has k digits, and xs are the stops of those that are set, where the lowest digit stands for stop s. A number is
-- twice its half h, and then its lowest digit is clear, or one more, and then it is set.
pub data Digits : ℕ → ℕ → ℕ → List ℕ → Type 0 where
  no_digit : {s m : ℕ} → m ≡ 0 → Digits 0 s m []
  is_clear : {k s m : ℕ} {xs : List ℕ} (h : ℕ) → m ≡ h + h → Digits k (suc s) h xs → Digits (suc k) s m xs
  is_set : {k s m : ℕ} {xs : List ℕ} (h : ℕ) → m ≡ suc (h + h) → Digits k (suc s) h xs → Digits (suc k) s m (s ∷ xs)

-- `bits` gives the stops, and no others are the stops
digits : (k s m : ℕ) → m < 2 ^ k → Digits k s m (bits k s m)
unfolding bits
digits zero s m b = no_digit {m = m} (omega arith)
digits (suc k) s m b = go (compared (m % 2) 0) (digits k (suc s) (m / 2) (omega (arith, pow-suc 2 k)))
  where
    go : (m % 2 ≡ 0) ⊎ (m % 2 ≢ 0) → Digits k (suc s) (m / 2) (bits k (suc s) (m / 2)) → Digits (suc k) s m (bits (suc k) s m)
    go (inl e) d = rw e (is_clear {m = m} (m / 2) (omega arith) d)
    go (inr e) d = let o : m % 2 ≡ 1 = omega arith in rw o (is_set {m = m} (m / 2) (omega arith) d)

pub digits_bits : {k s m : ℕ} {xs : List ℕ} → Digits k s m xs → bits k s m ≡ xs
unfolding bits
digits_bits (no_digit e) = refl
digits_bits {m = m} (is_clear h e d) =
    let o : m % 2 ≡ 0 = omega arith in
    let q : m / 2 ≡ h = omega arith in
    rw (o, q) (digits_bits d)
digits_bits {s = s} {m = m} (is_set h e d) =
    let o : m % 2 ≡ 1 = omega arith in
    let q : m / 2 ≡ h = omega arith in
    rw (o, q) (ap (λ (l : List ℕ). s ∷ l) (digits_bits d))

pub digits_range : {k s m : ℕ} {xs : List ℕ} → Digits k s m xs → (r : ℕ) → In r xs → (s ≤ r) × (r < s + k)
digits_range (no_digit e) r i = absurd (Memᴰ.not-nil i)
digits_range (is_clear h e d) r i = omega (arith, digits_range d r i)
digits_range (is_set {k} {s} {m} {xs} h e d) r i = go (Memᴰ.cases_cons i) (digits_range d r)
  where
    go : (r ≡ s) ⊎ In r xs → (In r xs → (suc s ≤ r) × (r < suc s + k)) → (s ≤ r) × (r < s + suc k)
    go (inl q) again = omega arith
    go (inr j) again = omega (arith, again j)

digits_distinct : {k s m : ℕ} {xs : List ℕ} → Digits k s m xs → Distinct xs
digits_distinct (no_digit e) = none
digits_distinct (is_clear h e d) = digits_distinct d
digits_distinct (is_set {s = s} {xs = xs} h e d) = more (λ (i : In s xs). omega (arith, digits_range d s i)) (digits_distinct d)

digits_few : {k s m : ℕ} {xs : List ℕ} → Digits k s m xs → length xs ≤ k
digits_few (no_digit e) = omega arith
digits_few (is_clear h e d) = omega (arith, digits_few d)
digits_few (is_set h e d) = omega (arith, digits_few d)

digits_ones : {k s m : ℕ} {xs : List ℕ} → Digits k s m xs → ones m ≡ length xs
unfolding ones
digits_ones (no_digit e) = rw e
digits_ones (is_clear {m = m} h e d) =
    let q : m / 2 ≡ h = omega arith in
    omega (arith, ones_step m, ap ones q, digits_ones d)
digits_ones (is_set {m = m} h e d) =
    let q : m / 2 ≡ h = omega arith in
    omega (arith, ones_step m, ap ones q, digits_ones d)

digits_zero : (k s : ℕ) → Digits k s 0 []
digits_zero zero s = no_digit refl
digits_zero (suc k) s = is_clear 0 refl (digits_zero k (suc s))

-- the lowest set digit stands above the trailing zeros, and taking it off leaves the others
digits_next :
    {k s m : ℕ} {xs : List ℕ} → Digits k s m xs → (l : ℕ) → k ≤ l → 0 < m
    → (t : ℕ) × (ys : List ℕ) × (t ≡ count_trailing_zeros l m) × (t < k) × (2 ^ t ≤ m) × (xs ≡ (s + t) ∷ ys) × Digits k s (m - 2 ^ t) ys
unfolding count_trailing_zeros
digits_next (no_digit e) l f p = absurd (omega arith)
digits_next (is_clear h e d) zero f p = absurd (omega arith)
digits_next (is_set h e d) zero f p = absurd (omega arith)
digits_next (is_clear {k} {s} {m} {xs} h e d) (suc l) f p =
    let (t, ys, z, b, c, q, n) = digits_next d l (omega arith) (omega arith) in
    let even : m % 2 ≡ 0 = omega arith in
    let half : m / 2 ≡ h = omega arith in (
      suc t,
      ys,
      rw (even, half) (ap suc z),
      omega arith,
      omega (arith, pow-suc 2 t),
      q ∙ ap (λ (r : ℕ). r ∷ ys) (omega arith),
      is_clear {m = m - 2 ^ suc t} (h - 2 ^ t) (omega (arith, pow-suc 2 t)) n,
    )
digits_next (is_set {k} {s} {m} {xs} h e d) (suc l) f p =
    let odd : m % 2 ≡ 1 = omega arith in
    (zero, xs, rw odd, omega arith, omega arith, ap (λ (r : ℕ). r ∷ xs) (omega arith), is_clear {m = m - 1} h (omega arith) d)

-- taking the digit j places up off takes its stop, r, out
pub digits_without :
    {k s m : ℕ} {xs : List ℕ} → Digits k s m xs → (j r : ℕ) → r ≡ s + j → In r xs → (2 ^ j ≤ m) × Digits k s (m - 2 ^ j) (without r xs)
digits_without (no_digit e) j r q i = absurd (Memᴰ.not-nil i)
digits_without (is_clear h e d) zero r q i = absurd (omega (arith, digits_range d r i))
digits_without (is_clear {m = m} h e d) (suc j) r q i =
    let (b, n) = digits_without d j r (omega arith) i in
    (omega (arith, pow-suc 2 j), is_clear {m = m - 2 ^ suc j} (h - 2 ^ j) (omega (arith, pow-suc 2 j)) n)
digits_without (is_set {s = s} {m} {xs} h e d) zero r q i =
    let same : r ≡ s = omega arith in (
      omega arith,
      rw (same, to_true (eqb s s) (eqb_refl s), without_absent r xs (λ (j : In r xs). omega (arith, same, digits_range d r j)))
          (is_clear {m = m - 1} h (omega arith) d),
    )
digits_without (is_set {s = s} {m} {xs} h e d) (suc j) r q i =
    let (b, n) = digits_without d j r (omega arith) (go (Memᴰ.cases_cons i)) in (
      omega (arith, pow-suc 2 j),
      rw (to_false (eqb r s) (ne_neqb r s (omega arith))) (is_set {m = m - 2 ^ suc j} (h - 2 ^ j) (omega (arith, pow-suc 2 j)) n),
    )
  where
    go : (r ≡ s) ⊎ In r xs → In r xs
    go (inl p) = absurd (omega arith)
    go (inr p) = p

pub digits_small : {k s m : ℕ} {xs : List ℕ} → Digits k s m xs → m < 2 ^ k
digits_small (no_digit e) = omega arith
digits_small (is_clear {k} h e d) = omega (arith, digits_small d, pow-suc 2 k)
digits_small (is_set {k} h e d) = omega (arith, digits_small d, pow-suc 2 k)

-- ---- the number of a set, with the lowest digit for stop s

weight : ℕ → List ℕ → ℕ
weight s xs = sum (λ r. 2 ^ (r - s)) xs

-- one digit lower, a stop counts twice
weight_doubles : (s : ℕ) (xs : List ℕ) → ((r : ℕ) → In r xs → suc s ≤ r) → weight s xs ≡ weight (suc s) xs + weight (suc s) xs
unfolding weight
weight_doubles s [] above = refl
weight_doubles s (r ∷ xs) above =
    let h : suc s ≤ r = above r in_head in
    let up : r - s ≡ suc (r - suc s) = omega arith in
    omega (arith, ap (λ (j : ℕ). 2 ^ j) up, pow-suc 2 (r - suc s), weight_doubles s xs (λ q i. above q (Memᴰ.tail i)))

digits_weight : {k s m : ℕ} {xs : List ℕ} → Digits k s m xs → weight s xs ≡ m
unfolding weight
digits_weight (no_digit e) = sym e
digits_weight (is_clear {s = s} {xs = xs} h e d) =
    omega (arith, weight_doubles s xs (λ r i. (digits_range d r i).0), digits_weight d)
digits_weight (is_set {s = s} {xs = xs} h e d) =
    let one : s - s ≡ 0 = omega arith in
    omega (arith, ap (λ (j : ℕ). 2 ^ j) one, weight_doubles s xs (λ r i. (digits_range d r i).0), digits_weight d)

weight_digits :
    (test : ℕ → Bool) (n k s : ℕ) → n ≤ k → Digits k s (weight s (keep test (from s n))) (keep test (from s n))
unfolding weight
weight_digits test zero k s f = digits_zero k s
weight_digits test (suc n) zero s f = absurd (omega arith)
weight_digits test (suc n) (suc k) s f =
    go (test s) (weight_doubles s (keep test (from (suc s) n)) (λ r i. (in_from (suc s) n r (in_keep test (from (suc s) n) r i).0).0))
    (weight_digits test n k (suc s) (omega arith))
  where
    xs : List ℕ
    xs = keep test (from (suc s) n)

    go :
        (b : Bool) → weight s xs ≡ weight (suc s) xs + weight (suc s) xs → Digits k (suc s) (weight (suc s) xs) xs
        → Digits (suc k) s (weight s (put b s xs)) (put b s xs)
    go true e d =
        let one : s - s ≡ 0 = omega arith in
        is_set {m = weight s (s ∷ xs)} (weight (suc s) xs) (omega (arith, ap (λ (j : ℕ). 2 ^ j) one)) d
    go false e d = is_clear (weight (suc s) xs) e d

-- all n stops make n set digits
weight_all : (n s : ℕ) → weight s (from s n) + 1 ≡ 2 ^ n
unfolding weight
weight_all zero s = refl
weight_all (suc n) s =
    let one : s - s ≡ 0 = omega arith in
    omega (
      arith,
      ap (λ (j : ℕ). 2 ^ j) one,
      weight_doubles s (from (suc s) n) (λ r i. (in_from (suc s) n r i).0),
      weight_all n (suc s),
      pow-suc 2 n,
    )

-- ---- sets of the stops of a day

pub stops_in_zero : stops_in 0 ≡ []
unfolding stops_in
stops_in_zero = digits_bits (digits_zero most_stops 1)

module _ (m : ℕ) (small : m < 2 ^ most_stops) where
  pub stops_digits : Digits most_stops 1 m (stops_in m)
  unfolding stops_in
  stops_digits = digits most_stops 1 m small

  pub stops_in-next :
      0 < m
      → (count_trailing_zeros 32 m < most_stops) × (2 ^ count_trailing_zeros 32 m ≤ m)
      × (stops_in m ≡ (count_trailing_zeros 32 m + 1) ∷ stops_in (m - 2 ^ count_trailing_zeros 32 m))
  unfolding stops_in
  stops_in-next p =
      let (t, ys, z, b, c, q, n) = digits_next stops_digits 32 (omega arith) p in
      let first : 1 + t ≡ t + 1 = omega arith in
      rw (← z) (b, c, q ∙ rw (first, digits_bits n))

  pub stops_in_range : (s : ℕ) → In s (stops_in m) → (1 ≤ s) × (s ≤ most_stops)
  stops_in_range s i = omega (arith, digits_range stops_digits s i)

  pub stops_in-distinct : Distinct (stops_in m)
  stops_in-distinct = digits_distinct stops_digits

  pub stops_in_few : length (stops_in m) ≤ most_stops
  stops_in_few = digits_few stops_digits

  pub stops_in-ones : ones m ≡ length (stops_in m)
  stops_in-ones = digits_ones stops_digits

  pub stops_in-without : (s : ℕ) → In s (stops_in m) → (2 ^ (s - 1) ≤ m) × (stops_in (m - 2 ^ (s - 1)) ≡ without s (stops_in m))
  unfolding stops_in
  stops_in-without s i =
      let h : (1 ≤ s) × (s ≤ most_stops) = stops_in_range s i in
      let (b, n) = digits_without stops_digits (s - 1) s (omega arith) i in
      (b, digits_bits n)

pub mask-stops_in : (m : ℕ) → m < 2 ^ most_stops → mask (stops_in m) ≡ m
unfolding mask weight
mask-stops_in m small = digits_weight (stops_digits m small)

module _ (test : ℕ → Bool) (n : ℕ) where
  pub stops_in-mask : n ≤ most_stops → stops_in (mask (keep test (from 1 n))) ≡ keep test (from 1 n)
  unfolding mask weight stops_in
  stops_in-mask f = digits_bits (weight_digits test n most_stops 1 f)

  pub mask_small : mask (keep test (from 1 n)) < 2 ^ n
  unfolding mask weight
  mask_small = digits_small (weight_digits test n n 1 (omega arith))

  -- the others of the n stops
  pub mask-others : 2 ^ n - 1 - mask (keep test (from 1 n)) ≡ mask (keep (λ s. not (test s)) (from 1 n))
  unfolding mask weight
  mask-others = omega (arith, weight_all n 1, sum_parts (λ s. 2 ^ (s - 1)) test (from 1 n))

pub stops_in-others :
    (test : ℕ → Bool) (n : ℕ) → n ≤ most_stops → stops_in (2 ^ n - 1 - mask (keep test (from 1 n))) ≡ keep (λ s. not (test s)) (from 1 n)
stops_in-others test n f = ap stops_in (mask-others test n) ∙ stops_in-mask (λ s. not (test s)) n f

pub all_small : (n : ℕ) → n ≤ most_stops → (1 ≤ 2 ^ n) × (2 ^ n ≤ 2 ^ most_stops)
all_small n f = (pow_pos n, pow_mono {i = n} {j = most_stops} f)

pub stops_in-all : (n : ℕ) → n ≤ most_stops → stops_in (2 ^ n - 1) ≡ left n []
unfolding set_of left mask
stops_in-all n f =
    let none : mask (set_of n []) ≡ 0 = ap mask (empty_set n) in
    let all : 2 ^ n - 1 ≡ 2 ^ n - 1 - mask (set_of n []) = omega arith in
    ap stops_in all ∙ stops_in-others (flown []) n f
