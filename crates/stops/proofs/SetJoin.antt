-- Sets of stops that are held as numbers, stop by stop.
--   stops_in_ascends    the stops of a set ascend
--   stops_in_joined     a stop behind all of a set, added to it, is its last one
--   stops_in_one        the set of one stop
--   both_none, both_some    what two sets have in common (`◌&◌`) is nothing if, and only if, no stop is of both
use mathlib.Core.Path.{◌≡◌, ap, subst, ◌∙◌}
use mathlib.Core.List.Memᴰ
use mathlib.Core.List.{List, [], ◌∷◌, ◌++◌}
use mathlib.Core.Logic.{◌⊎◌, inl, inr, ◌≢◌}
use Prim.Native.Nat.{ℕ, zero, suc, ◌+◌, ◌-◌, ◌^◌, ◌/◌, ◌%◌, ◌≤◌, ◌<◌}
use native.Mathlib.Nat.{pow-suc}
use native.Mathlib.Omega.{arith}
use lib.Bits.{bit_and, and_step, and_zero_r}
use lib.Dec.{eqb}
use Rattle.sizes.specs.Sizes.{most_stops}
use Rattle.lists.specs.Lists.{In}
use Rattle.lists.proofs.Tests.{compared, to_false, ne_neqb}
use Rattle.lists.proofs.Members.{in_head}
use Rattle.lists.proofs.Empty.{no_members}
use Rattle.stops.specs.Code.{bits, stops_in}
use Rattle.stops.proofs.SetBits.{Digits, no_digit, is_clear, is_set, digits_bits, digits_range, digits_small, stops_digits, stops_in_zero}

digits_ascend : {k s m x : ℕ} {xs : List ℕ} → Digits k s m (x ∷ xs) → (r : ℕ) → In r xs → x < r
digits_ascend (is_clear h e d) r i = digits_ascend d r i
digits_ascend (is_set h e d) r i = omega (arith, digits_range d r i)

-- a digit above all that are set
digits_joined :
    {k s m : ℕ} {xs : List ℕ} → Digits k s m xs → (j t : ℕ) → t ≡ s + j → j < k → ((r : ℕ) → In r xs → r < t)
    → Digits k s (m + 2 ^ j) (xs ++ (t ∷ []))
digits_joined (no_digit e) j t q f below = absurd (omega arith)
digits_joined (is_clear {k} {s} {m} {xs} h e d) zero t q f below =
    let same : t ≡ s = omega arith in
    let none : xs ≡ [] = no_members xs (λ r i. omega (arith, digits_range d r i, below r i)) in
    rw (none, same) (is_set {m = m + 1} h (omega arith) (rw none at d))
digits_joined (is_clear {m = m} h e d) (suc j) t q f below =
    is_clear {m = m + 2 ^ suc j} (h + 2 ^ j) (omega (arith, pow-suc 2 j)) (digits_joined d j t (omega arith) (omega arith) below)
digits_joined (is_set {s = s} h e d) zero t q f below = absurd (omega (arith, below s in_head))
digits_joined (is_set {m = m} h e d) (suc j) t q f below =
    is_set {m = m + 2 ^ suc j} (h + 2 ^ j) (omega (arith, pow-suc 2 j))
    (digits_joined d j t (omega arith) (omega arith) (λ r i. below r (Memᴰ.tail i)))

-- the lowest digit of a number, and those above it
bits-lowest : (k s a : ℕ) → a % 2 ≡ 1 → bits (suc k) s a ≡ s ∷ bits k (suc s) (a / 2)
unfolding bits
bits-lowest k s a e = rw e

bits_above : (k s a : ℕ) → a % 2 ≢ 1 → bits (suc k) s a ≡ bits k (suc s) (a / 2)
unfolding bits
bits_above k s a e = rw (to_false (eqb (a % 2) 1) (ne_neqb (a % 2) 1 e))

bits_higher : (k s a r : ℕ) → In r (bits k (suc s) (a / 2)) → In r (bits (suc k) s a)
bits_higher k s a r i = go (compared (a % 2) 1)
  where
    go : (a % 2 ≡ 1) ⊎ (a % 2 ≢ 1) → In r (bits (suc k) s a)
    go (inl e) = rw (bits-lowest k s a e) (Memᴰ.tail i)
    go (inr e) = rw (bits_above k s a e) i

-- a digit that is set: the lowest one, or one above it
in_bits : (k s a r : ℕ) → In r (bits (suc k) s a) → ((r ≡ s) × (a % 2 ≡ 1)) ⊎ In r (bits k (suc s) (a / 2))
in_bits k s a r i = go (compared (a % 2) 1)
  where
    at : a % 2 ≡ 1 → (r ≡ s) ⊎ In r (bits k (suc s) (a / 2)) → ((r ≡ s) × (a % 2 ≡ 1)) ⊎ In r (bits k (suc s) (a / 2))
    at e (inl p) = inl (p, e)
    at e (inr j) = inr j

    go : (a % 2 ≡ 1) ⊎ (a % 2 ≢ 1) → ((r ≡ s) × (a % 2 ≡ 1)) ⊎ In r (bits k (suc s) (a / 2))
    go (inl e) = at e (Memᴰ.cases_cons (rw (bits-lowest k s a e) at i))
    go (inr e) = inr (rw (bits_above k s a e) at i)

bits-from : (k s a r : ℕ) → In r (bits k s a) → s ≤ r
unfolding bits
bits-from zero s a r i = absurd (Memᴰ.not-nil i)
bits-from (suc k) s a r i = go (in_bits k s a r i) (bits-from k (suc s) (a / 2) r)
  where
    go : ((r ≡ s) × (a % 2 ≡ 1)) ⊎ In r (bits k (suc s) (a / 2)) → (In r (bits k (suc s) (a / 2)) → suc s ≤ r) → s ≤ r
    go (inl p) again = omega arith
    go (inr p) again = omega (arith, again p)

-- no digit is set in both
digits_none : {k s m : ℕ} {xs : List ℕ} (a : ℕ) → Digits k s m xs → ((r : ℕ) → In r (bits k s a) → In r xs → ⊥) → bit_and a m ≡ 0
digits_none a (no_digit e) apart = rw (e, and_zero_r a)
digits_none a (is_clear {k} {s} {m} h e d) apart =
    let half : m / 2 ≡ h = omega arith in
    omega (arith, and_step a m, ap (bit_and (a / 2)) half, digits_none (a / 2) d (λ r i j. apart r (bits_higher k s a r i) j))
digits_none a (is_set {k} {s} {m} h e d) apart =
    go (compared (a % 2) 1) (digits_none (a / 2) d (λ r i j. apart r (bits_higher k s a r i) (Memᴰ.tail j)))
  where
    go : (a % 2 ≡ 1) ⊎ (a % 2 ≢ 1) → bit_and (a / 2) h ≡ 0 → bit_and a m ≡ 0
    go (inl o) again = absurd (apart s (rw (bits-lowest k s a o) in_head) in_head)
    go (inr o) again =
        let half : m / 2 ≡ h = omega arith in
        omega (arith, and_step a m, ap (bit_and (a / 2)) half)

-- one is
digits_some : {k s m : ℕ} {xs : List ℕ} (a : ℕ) → Digits k s m xs → (t : ℕ) → In t (bits k s a) → In t xs → 1 ≤ bit_and a m
digits_some a (no_digit e) t i j = absurd (Memᴰ.not-nil j)
digits_some a (is_clear {k} {s} {m} h e d) t i j = go (in_bits k s a t i) (λ p. digits_some (a / 2) d t p j)
  where
    go : ((t ≡ s) × (a % 2 ≡ 1)) ⊎ In t (bits k (suc s) (a / 2)) → (In t (bits k (suc s) (a / 2)) → 1 ≤ bit_and (a / 2) h) → 1 ≤ bit_and a m
    go (inl p) again = absurd (omega (arith, digits_range d t j))
    go (inr p) again =
        let half : m / 2 ≡ h = omega arith in
        omega (arith, and_step a m, ap (bit_and (a / 2)) half, again p)
digits_some a (is_set {k} {s} {m} {xs} h e d) t i j = go (in_bits k s a t i) (Memᴰ.cases_cons j) (digits_some (a / 2) d t)
  where
    go :
        ((t ≡ s) × (a % 2 ≡ 1)) ⊎ In t (bits k (suc s) (a / 2)) → (t ≡ s) ⊎ In t xs
        → (In t (bits k (suc s) (a / 2)) → In t xs → 1 ≤ bit_and (a / 2) h) → 1 ≤ bit_and a m
    go (inl p) c again = omega (arith, and_step a m)
    go (inr p) (inl q) again = absurd (omega (arith, bits-from k (suc s) (a / 2) t p))
    go (inr p) (inr q) again =
        let half : m / 2 ≡ h = omega arith in
        omega (arith, and_step a m, ap (bit_and (a / 2)) half, again p q)

-- ---- sets of the stops of a day

pub stops_in_joined :
    (m s : ℕ) → m < 2 ^ most_stops → 1 ≤ s → s ≤ most_stops → ((r : ℕ) → In r (stops_in m) → r < s)
    → (stops_in (m + 2 ^ (s - 1)) ≡ stops_in m ++ (s ∷ [])) × (m + 2 ^ (s - 1) < 2 ^ most_stops)
unfolding stops_in
stops_in_joined m s small some few below =
    let d = digits_joined (stops_digits m small) (s - 1) s (omega arith) (omega arith) below in
    (digits_bits d, digits_small d)

pub stops_in_one : (s : ℕ) → 1 ≤ s → s ≤ most_stops → stops_in (2 ^ (s - 1)) ≡ s ∷ []
stops_in_one s some few =
    let more : 2 ^ (s - 1) ≡ 0 + 2 ^ (s - 1) = omega arith in
    ap stops_in more ∙ (stops_in_joined 0 s (omega arith) some few (λ r i. absurd (Memᴰ.not-nil (rw stops_in_zero at i)))).0 ∙ rw stops_in_zero

module _ (m : ℕ) (small : m < 2 ^ most_stops) where
  pub stops_in_ascends : (x : ℕ) (xs : List ℕ) → stops_in m ≡ x ∷ xs → (r : ℕ) → In r xs → x < r
  stops_in_ascends x xs e r i = digits_ascend (subst (λ (ys : List ℕ). Digits most_stops 1 m ys) e (stops_digits m small)) r i

  pub both_none : (a : ℕ) → ((s : ℕ) → In s (stops_in a) → In s (stops_in m) → ⊥) → bit_and a m ≡ 0
  unfolding stops_in
  both_none a apart = digits_none a (stops_digits m small) apart

  pub both_some : (a s : ℕ) → In s (stops_in a) → In s (stops_in m) → bit_and a m ≢ 0
  unfolding stops_in
  both_some a s i j e = omega (arith, digits_some a (stops_digits m small) s i j)
