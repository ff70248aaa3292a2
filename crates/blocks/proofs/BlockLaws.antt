-- Least numbers, shifts, and blocks of places.
--   last_or                               a number below another and 1
--   least-none, least_both, least_joins, least_like   the least of no number, of some and others, of one more, and of as good as the same numbers
--   least-from                            .. of the numbers from one to another, and the next
--   shift_small, shifted, shift_more      shifts by which blocks stay small: an amount, a product, one more
--   block_at, block_low, block_high, block_below, block_from, block_up_to   the block of a place, and the places of a block
--   block_run, run_block, least_block, block_runs   those in use are the ones from a place to another that is not before it
use mathlib.Core.Path.{◌≡◌, refl, ap, ◌∙◌}
use mathlib.Core.Bool.{not}
use mathlib.Core.Logic.{◌⊎◌, inl, inr, ⊎_elim}
use Prim.Native.Nat.{ℕ, ◌+◌, ◌*◌, ◌^◌, ◌/◌, ◌%◌, ◌≤◌, ◌<◌, min}
use native.Mathlib.Nat.{mul-le-mul_right, pow-le-pow_right, pow-suc, div-eq_of_lt-le, div-mul-le_self, div-lt_iff_lt-mul, le-div_iff_mul-le}
use native.Mathlib.Numerals.{add-one}
use native.Mathlib.Omega.{arith}
use lib.Dec.{T, ltb}
use Rattle.lists.proofs.Tests.{tests, either, compared, ordered}
use Rattle.lanes.specs.Sizes.{gone, blocks}
use Rattle.blocks.specs.Code.{Least, in_block}

-- a number below i + 1 is one below i, or i
pub last_or : (i j : ℕ) → j < i + 1 → (j < i) ⊎ (j ≡ i)
last_or i j h = ⊎_elim (λ e. inr e) (λ n. inl (omega (arith, n))) (compared j i)

pub least-none : (P : ℕ → Type 0) (f : ℕ → ℕ) → ((i : ℕ) → P i → ⊥) → Least P f gone
least-none P f none = record { most = omega arith; low = λ i p. absurd (none i p); met = λ h. absurd (omega arith) }

-- The least of what P holds of and of what Q holds of, b being the least of Q's.
pub least_both :
    {P Q : ℕ → Type 0} (R : ℕ → Type 0) {f : ℕ → ℕ} {a b r : ℕ} → Least P f a → ((i : ℕ) → Q i → b ≤ f i)
    → (b < gone → (i : ℕ) × (Q i × (f i ≡ b))) → ((i : ℕ) → R i → P i ⊎ Q i) → ((i : ℕ) → P i → R i) → ((i : ℕ) → Q i → R i) → r ≡ min a b
    → Least R f r
least_both {P} {Q} R {f} {a} {b} {r} was above met split left right e = record {
  most = omega (arith, was.most);
  low = λ i h. low i (split i h);
  met = λ h. found h (ordered a b);
}
  where
    low : (i : ℕ) → P i ⊎ Q i → r ≤ f i
    low i (inl p) = omega (arith, was.low i p)
    low i (inr q) = omega (arith, above i q)

    found : r < gone → (a ≤ b) ⊎ (b < a) → (i : ℕ) × (R i × (f i ≡ r))
    found h (inl o) = let (i, (p, same)) = was.met (omega arith) in (i, (left i p, omega arith))
    found h (inr o) = let (i, (q, same)) = met (omega arith) in (i, (right i q, omega arith))

-- Q is P and i
pub least_joins :
    (P Q : ℕ → Type 0) (f : ℕ → ℕ) (m i r : ℕ)
    → ((j : ℕ) → Q j → P j ⊎ (j ≡ i)) → ((j : ℕ) → P j → Q j) → Q i → r ≡ min m (f i) → Least P f m → Least Q f r
least_joins P Q f m i r apart wider new e was =
    least_both Q was (λ j same. let h : f j ≡ f i = ap f same in omega arith) (λ h. (i, (refl, refl))) apart wider (λ j same. rw same new) e

-- Q is P but for numbers whose f is that of gone records
pub least_like :
    (P Q : ℕ → Type 0) (f g : ℕ → ℕ) (m : ℕ)
    → ((i : ℕ) → Q i → P i) → ((i : ℕ) → P i → f i < gone → Q i) → ((i : ℕ) → P i → g i ≡ f i) → Least P f m → Least Q g m
least_like P Q f g m narrow wide like was = record {
  most = was.most;
  low = λ i q. rw (like i (narrow i q)) (was.low i (narrow i q));
  met = λ h.
      let found = was.met h in
      let i = found.0 in
      let p = found.1.0 in
      (i, (wide i p (rw found.1.1 h), like i p ∙ found.1.1));
}

-- the numbers from a to i, and i
pub least-from :
    (f : ℕ → ℕ) (a i m r : ℕ)
    → a ≤ i → r ≡ min m (f i) → Least (λ (j : ℕ). (a ≤ j) × (j < i)) f m → Least (λ (j : ℕ). (a ≤ j) × (j < i + 1)) f r
least-from f a i m r h l was =
    least_joins (λ (j : ℕ). (a ≤ j) × (j < i)) (λ (j : ℕ). (a ≤ j) × (j < i + 1)) f m i r
    (λ j p. ⊎_elim (λ low. inl (p.0, low)) inr (last_or i j p.1)) (λ j p. (p.0, omega (arith, p.1))) (h, omega arith) l was

-- n blocks of 2 ^ s places are few
pub shift_small : (n s : ℕ) → 1 ≤ n → n * 2 ^ s < 2 ^ 62 → s < 62
shift_small n s some few = go (either (ltb s 62))
  where
    go : T (ltb s 62) ⊎ T (not (ltb s 62)) → s < 62
    go (inl h) = omega (arith, tests)
    go (inr h) =
        let big : 2 ^ 62 ≤ 2 ^ s = pow-le-pow_right {n = 2} (omega arith) {i = 62} {j = s} (omega (arith, tests)) in
        let more : 1 * 2 ^ s ≤ n * 2 ^ s = mul-le-mul_right (2 ^ s) some in
        omega arith

-- so no digit of a place is shifted out
pub shifted : (k s : ℕ) → k ≤ blocks → blocks * 2 ^ s < 2 ^ 62 → k * 2 ^ s % 2 ^ 64 ≡ k * 2 ^ s
shifted k s small few = let most : k * 2 ^ s ≤ blocks * 2 ^ s = mul-le-mul_right (2 ^ s) small in omega arith

-- a shift more for blocks that reach fewer places
pub shift_more : (s : ℕ) → blocks * 2 ^ s < 2 ^ 60 → blocks * 2 ^ (s + 1) < 2 ^ 62
shift_more s few = rw add-one (omega (arith, pow-suc 2 s))

-- the block of a place: which places block k has
pub block_at : (width k i : ℕ) → k * width ≤ i → i < (k + 1) * width → i / width ≡ k
block_at width k i low high = div-eq_of_lt-le width low high

pub block_low : (width k i : ℕ) → i / width ≡ k → k * width ≤ i
block_low width k i e = rw e at (div-mul-le_self i width)

-- which places have a block before k, and from k on; and the blocks of places in sequence
module _ (width : ℕ) (wide : 1 ≤ width) where
  pub block_high : (k i : ℕ) → i / width ≡ k → i < (k + 1) * width
  block_high k i e = (div-lt_iff_lt-mul {k = width} {x = i} {y = k + 1} wide).0 (omega arith)

  pub block_below : (i k : ℕ) → i < k * width → i / width < k
  block_below i k h = (div-lt_iff_lt-mul wide).1 h

  pub block_from : (i k : ℕ) → k * width ≤ i → k ≤ i / width
  block_from i k h = (le-div_iff_mul-le wide).1 h

  pub block_up_to : (i j : ℕ) → i ≤ j → i / width ≤ j / width
  block_up_to i j h = block_from j (i / width) (let e : i / width * width ≤ i = div-mul-le_self i width in omega arith)

-- those in use are the ones from a place to another
module _ (used width k from to : ℕ) (wide : 1 ≤ width) (l : from ≡ min (k * width) used) (h : to ≡ min ((k + 1) * width) used) where
  pub block_run : (i : ℕ) → in_block used width k i → (from ≤ i) × (i < to)
  block_run i b = (omega (arith, block_low width k i b.1), omega (arith, b.0, block_high width wide k i b.1))

  pub run_block : (i : ℕ) → (from ≤ i) × (i < to) → in_block used width k i
  run_block i p = (omega (arith, p.1), block_at width k i (omega (arith, p)) (omega (arith, p.1)))

  pub least_block : (f : ℕ → ℕ) (m : ℕ) → Least (λ (i : ℕ). (from ≤ i) × (i < to)) f m → Least (in_block used width k) f m
  least_block f m = least_like (λ (i : ℕ). (from ≤ i) × (i < to)) (in_block used width k) f f m block_run (λ i p u. run_block i p) (λ i p. refl)

-- the place that it starts from is not behind the one that it ends at
pub block_runs : (used width k from to : ℕ) → from ≡ min (k * width) used → to ≡ min ((k + 1) * width) used → from ≤ to
block_runs used width k from to l h = let more : k * width ≤ (k + 1) * width = mul-le-mul_right width (omega arith) in omega arith
