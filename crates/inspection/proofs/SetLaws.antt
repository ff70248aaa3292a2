-- A stop's bit in the word of a set: document 01, "The pool".
use mathlib.Core.Path.{◌≡◌, refl, ap, sym, ◌∙◌}
use mathlib.Core.Bool.{Bool, true, false}
use Prim.Native.Nat.{ℕ, zero, suc, ◌+◌, ◌-◌, ◌^◌, ◌/◌, ◌%◌, ◌≤◌, ◌<◌}
use native.Mathlib.Nat.{pow-succ', div-div-eq-div-mul}
use native.Mathlib.Omega.{arith}
use borrow.Author.Tests.{ne_eqb, eq-eqb}
use lib.Dec.{eqb}
use Rattle.sizes.specs.Sizes.{most_stops}
use Rattle.lists.specs.Lists.{put, any}
use Rattle.orders.specs.Orders.{flown}
use Rattle.stops.specs.Code.{bits, stops_in}

-- the stops of digits whose first stands for s are none below s
bits_below : (k s m r : ℕ) → r < s → any (eqb r) (bits k s m) ≡ false
unfolding bits
bits_below zero s m r h = refl
bits_below (suc k) s m r h = go (eqb (m % 2) 1) (bits_below k (suc s) (m / 2) r (omega arith))
  where
    go : (b : Bool) → any (eqb r) (bits k (suc s) (m / 2)) ≡ false → any (eqb r) (put b s (bits k (suc s) (m / 2))) ≡ false
    go true e = rw (ne_eqb r s (omega arith), e) refl
    go false e = e

bits-flown : (k s m j : ℕ) → j < k → any (eqb (s + j)) (bits k s m) ≡ eqb (m / 2 ^ j % 2) 1
unfolding bits
bits-flown zero s m j h = absurd (omega arith)
bits-flown (suc k) s m zero h = go (eqb (m % 2) 1) refl
  where
    here : m / 2 ^ 0 % 2 ≡ m % 2
    here = omega arith

    go : (b : Bool) → eqb (m % 2) 1 ≡ b → any (eqb (s + 0)) (put b s (bits k (suc s) (m / 2))) ≡ eqb (m / 2 ^ 0 % 2) 1
    go true e = rw (here, e, eq-eqb (s + 0) s (omega arith)) refl
    go false e = rw (here, e) (bits_below k (suc s) (m / 2) (s + 0) (omega arith))
bits-flown (suc k) s m (suc j) h = go (eqb (m % 2) 1) (bits-flown k (suc s) (m / 2) j (omega arith)) ∙ further
  where
    same : any (eqb (s + suc j)) (bits k (suc s) (m / 2)) ≡ any (eqb (suc s + j)) (bits k (suc s) (m / 2))
    same = ap (λ (r : ℕ). any (eqb r) (bits k (suc s) (m / 2))) (omega arith)

    go :
        (b : Bool) → any (eqb (suc s + j)) (bits k (suc s) (m / 2)) ≡ eqb (m / 2 / 2 ^ j % 2) 1
        → any (eqb (s + suc j)) (put b s (bits k (suc s) (m / 2))) ≡ eqb (m / 2 / 2 ^ j % 2) 1
    go true e = rw (ne_eqb (s + suc j) s (omega arith)) (same ∙ e)
    go false e = same ∙ e

    further : eqb (m / 2 / 2 ^ j % 2) 1 ≡ eqb (m / 2 ^ suc j % 2) 1
    further = ap (λ (d : ℕ). eqb (d % 2) 1) (div-div-eq-div-mul m 2 (2 ^ j) ∙ ap (λ (d : ℕ). m / d) (sym (pow-succ' 2 j)))

pub set-flown : (m s : ℕ) → 1 ≤ s → s ≤ most_stops → eqb (m / 2 ^ (s - 1) % 2) 1 ≡ flown (stops_in m) s
unfolding flown stops_in
set-flown m s h k =
    let e : 1 + (s - 1) ≡ s = omega arith in
    sym (bits-flown most_stops 1 m (s - 1) (omega arith)) ∙ ap (λ (r : ℕ). any (eqb r) (bits most_stops 1 m)) e
