-- A list with zeros behind it: written one element further (`padded_one`), in front of what is left of some zeros (`append-zeros`), taken out
-- again (`take-padded`), and its length (`padded-longer`).
use mathlib.Core.Path.{◌≡◌, ap, sym, ◌∙◌}
use mathlib.Core.List.{List, [], ◌∷◌, ◌++◌}
use Prim.Native.Nat.{ℕ, zero, suc, ◌-◌, ◌≤◌, ◌<◌}
use native.Mathlib.Omega.{arith}
use lib.ListN.{length, set, take, drop, replicate, length-append}
use lib.Seq.{set_at, append_snoc, take-append_seam}
use Rattle.lists.specs.Lists.{padded}

pub padded_one :
    (n : ℕ) (xs zs : List ℕ) (k y : ℕ) → length xs ≡ k → zs ≡ xs ++ (y ∷ []) → k < n → set (padded n xs) k y ≡ padded n zs
unfolding padded
padded_one n xs zs k y e f h =
    let room : n - length xs ≡ suc (n - suc k) = omega arith in
    let less : n - length (xs ++ (y ∷ [])) ≡ n - suc k = omega (arith, length-append xs (y ∷ [])) in
    rw (f, room, less) (set_at xs 0 (replicate (n - suc k) 0) y k e ∙ sym (append_snoc xs y (replicate (n - suc k) 0)))

drop-zeros : (n m : ℕ) → drop {A = ℕ} n (replicate m 0) ≡ replicate (m - n) 0
drop-zeros zero m = let e : m ≡ m - 0 = omega arith in ap (λ (k : ℕ). replicate k 0) e
drop-zeros (suc n) zero = let e : 0 - suc n ≡ 0 = omega arith in rw e
drop-zeros (suc n) (suc m) = let e : suc m - suc n ≡ m - n = omega arith in rw e (drop-zeros n m)

pub append-zeros : (n k : ℕ) (xs : List ℕ) → length xs ≡ k → xs ++ drop k (replicate n 0) ≡ padded n xs
unfolding padded
append-zeros n k xs e = rw (← e, drop-zeros (length xs) n)

pub take-padded : (n : ℕ) (xs : List ℕ) → take (length xs) (padded n xs) ≡ xs
unfolding padded
take-padded n xs = take-append_seam xs (replicate (n - length xs) 0)

pub padded-longer : (n : ℕ) (xs : List ℕ) → length xs ≤ length (padded n xs)
unfolding padded
padded-longer n xs = simp length-append (omega arith)
