-- The pairs of a pair file.
--   pair_stops     their stops are bytes of it
--   file_pairing   where its bytes are stops of 1 to n and none stands twice, no pick-up is a drop (`Pairing`)
use mathlib.Core.Path.{◌≡◌, subst, sym}
use mathlib.Core.List.Memᴰ
use mathlib.Core.List.{List, [], ◌∷◌}
use mathlib.Core.Logic.{◌⊎◌, inl, inr, ◌≢◌}
use Prim.Native.Nat.{ℕ, ◌≤◌}
use Rattle.lists.specs.Lists.{In, Distinct, more}
use Rattle.lists.proofs.Members.{in_head}
use Rattle.orders.specs.Pairs.{Pair, pairs_of, Pairing}

pub pair_stops : (bytes : List ℕ) (p : Pair) → In p (pairs_of bytes) → In p.0 bytes × In p.1 bytes
pair_stops [] p m = absurd (Memᴰ.not-nil m)
pair_stops (a ∷ []) p m = absurd (Memᴰ.not-nil m)
pair_stops (a ∷ b ∷ bytes) p m = go (Memᴰ.cases_cons m) (pair_stops bytes p)
  where
    go : (p ≡ (a, b)) ⊎ In p (pairs_of bytes) → (In p (pairs_of bytes) → In p.0 bytes × In p.1 bytes) → In p.0 (a ∷ b ∷ bytes) × In p.1 (a ∷ b ∷ bytes)
    go (inl e) again = rw e (in_head, Memᴰ.tail in_head)
    go (inr i) again = let (j, k) = again i in (Memᴰ.tail (Memᴰ.tail j), Memᴰ.tail (Memᴰ.tail k))

apart_in : (bytes : List ℕ) → Distinct bytes → (p q : Pair) → In p (pairs_of bytes) → In q (pairs_of bytes) → p.1 ≢ q.0
apart_in [] d p q i j = absurd (Memᴰ.not-nil i)
apart_in (a ∷ []) d p q i j = absurd (Memᴰ.not-nil i)
apart_in (a ∷ b ∷ bytes) (more first (more second d)) p q i j =
    go (Memᴰ.cases_cons i) (Memᴰ.cases_cons j) (apart_in bytes d p q)
  where
    go :
        (p ≡ (a, b)) ⊎ In p (pairs_of bytes) → (q ≡ (a, b)) ⊎ In q (pairs_of bytes)
        → (In p (pairs_of bytes) → In q (pairs_of bytes) → p.1 ≢ q.0) → p.1 ≢ q.0
    go (inl e) (inl f) again = rw (e, f) (λ z. first (subst (λ (s : ℕ). In s (b ∷ bytes)) z in_head))
    go (inl e) (inr k) again = rw e (λ z. second (subst (λ (s : ℕ). In s bytes) (sym z) (pair_stops bytes q k).0))
    go (inr k) (inl f) again = rw f (λ z. first (Memᴰ.tail (subst (λ (s : ℕ). In s bytes) z (pair_stops bytes p k).1)))
    go (inr k) (inr l) again = again k l

pub file_pairing : (n : ℕ) (bytes : List ℕ) → ((s : ℕ) → In s bytes → (1 ≤ s) × (s ≤ n)) → Distinct bytes → Pairing n (pairs_of bytes)
file_pairing n bytes stops d = record { only = λ p m. stops p.0 (pair_stops bytes p m).0; apart = apart_in bytes d }
