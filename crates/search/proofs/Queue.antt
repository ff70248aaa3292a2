-- Where a complete node is chosen, every active node is complete or has a greater bound (`all-complete`). Under a least bound and under LIFO
-- the ranks say so. Under FIFO all active nodes are complete, for they stand as a queue: sizes never fall along the list and differ by
-- at most one, since the children of the earliest node, one size larger, go to the end.
use mathlib.Core.Path.{◌≡◌, sym, ◌∙◌, subst}
use mathlib.Core.Bool.{Bool, true, false}
use mathlib.Core.List.Memᴰ
use mathlib.Core.List.{List, [], ◌∷◌, ◌++◌}
use mathlib.Core.Logic.{◌⊎◌, inl, inr}
use mathlib.Core.Option.{Option}
use Prim.Native.Nat.{ℕ, suc, ◌≤◌, ◌<◌}
use native.Mathlib.Omega.{arith}
use lib.Dec.{T}
use Rattle.lists.specs.Lists.{In, put, keep}
use Rattle.lists.proofs.Members.{in_head, in_keep}
use Rattle.search.specs.Problem.{State, start}
use Rattle.search.specs.Selection.{Choice, chosen}
use Rattle.search.proofs.General.{Tree, Plan, Cut, pick, kids, kids₃, others₃, kids₄, kids₅, others₆, move, Reached, here, then}
use Rattle.search.proofs.Laws.{Sized, Manner, ranked, queue}
use Rattle.search.proofs.Pick.{picked_of, picked_in, pick-earliest}
use Rattle.search.proofs.Verdict.{Moved, onward_moved}

-- sizes never fall along the list, and differ by at most one
pub data Queued {N : Type 0} (size : N → ℕ) : List N → Type 0 where
  empty : Queued size []
  joined : {x : N} {xs : List N} → ((y : N) → In y xs → (size x ≤ size y) × (size y ≤ suc (size x))) → Queued size xs → Queued size (x ∷ xs)

module _ {N : Type 0} {size : N → ℕ} where
  queued_keep : (test : N → Bool) {xs : List N} → Queued size xs → Queued size (keep test xs)
  queued_keep test empty = empty
  queued_keep test (joined {x} {xs} near q) = go (test x) (queued_keep test q)
    where
      go : (b : Bool) → Queued size (keep test xs) → Queued size (put b x (keep test xs))
      go true k = joined (λ y m. near y (in_keep test xs y m).0) k
      go false k = k

  -- nodes of one size are a queue
  queued_level : (k : ℕ) (xs : List N) → ((x : N) → In x xs → size x ≡ k) → Queued size xs
  queued_level k [] same = empty
  queued_level k (x ∷ xs) same =
      joined {x = x} {xs = xs}
      (λ y m. let e : size x ≡ k = same x in_head in let f : size y ≡ k = same y (Memᴰ.tail m) in (omega arith, omega arith))
      (queued_level k xs (λ y m. same y (Memᴰ.tail m)))

  -- nodes of size k + 1 behind a queue of nodes of sizes k and k + 1
  queued_append :
      (k : ℕ) {xs : List N} (ys : List N) → Queued size xs → ((x : N) → In x xs → (k ≤ size x) × (size x ≤ suc k))
      → ((y : N) → In y ys → size y ≡ suc k) → Queued size (xs ++ ys)
  queued_append k ys empty near level = queued_level (suc k) ys level
  queued_append k ys (joined {x} {xs} close q) near level =
      joined (λ y m. go y (Memᴰ.append_cases xs m)) (queued_append k ys q (λ y m. near y (Memᴰ.tail m)) level)
    where
      go : (y : N) → In y xs ⊎ In y ys → (size x ≤ size y) × (size y ≤ suc (size x))
      go y (inl m) = close y m
      go y (inr m) =
          let h : (k ≤ size x) × (size x ≤ suc k) = near x in_head in let e : size y ≡ suc k = level y m in (omega arith, omega arith)

  queued_head : {x : N} {xs : List N} → Queued size (x ∷ xs) → (y : N) → In y xs → (size x ≤ size y) × (size y ≤ suc (size x))
  queued_head (joined near q) y m = near y m

  queued_tail : {x : N} {xs : List N} → Queued size (x ∷ xs) → Queued size xs
  queued_tail (joined near q) = q

module _ {N : Type 0} (t : Tree N) (p : Plan N) (c : Cut N) (size : N → ℕ) (limit : ℕ) (sized : Sized t.problem size limit) where
  -- a step from the earliest node keeps the queue
  queued_move : (s : State N) (b : N) (rest : List N) → Queued size (b ∷ rest) → Queued size (move t p c s b rest).active
  unfolding kids kids₃ others₃ kids₄ kids₅ others₆ move
  queued_move s b rest q =
      queued_append (size b) (kids₅ t p c s b rest) (queued_keep _ (queued_keep _ (queued_tail q)))
      (λ x m. queued_head q x (in_keep _ rest x (in_keep _ (others₃ t p c s b rest) x m).0).0)
      (λ y m. sized.child b y (in_keep _ (kids t p c s b rest) y (in_keep _ (kids₃ t p c s b rest) y (in_keep _ (kids₄ t p c s b rest) y m).0).0).0)

  module _ (pool : ℕ) (early : p.late ≡ false) (level : (x y : N) → p.rank x ≡ p.rank y) (best₀ : Option N) where
    -- what FIFO chooses stands first
    first_chosen : (xs : List N) (b : N) (rest : List N) → pick p.late p.rank xs ≡ chosen b rest → xs ≡ b ∷ rest
    first_chosen xs b rest e = go xs (subst (λ (late : Bool). pick late p.rank xs ≡ chosen b rest) early e)
      where
        go : (xs : List N) → pick false p.rank xs ≡ chosen b rest → xs ≡ b ∷ rest
        go [] h = absurd (Memᴰ.not-nil (picked_in (picked_of p.rank false [] b rest h)))
        go (x ∷ xs) h = let k : ◌≡◌ {A = Choice N} (chosen x xs) (chosen b rest) = sym (pick-earliest p.rank level x xs) ∙ h in cc

    reached_queued : (s : State N) → Reached t p c pool (start t.problem best₀) s → Queued size s.active
    unfolding start
    reached_queued s here = joined (λ y m. absurd (Memᴰ.not-nil m)) empty
    reached_queued s (then {s'} r e) = go (onward_moved t p c pool s' e) (reached_queued s' r)
      where
        go : Moved t p c pool s' s → Queued size s'.active → Queued size s.active
        go m q =
            subst (λ (z : State N). Queued size z.active) (sym m.moves)
            (queued_move s' m.b m.rest (subst (Queued size) (first_chosen s'.active m.b m.rest m.picks) q))

pub all-complete :
    {N : Type 0} (t : Tree N) (p : Plan N) (c : Cut N) (pool : ℕ) (size : N → ℕ) (limit : ℕ) → Sized t.problem size limit
    → {bound : N → ℕ} → Manner t p bound → (best₀ : Option N) (s : State N) → Reached t p c pool (start t.problem best₀) s
    → (b : N) (rest : List N) → pick p.late p.rank s.active ≡ chosen b rest → T (t.problem.complete b)
    → (x : N) → In x s.active → T (t.problem.complete x) ⊎ (bound b < bound x)
all-complete t p c pool size limit sized (ranked goes) best₀ s r b rest e whole x m =
    goes b x whole ((picked_of p.rank p.late s.active b rest e).least x m)
all-complete {N} t p c pool size limit sized (queue early level) best₀ s r b rest e whole x m =
    inl (go (Memᴰ.cases_cons (subst (λ (xs : List N). In x xs) front m)))
  where
    front : s.active ≡ b ∷ rest
    front = first_chosen t p c size limit sized pool early level best₀ s.active b rest e

    behind : Queued size (b ∷ rest)
    behind = subst (Queued size) front (reached_queued t p c size limit sized pool early level best₀ s r)

    go : (x ≡ b) ⊎ In x rest → T (t.problem.complete x)
    go (inl q) = rw q whole
    go (inr k) = sized.full x (omega (arith, sized.whole b whole, (queued_head behind x k).0))
