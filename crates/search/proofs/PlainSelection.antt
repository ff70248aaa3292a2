-- The four selections that document 01 writes are the selection by rank (`pick`), each at a side and a rank:
--   0, 1: the earliest and the latest, ranked by twice the bound, a complete node one behind the incomplete ones of its bound (request A.8)
--   2 (FIFO): the earliest, all ranks 0
--   3 (LIFO): the latest, an incomplete node of rank 0, a complete one of rank 1
-- Each takes the earliest, or the latest, node that passes a test, and the test passes at just the nodes of some rank m below which
-- no node ranks: such a node is what `pick` chooses, if there is one; else a second test, at the next rank, finds one.
use mathlib.Core.Path.{◌≡◌, refl, sym, subst}
use mathlib.Core.Bool.{Bool, true, false, not, ◌&&◌, cond}
use mathlib.Core.List.Memᴰ
use mathlib.Core.List.{List, [], ◌∷◌}
use mathlib.Core.Logic.{◌⊎◌, inl, inr, ◌≢◌}
use Prim.Native.Nat.{ℕ, zero, suc, ◌+◌, ◌*◌, ◌≤◌, ◌<◌}
use native.Mathlib.Omega.{arith}
use lib.Dec.{T, eqb, eqb→eq, not_T}
use Rattle.lists.specs.Lists.{In, least}
use Rattle.lists.proofs.Tests.{tests, neq, to_true, to_false}
use Rattle.lists.proofs.Members.{in_head}
use Rattle.lists.proofs.Numbers.{least_le, least_in}
use Rattle.search.specs.Problem.{Problem}
use Rattle.search.specs.Selection.{Choice, nothing, chosen, behind, or_else, earliest, latest, lowest, lowest_open, select_by}
use Rattle.search.proofs.General.{beats, prefer, against, pick}
use Rattle.search.proofs.Pick.{picked_of, picked_in}

-- The side and the rank of a selection. (A number above 3 is refused before the run.)
abbrev pub late_by : ℕ → Bool
late_by zero = false
late_by (suc zero) = true
late_by (suc (suc zero)) = false
late_by (suc (suc (suc k))) = true

-- a complete node waits until only complete ones are left
abbrev pub waits : {N : Type 0} → Problem N → N → ℕ
waits P x = cond (P.complete x) 1 0

-- the bound; of equal bounds an incomplete node goes before a complete one (request A.8)
abbrev pub low_rank : {N : Type 0} → Problem N → (N → ℕ) → N → ℕ
low_rank P bound x = 2 * bound x + waits P x

abbrev pub rank_by : {N : Type 0} → Problem N → (N → ℕ) → ℕ → N → ℕ
rank_by P bound zero = low_rank P bound
rank_by P bound (suc zero) = low_rank P bound
rank_by P bound (suc (suc zero)) = λ x. 0
rank_by P bound (suc (suc (suc k))) = waits P

waits_le : {N : Type 0} (P : Problem N) (x : N) → waits P x ≤ 1
waits_le P x = go (P.complete x)
  where
    go : (b : Bool) → cond {A = ℕ} b 1 0 ≤ 1
    go true = omega arith
    go false = omega arith

-- What a test says of a rank, where no rank is below m: it passes at m and at nothing above.
data Marks (m rank : ℕ) : Bool → Type 0 where
  passes : rank ≡ m → Marks m rank true
  fails : m < rank → Marks m rank false

marks_le : {m r : ℕ} {b : Bool} → Marks m r b → m ≤ r
marks_le (passes e) = omega arith
marks_le (fails h) = omega arith

-- the test "its rank is m"
marks_eqb : (m r : ℕ) → m ≤ r → Marks m r (eqb r m)
marks_eqb m r h = go (eqb r m) (eqb→eq r m) (neq r m)
  where
    go : (b : Bool) → (T b → r ≡ m) → (T (not b) → r ≢ m) → Marks m r b
    go true e n = passes (e tt)
    go false e n = fails (let k : r ≢ m = n tt in omega arith)

module _ {N : Type 0} (late : Bool) (rank : N → ℕ) where
  -- the choice made behind x stands if it goes before x
  pick-behind :
      (x : N) (xs : List N) (b : N) (rest : List N) → pick late rank xs ≡ chosen b rest → T (beats late rank b x)
      → pick late rank (x ∷ xs) ≡ chosen b (x ∷ rest)
  unfolding pick against prefer
  pick-behind x xs b rest e h = rw (e, to_true (beats late rank b x) h)

  -- x is chosen if no node behind it goes before it
  pick-front : (x : N) (xs : List N) → ((y : N) → In y xs → T (beats late rank y x) → ⊥) → pick late rank (x ∷ xs) ≡ chosen x xs
  unfolding pick against prefer
  pick-front x xs h = go (pick late rank xs) refl
    where
      go : (c : Choice N) → pick late rank xs ≡ c → against late rank x xs c ≡ chosen x xs
      go nothing e = refl
      go (chosen y ys) e =
          rw (to_false (beats late rank y x) (not_T (beats late rank y x) (h y (picked_in (picked_of rank late xs y ys e)))))

-- all of xs rank above m
abbrev Above : {N : Type 0} → (N → ℕ) → ℕ → List N → Type 0
Above {N} rank m xs = (x : N) → In x xs → m < rank x

above_cons : {N : Type 0} (rank : N → ℕ) (m : ℕ) (x : N) (xs : List N) → m < rank x → Above rank m xs → Above rank m (x ∷ xs)
above_cons rank m x xs h above y i = go (Memᴰ.cases_cons i)
  where
    go : (y ≡ x) ⊎ In y xs → m < rank y
    go (inl e) = rw e h
    go (inr j) = above y j

-- none ranks above the greatest rank
above-none : {N : Type 0} (rank : N → ℕ) (m : ℕ) → ((x : N) → rank x ≤ m) → (xs : List N) → Above rank m xs → xs ≡ []
above-none rank m greatest [] above = refl
above-none rank m greatest (x ∷ xs) above = absurd (omega (arith, greatest x, above x in_head))

-- A choice found a node of rank m, the one that `pick` chooses; or there is none of that rank.
data Found {N : Type 0} (late : Bool) (rank : N → ℕ) (m : ℕ) (xs : List N) : Choice N → Type 0 where
  found : (b : N) (rest : List N) → rank b ≡ m → pick late rank xs ≡ chosen b rest → Found late rank m xs (chosen b rest)
  missed : Above rank m xs → Found late rank m xs nothing

found-pick :
    {N : Type 0} {late : Bool} {rank : N → ℕ} {m : ℕ} (xs : List N) {c : Choice N} → Found late rank m xs c → (Above rank m xs → xs ≡ [])
    → c ≡ pick late rank xs
unfolding pick
found-pick xs (found b rest r e) none = sym e
found-pick {N} {late} {rank} xs (missed above) none = subst (λ (l : List N). nothing ≡ pick late rank l) (sym (none above)) refl

-- a first choice stands if it found a node of rank m; else all rank above m, and a second one is asked
else_pick :
    {N : Type 0} {late : Bool} {rank : N → ℕ} {m : ℕ} (xs : List N) {c : Choice N} (other : Choice N) → Found late rank m xs c
    → (Above rank m xs → other ≡ pick late rank xs) → or_else c other ≡ pick late rank xs
else_pick xs other (found b rest r e) then = sym e
else_pick xs other (missed above) then = then above

module _ {N : Type 0} (rank : N → ℕ) (m : ℕ) (test : N → Bool) where
  earliest-found : (xs : List N) → ((x : N) → In x xs → Marks m (rank x) (test x)) → Found false rank m xs (earliest test xs)
  unfolding beats
  earliest-found [] marks = missed (λ x i. absurd (Memᴰ.not-nil i))
  earliest-found (x ∷ xs) marks = go (marks x in_head) (earliest-found xs (λ y i. marks y (Memᴰ.tail i)))
    where
      go :
          {b : Bool} {c : Choice N} → Marks m (rank x) b → Found false rank m xs c
          → Found false rank m (x ∷ xs) (cond b (chosen x xs) (behind x c))
      go (passes e) f =
          found x xs e
          (pick-front false rank x xs (λ y i h. let k : m ≤ rank y = marks_le (marks y (Memᴰ.tail i)) in omega (arith, tests)))
      go (fails h) (found b rest r e) = found b (x ∷ rest) r (pick-behind false rank x xs b rest e (omega (arith, tests)))
      go (fails h) (missed above) = missed (above_cons rank m x xs h above)

  latest-found : (xs : List N) → ((x : N) → In x xs → Marks m (rank x) (test x)) → Found true rank m xs (latest test xs)
  unfolding beats
  latest-found [] marks = missed (λ x i. absurd (Memᴰ.not-nil i))
  latest-found (x ∷ xs) marks = go (marks x in_head) (latest-found xs (λ y i. marks y (Memᴰ.tail i)))
    where
      go :
          {b : Bool} {c : Choice N} → Marks m (rank x) b → Found true rank m xs c
          → Found true rank m (x ∷ xs) (or_else (behind x c) (cond b (chosen x xs) nothing))
      go k (found b rest r e) =
          found b (x ∷ rest) r (pick-behind true rank x xs b rest e (let h : m ≤ rank x = marks_le k in omega (arith, tests)))
      go (passes e) (missed above) =
          found x xs e (pick-front true rank x xs (λ y i h. let k : m < rank y = above y i in omega (arith, tests)))
      go (fails h) (missed above) = missed (above_cons rank m x xs h above)

module _ {N : Type 0} (P : Problem N) (bound : N → ℕ) where
  -- 0 and 1, where m is the least bound: an incomplete node of bound m has rank 2m, and every other ranks above it; ..
  open_marks : (xs : List N) (x : N) → In x xs → Marks (2 * least bound xs) (low_rank P bound x) (lowest_open P bound xs x)
  open_marks xs x i = go (P.complete x) (marks_eqb (least bound xs) (bound x) (least_le bound xs x i))
    where
      go : {b : Bool} (c : Bool) → Marks (least bound xs) (bound x) b → Marks (2 * least bound xs) (2 * bound x + cond c 1 0) (b && not c)
      go true (passes e) = fails (omega arith)
      go false (passes e) = passes (omega arith)
      go c (fails h) = fails (omega arith)

  -- .. where there is none, the nodes of bound m are those of rank 2m + 1, and there is one
  low_marks : (xs : List N) → Above (low_rank P bound) (2 * least bound xs) xs → (x : N) → In x xs → Marks (2 * least bound xs + 1) (low_rank P bound x) (lowest bound xs x)
  low_marks xs above x i = go (marks_eqb (least bound xs) (bound x) (least_le bound xs x i))
    where
      go : {b : Bool} → Marks (least bound xs) (bound x) b → Marks (2 * least bound xs + 1) (low_rank P bound x) b
      go (passes e) = passes (omega (arith, waits_le P x, above x i))
      go (fails h) = fails (omega arith)

  low_there : (xs : List N) → Above (low_rank P bound) (2 * least bound xs + 1) xs → xs ≡ []
  low_there [] above = refl
  low_there (x ∷ xs) above =
      let (y, i, e) = least_in bound x xs in
      let h : 2 * least bound (x ∷ xs) + 1 < low_rank P bound y = above y i in
      absurd (omega (arith, waits_le P y))

  -- 3: the latest of rank 0, or, if all have rank 1, the latest of them
  waits_marks : (x : N) → Marks 0 (waits P x) (not (P.complete x))
  waits_marks x = go (P.complete x)
    where
      go : (b : Bool) → Marks 0 (cond {A = ℕ} b 1 0) (not b)
      go true = fails (omega arith)
      go false = passes refl

  pub select_is_pick : (k : ℕ) → k ≤ 3 → (xs : List N) → select_by P bound k xs ≡ pick (late_by k) (rank_by P bound k) xs
  unfolding select_by
  select_is_pick zero h xs =
      else_pick xs _ (earliest-found (low_rank P bound) _ _ xs (open_marks xs))
      (λ above. found-pick xs (earliest-found (low_rank P bound) _ _ xs (low_marks xs above)) (low_there xs))
  select_is_pick (suc zero) h xs =
      else_pick xs _ (latest-found (low_rank P bound) _ _ xs (open_marks xs))
      (λ above. found-pick xs (latest-found (low_rank P bound) _ _ xs (low_marks xs above)) (low_there xs))
  select_is_pick (suc (suc zero)) h xs =
      found-pick xs (earliest-found (λ x. 0) 0 _ xs (λ x i. passes refl)) (above-none (λ x. 0) 0 (λ x. omega arith) xs)
  select_is_pick (suc (suc (suc zero))) h xs =
      else_pick xs _ (latest-found (waits P) 0 _ xs (λ x i. waits_marks x))
      (λ above. found-pick xs (latest-found (waits P) 1 _ xs (λ x i. passes (omega (arith, waits_le P x, above x i)))) (above-none (waits P) 1 (waits_le P) xs))
  select_is_pick (suc (suc (suc (suc k)))) h xs = absurd (omega arith)
