-- Laws of blocks of places. A block's minimum tells of its places (`some_block`, `in_block_lem`); so the first place with a
-- bound up to a limit is the first in the first block whose minimum is up to it (`first_in_first`), and the last is the last in the last
-- (`last_in_last`).
use mathlib.Core.Path.{◌≡◌, refl}
use mathlib.Core.Bool.{true, false}
use mathlib.Core.List.{List}
use mathlib.Core.Logic.{◌⊎◌, inl, inr, ◌≢◌}
use Prim.Native.Nat.{ℕ, ◌+◌, ◌*◌, ◌/◌, ◌≤◌, ◌<◌, min}
use native.Mathlib.Omega.{arith}
use lib.ListN.{get_or}
use Rattle.lists.proofs.Tests.{compared, ordered}
use Rattle.stops.specs.declared.node_record.Record.{Record}
use Rattle.lanes.specs.Sizes.{blocks, gone}
use Rattle.blocks.specs.Code.{bound_at, Least, in_block, Blocked, Foremost}
use Rattle.blocks.proofs.BlockLaws.{least_both, block_low, block_high, block_below, block_from}

-- what holds at k, and at j if it is not k
pub but_one : (P : ℕ → Type 0) (k j : ℕ) → P k → (j ≢ k → P j) → P j
but_one P k j at others = go (compared j k)
  where
    go : (j ≡ k) ⊎ (j ≢ k) → P j
    go (inl e) = rw e at
    go (inr n) = others n

module _ {recs : List Record} {used w : ℕ} {index : List ℕ} (b : Blocked recs used w index) where
  -- the minimum of a block
  pub block_least : (k : ℕ) → k < blocks → Least (in_block used w k) (bound_at recs) (get_or index k 0)
  block_least k h = b.each k h (λ e. omega arith)

  -- the block of a place in use, whose minimum is no more than the place's bound
  pub block_tells : (i : ℕ) → i < used → (i / w < blocks) × (get_or index (i / w) 0 ≤ bound_at recs i)
  block_tells i h =
      let k : i / w < blocks = block_below w b.wide i blocks (omega (arith, b.reach)) in
      (k, (block_least (i / w) k).low i (h, refl))

  pub some_block : (limit : ℕ) → (i : ℕ) × ((i < used) × (bound_at recs i ≤ limit)) → (k : ℕ) × ((k < blocks) × (get_or index k 0 ≤ limit))
  some_block limit (i, (h, up)) = let (k, low) = block_tells i h in (i / w, (k, omega arith))

  -- a block whose minimum is up to a limit has a place with a bound up to it
  pub in_block_lem :
      (limit k : ℕ) → limit < gone → k < blocks → get_or index k 0 ≤ limit
      → (i : ℕ) × ((k * w ≤ i) × ((i < (k + 1) * w) × ((i < used) × (bound_at recs i ≤ limit))))
  in_block_lem limit k live h up =
      let (i, ((inside, e), same)) = (block_least k h).met (omega arith) in
      let start = block_low w k i e in
      let end = block_high w b.wide k i e in
      (i, (start, (end, (inside, omega arith))))

  pub first_in_first :
      (limit k r : ℕ) → ((j : ℕ) → j < k → limit < get_or index j 0) → r < used → bound_at recs r ≤ limit
      → ((j : ℕ) → k * w ≤ j → j < r → limit < bound_at recs j) → Foremost false recs used limit r
  first_in_first limit k r before inside at passed = record {
    inside = inside;
    within = at;
    before = λ j m h. go j h m (ordered (k * w) j);
  }
    where
      go : (j : ℕ) → j < r → j < used → (k * w ≤ j) ⊎ (j < k * w) → limit < bound_at recs j
      go j h m (inl o) = passed j o h
      go j h m (inr o) = omega (arith, (block_tells j m).1, before (j / w) (block_below w b.wide j k o))

  pub last_in_last :
      (limit end k to r : ℕ) → ((i : ℕ) → i < used → i / w < end) → ((j : ℕ) → k < j → j < end → limit < get_or index j 0)
      → to ≡ min ((k + 1) * w) used → r < to → bound_at recs r ≤ limit
      → ((j : ℕ) → r < j → j < to → limit < bound_at recs j) → Foremost true recs used limit r
  last_in_last limit end k to r ends behind e inside at passed = record {
    inside = omega arith;
    within = at;
    before = λ j m h. go j h m (ordered to j);
  }
    where
      go : (j : ℕ) → r < j → j < used → (to ≤ j) ⊎ (j < to) → limit < bound_at recs j
      go j h m (inr o) = passed j h o
      go j h m (inl o) =
          let later : k + 1 ≤ j / w = block_from w b.wide j (k + 1) (omega arith) in
          omega (arith, (block_tells j m).1, behind (j / w) (omega arith) (ends j m))

-- The least bound of the places in use in the first k blocks: one block more.
abbrev pub LeastTo : List Record → ℕ → ℕ → ℕ → ℕ → Type 0
LeastTo recs used w k m = Least (λ (i : ℕ). (i < used) × (i / w < k)) (bound_at recs) m

pub least_to_more :
    {recs : List Record} {used w : ℕ} {index : List ℕ} (b : Blocked recs used w index) (k low r : ℕ) → k < blocks → LeastTo recs used w k low
    → r ≡ min low (get_or index k 0) → LeastTo recs used w (k + 1) r
least_to_more {recs} {used} {w} b k low r h l e =
    let here = block_least b k h in
    least_both (λ (i : ℕ). (i < used) × (i / w < k + 1)) l here.low here.met (λ i p. go i p (ordered k (i / w)))
    (λ i p. (p.0, omega (arith, p.1))) (λ i p. (p.0, omega (arith, p.1))) e
  where
    go : (i : ℕ) → (i < used) × (i / w < k + 1) → (k ≤ i / w) ⊎ (i / w < k) → ((i < used) × (i / w < k)) ⊎ in_block used w k i
    go i p (inl o) = inr (p.0, omega (arith, p.1))
    go i p (inr o) = inl (p.0, o)
