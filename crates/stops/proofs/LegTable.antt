-- Rows, and the legs that they give.
--   leg_in_rows      from i to j rows have the cost that they were made of, for places up to n; leg-outside: other legs are 0
--   counted_stop, counted_home    which legs count
--   leg-flying       the planner's have the table's leg and the charge of j, for a stop j
--   in_table         every number of a table is one of its entries
--   entry_small      no number of the table is above the dearest leg, where it is priced
--   rows_cheap       no leg of the planner's rows is above the dearest, if so
use mathlib.Core.Path.{◌≡◌, refl, sym, ap, ◌∙◌}
use mathlib.Core.Bool.{Bool, true, false, ◌&&◌, cond}
use mathlib.Core.List.{List, [], map}
use mathlib.Core.Logic.{◌⊎◌, inl, inr}
use Prim.Native.Nat.{ℕ, zero, suc, ◌+◌, ◌*◌, ◌≤◌, ◌<◌}
use native.Mathlib.Nat.{mul-le-mul, suc-mul}
use native.Mathlib.Omega.{arith}
use lib.Dec.{T, leb, eqb, leb→le, le→leb, eqb→eq, not_T}
use lib.ListN.{length, get_or}
use Rattle.sizes.specs.Sizes.{most_stops, places, dearest_leg, dearest}
use Rattle.lists.specs.Lists.{In, from}
use Rattle.lists.proofs.Tests.{to_true, to_false, and_left, and_right, and_both, ordered}
use Rattle.lists.proofs.Parts.{in_place}
use Rattle.lists.proofs.Elements.{get_or-from, get_d_past, get_or_small}
use Rattle.stops.specs.Tables.{entry, charge, flying, counted, in_rows, rows}
use Rattle.stops.specs.Legs.{row_leg, legs}
use Rattle.stops.specs.Code.{Priced, Cheap}
use Rattle.stops.specs.Examples

-- on a day that ends away the legs to the stops count what they cost
pub counted_stop : (away : Bool) (costs : ℕ → ℕ → ℕ) (i j : ℕ) → 1 ≤ j → counted away costs i j ≡ costs i j
unfolding counted
counted_stop false costs i j h = refl
counted_stop true costs i j h = rw (to_false (eqb j 0) (not_T (eqb j 0) (λ t. omega (arith, eqb→eq j 0 t))))

-- and no leg home
pub counted_home : (costs : ℕ → ℕ → ℕ) (i : ℕ) → counted true costs i 0 ≡ 0
unfolding counted
counted_home costs i = refl

module _ (n : ℕ) (costs : ℕ → ℕ → ℕ) where
  -- row i, column j of the rows
  cell : ℕ → ℕ → ℕ
  cell i j = cond (leb i n && leb j n) (costs i j) 0

  row : ℕ → List ℕ
  row i = map (cell i) (from 0 places)

  leg_inside : (i j : ℕ) → i < places → j < places → row_leg (in_rows n costs) i j ≡ cell i j
  unfolding row_leg in_rows cell row
  leg_inside i j h k =
      ap (λ (r : List ℕ). get_or r j 0) (get_or-from row 0 places i i [] h (omega arith)) ∙ get_or-from (cell i) 0 places j j 0 k (omega arith)

  -- past the last place a leg is 0
  leg_cases : (i j : ℕ) → (row_leg (in_rows n costs) i j ≡ cell i j) ⊎ (row_leg (in_rows n costs) i j ≡ 0)
  unfolding row_leg in_rows cell row
  leg_cases i j = go (ordered places i) (ordered places j)
    where
      go : (places ≤ i) ⊎ (i < places) → (places ≤ j) ⊎ (j < places) → (row_leg (in_rows n costs) i j ≡ cell i j) ⊎ (row_leg (in_rows n costs) i j ≡ 0)
      go (inl h) k = inr (ap (λ (r : List ℕ). get_or r j 0) (get_d_past row 0 places i [] h))
      go (inr h) (inl k) =
          inr (ap (λ (r : List ℕ). get_or r j 0) (get_or-from row 0 places i i [] h (omega arith)) ∙ get_d_past (cell i) 0 places j 0 k)
      go (inr h) (inr k) = inl (leg_inside i j h k)

  pub leg_in_rows : n ≤ most_stops → (i j : ℕ) → i ≤ n → j ≤ n → row_leg (in_rows n costs) i j ≡ costs i j
  unfolding cell
  leg_in_rows small i j h k =
      leg_inside i j (omega arith) (omega arith)
      ∙ ap (λ (b : Bool). cond b (costs i j) 0)
      (to_true (leb i n && leb j n) (and_both (leb i n) (leb j n) (le→leb i n h) (le→leb j n k)))

  pub leg_outside : (i j : ℕ) → (n < i) ⊎ (n < j) → row_leg (in_rows n costs) i j ≡ 0
  unfolding cell
  leg_outside i j out = go (leg_cases i j)
    where
      beyond : (n < i) ⊎ (n < j) → T (leb i n && leb j n) → ⊥
      beyond (inl h) t = let k : i ≤ n = leb→le i n (and_left (leb i n) (leb j n) t) in omega arith
      beyond (inr h) t = let k : j ≤ n = leb→le j n (and_right (leb i n) (leb j n) t) in omega arith

      go : (row_leg (in_rows n costs) i j ≡ cell i j) ⊎ (row_leg (in_rows n costs) i j ≡ 0) → row_leg (in_rows n costs) i j ≡ 0
      go (inl e) = e ∙ ap (λ (b : Bool). cond b (costs i j) 0) (to_false (leb i n && leb j n) (not_T (leb i n && leb j n) (beyond out)))
      go (inr e) = e

  leg_small : (m : ℕ) → ((i j : ℕ) → j ≤ n → costs i j ≤ m) → (i j : ℕ) → row_leg (in_rows n costs) i j ≤ m
  unfolding cell
  leg_small m small i j = go (leg_cases i j)
    where
      at : (b : Bool) → (T b → j ≤ n) → cond b (costs i j) 0 ≤ m
      at true k = small i j (k tt)
      at false k = omega arith

      go : (row_leg (in_rows n costs) i j ≡ cell i j) ⊎ (row_leg (in_rows n costs) i j ≡ 0) → row_leg (in_rows n costs) i j ≤ m
      go (inl e) = rw e (at (leb i n && leb j n) (λ t. leb→le j n (and_right (leb i n) (leb j n) t)))
      go (inr e) = omega arith

-- every place k of a table is row i, column j of it
row_column : (n k : ℕ) → (i : ℕ) × (j : ℕ) × (k ≡ i * suc n + j) × (j ≤ n)
row_column n zero = (0, 0, omega arith, omega arith)
row_column n (suc k) = let (i, j, e, h) = row_column n k in go i j e h (ordered n j)
  where
    go : (i j : ℕ) → k ≡ i * suc n + j → j ≤ n → (n ≤ j) ⊎ (j < n) → (i : ℕ) × (j : ℕ) × (suc k ≡ i * suc n + j) × (j ≤ n)
    go i j e h (inl l) = (suc i, 0, omega (arith, suc-mul i (suc n)), omega arith)
    go i j e h (inr l) = (i, suc j, omega arith, omega arith)

-- every number of it is an entry
pub in_table :
    (n : ℕ) (table : List ℕ) → length table ≡ suc n * suc n → (w : ℕ) → In w table
    → (i : ℕ) × (j : ℕ) × (i ≤ n) × (j ≤ n) × (entry n table i j ≡ w)
unfolding entry
in_table n table square w m =
    let (k, short, at) = in_place table w 0 m in
    let (i, j, e, h) = row_column n k in
    (i, j, inside i j k e short (ordered (suc n) i), h, ap (λ (v : ℕ). get_or table v 0) (sym e) ∙ at)
  where
    inside : (i j k : ℕ) → k ≡ i * suc n + j → k < length table → (suc n ≤ i) ⊎ (i < suc n) → i ≤ n
    inside i j k e short (inl l) = absurd (omega (arith, mul-le-mul {n₁ = suc n} {m₁ = suc n} {n₂ = i} {m₂ = suc n} l (omega arith)))
    inside i j k e short (inr l) = omega arith

module _ (n : ℕ) (table : List ℕ) where
  pub leg-flying :
      n ≤ most_stops → (away : Bool) (i j : ℕ) → i ≤ n → j ≤ n → 1 ≤ j → row_leg (rows n away table) i j ≡ entry n table i j + charge n table j
  unfolding rows flying
  leg-flying few away i j h k stop = leg_in_rows n (counted away (flying n table)) few i j h k ∙ counted_stop away (flying n table) i j stop

  module _ (priced : Priced n table) where
    pub entry_small : (i j : ℕ) → entry n table i j ≤ dearest_leg
    unfolding entry
    entry_small i j = get_or_small dearest_leg table priced.legs (i * suc n + j)

    module _ (away : Bool) where
      flying_small : (i j : ℕ) → j ≤ n → counted away (flying n table) i j ≤ dearest
      unfolding counted flying
      flying_small i j k = go (away && eqb j 0)
        where
          go : (b : Bool) → cond b 0 (entry n table i j + charge n table j) ≤ dearest
          go true = omega arith
          go false = omega (arith, entry_small i j, priced.charges j k)

      pub rows_cheap : Cheap (rows n away table)
      unfolding legs rows
      rows_cheap =
          let small = leg_small n (counted away (flying n table)) dearest flying_small in
          record { leg = small; home = λ s. small s 0 }
