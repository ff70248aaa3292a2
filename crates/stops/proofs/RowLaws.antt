-- Laws behind the functions of the table.
--   entry_at                a number of the table, by its place
--   Clear, charge_finds, charge_skips, charges_end    a loop that looks for a charge that is too dear
--   Inside, place_inside    a place of the table is within it, and the table is small
--   filled, filled_none, filled_next, filled_more    a loop that fills an array, as long as a row, from the front
--   filled_row, filled-rows    a row and the rows, once the places up to n are filled
--   uncounted, uncounted-none, uncounted_more, uncounted-all    a loop that takes the legs home out of the rows
use mathlib.Core.Path.{◌≡◌, refl, ap, sym, ◌∙◌}
use mathlib.Core.Bool.{Bool, true, false, not, ◌&&◌, cond}
use mathlib.Core.List.{List, [], ◌∷◌, map}
use mathlib.Core.Logic.{◌⊎◌, inl, inr, ◌≢◌}
use Prim.Native.Nat.{ℕ, suc, ◌+◌, ◌*◌, ◌≤◌, ◌<◌}
use native.Mathlib.Nat.{mul-le-mul, suc-mul}
use native.Mathlib.Numerals.{add-one}
use native.Mathlib.Omega.{arith}
use lib.Dec.{leb, ltb, leb-suc-suc}
use lib.ListN.{length, get_or, set, replicate, length-set}
use lib.Seq.{get_or-set_same, get_or-set_other, ext_get_or}
use borrow.Author.Tests.{lt-ltb, le-ltb}
use Rattle.sizes.specs.Sizes.{most_stops, places, table_numbers, dearest_charge}
use Rattle.lists.specs.Lists.{any, from}
use Rattle.lists.proofs.Tests.{compared, same_tests, tests, cond_zero}
use Rattle.lists.proofs.Elements.{get_or_numbers, get_or-from, Rest, any_finds, any_skips, any-ends}
use Rattle.lists.proofs.Map.{map_same}
use Rattle.lists.proofs.Members.{length_from}
use Rattle.stops.specs.Tables.{entry, charge, flying, counted, in_rows, rows}
use Rattle.stops.specs.Code.{row_of}

pub entry_at : (n : ℕ) (table : List ℕ) (i j : ℕ) → get_or table (i * (n + 1) + j) 0 ≡ entry n table i j
unfolding entry
entry_at n table i j = rw (add-one n)

module _ (n : ℕ) (table : List ℕ) where
  -- The charges: the list is the numbers from 0 to n, and the test of j is that its charge is above the dearest.
  abbrev dear : ℕ → Bool
  dear j = ltb dearest_charge (charge n table j)

  abbrev pub Clear : ℕ → Type 0
  Clear = Rest dear (from 0 (suc n))

  dear_at : (j : ℕ) → j ≤ n → dear (get_or (from 0 (suc n)) j 0) ≡ dear j
  dear_at j h = ap dear (get_or_numbers 0 (suc n) j j (omega arith) (omega arith))

  pub charge_finds : (j : ℕ) → Clear j → j ≤ n → dearest_charge < charge n table j → false ≡ not (any dear (from 0 (suc n)))
  charge_finds j r h e =
      any_finds dear (from 0 (suc n)) j 0 r (omega (arith, length_from 0 (suc n)))
      (dear_at j h ∙ lt-ltb dearest_charge (charge n table j) e)

  pub charge_skips : (j : ℕ) → Clear j → j ≤ n → charge n table j ≤ dearest_charge → Clear (j + 1)
  charge_skips j r h e =
      any_skips dear (from 0 (suc n)) j 0 r (omega (arith, length_from 0 (suc n)))
      (dear_at j h ∙ le-ltb dearest_charge (charge n table j) e)

  pub charges_end : (j : ℕ) → Clear j → n < j → true ≡ not (any dear (from 0 (suc n)))
  charges_end j r h = any-ends dear (from 0 (suc n)) j r (omega (arith, length_from 0 (suc n)))

  -- place i, j stands inside the table, which has no more numbers than the largest
  abbrev pub Inside : ℕ → ℕ → Type 0
  Inside i j = (i * (n + 1) + j < length table) × (length table ≤ table_numbers)

  pub place_inside : (i j : ℕ) → (n ≤ most_stops) × (length table ≡ suc n * suc n) → i ≤ n → j ≤ n → Inside i j
  place_inside i j pre h k =
      let few : suc n ≤ places = omega arith in
      let rows_above : i * (n + 1) ≤ n * suc n = mul-le-mul h (omega arith) in
      let small : suc n * suc n ≤ table_numbers = mul-le-mul few few in
      (omega (arith, suc-mul n (suc n)), omega arith)

module _ {A : Type 0} where
  -- as many elements as a row has: f of the first k places, g of the others
  unfoldable pub filled : ℕ → (ℕ → A) → (ℕ → A) → List A
  filled k f g = map (λ i. cond (ltb i k) (f i) (g i)) (from 0 places)

  pub length-filled : (k : ℕ) (f g : ℕ → A) → length (filled k f g) ≡ places
  unfolding filled
  length-filled k f g = refl

  get_or-filled : (k : ℕ) (f g : ℕ → A) (d : A) (i : ℕ) → i < places → get_or (filled k f g) i d ≡ cond (ltb i k) (f i) (g i)
  unfolding filled
  get_or-filled k f g d i h = get_or-from (λ j. cond (ltb j k) (f j) (g j)) 0 places i i d h (omega arith)

  pub filled_none : (f g : ℕ → A) → map g (from 0 places) ≡ filled 0 f g
  unfolding filled
  filled_none f g = refl

  -- the next to be filled has what it had
  pub filled_next : (k : ℕ) (f g : ℕ → A) (d : A) → k < places → get_or (filled k f g) k d ≡ g k
  filled_next k f g d h = get_or-filled k f g d k h ∙ ap (λ (b : Bool). cond b (f k) (g k)) (le-ltb k k (omega arith))

  pub filled_more : (k : ℕ) (f g : ℕ → A) → k < places → set (filled k f g) k (f k) ≡ filled (k + 1) f g
  filled_more k f g h = ext_get_or (f k) stored (filled (k + 1) f g) (length_stored ∙ sym (length-filled (k + 1) f g)) at
    where
      stored : List A
      stored = set (filled k f g) k (f k)

      length_stored : length stored ≡ places
      length_stored = length-set (filled k f g) k (f k) ∙ length-filled k f g

      elsewhere : (i : ℕ) → i ≢ k → ltb i k ≡ ltb i (k + 1)
      elsewhere i e = same_tests (ltb i k) (ltb i (k + 1)) (λ t. omega (arith, tests)) (λ t. omega (arith, tests))

      go : (i : ℕ) → i < places → (i ≡ k) ⊎ (i ≢ k) → get_or stored i (f k) ≡ get_or (filled (k + 1) f g) i (f k)
      go i l (inl e) =
          let in-range : k < length (filled k f g) = omega (arith, length-filled k f g) in
          rw (e, get_or-set_same (filled k f g) k (f k) (f k) in-range, get_or-filled (k + 1) f g (f k) k h, lt-ltb k (k + 1) (omega arith))
      go i l (inr e) =
          get_or-set_other (filled k f g) k i (f k) (f k) e
          ∙ get_or-filled k f g (f k) i l
          ∙ ap (λ (b : Bool). cond b (f i) (g i)) (elsewhere i e)
          ∙ sym (get_or-filled (k + 1) f g (f k) i l)

      at : (i : ℕ) → i < length stored → get_or stored i (f k) ≡ get_or (filled (k + 1) f g) i (f k)
      at i l = go i (omega (arith, length_stored)) (compared i k)

  -- a loop over the places up to n leaves off at n + 1
  filled-all :
      (n k : ℕ) (f g : ℕ → A) → k ≤ suc n → n < k → filled k f g ≡ map (λ i. cond (leb i n) (f i) (g i)) (from 0 places)
  unfolding filled
  filled-all n k f g h l =
      ap (λ (m : ℕ). filled m f g) (let e : k ≡ suc n = omega arith in e)
      ∙ map_same _ _ (from 0 places) (λ i m. ap (λ (b : Bool). cond b (f i) (g i)) (leb-suc-suc i n))

abbrev pub zeros : List ℕ
zeros = replicate places 0

module _ (n : ℕ) (table : List ℕ) where
  -- once the places up to n are filled: a row, and the rows of a day that ends at home
  module _ (k : ℕ) (h : k ≤ suc n) (l : n < k) where
    pub filled_row : (i : ℕ) → filled k (flying n table i) (λ j. 0) ≡ row_of n table i
    unfolding row_of
    filled_row i = filled-all n k (flying n table i) (λ j. 0) h l

    pub filled-rows : filled k (row_of n table) (λ i. zeros) ≡ rows n false table
    unfolding rows in_rows counted row_of
    filled-rows = filled-all n k (row_of n table) (λ i. zeros) h l ∙ map_same _ _ (from 0 places) (λ i m. at i (leb i n))
      where
        at : (i : ℕ) (b : Bool) → cond b (row_of n table i) zeros ≡ map (λ j. cond (b && leb j n) (flying n table i j) 0) (from 0 places)
        at i true = refl
        at i false = refl

  -- row i; and, `uncounted k`, the rows with those before k without their leg home
  abbrev row_by : Bool → Bool → ℕ → List ℕ
  row_by inside away i = map (λ j. cond (inside && leb j n) (counted away (flying n table) i j) 0) (from 0 places)

  abbrev row_in : Bool → ℕ → List ℕ
  row_in away i = row_by (leb i n) away i

  unfoldable pub uncounted : ℕ → List (List ℕ)
  uncounted k = filled k (row_in true) (row_in false)

  pub uncounted-none : rows n false table ≡ uncounted 0
  unfolding uncounted rows in_rows
  uncounted-none = filled_none (row_in true) (row_in false)

  -- a row without its leg home
  row_uncounted : (i : ℕ) → set (row_in false i) 0 0 ≡ row_in true i
  unfolding counted
  row_uncounted i = ap (λ (v : ℕ). v ∷ map (λ j. cond (leb i n && leb j n) (flying n table i j) 0) (from 1 most_stops)) (sym (cond_zero (leb i n && leb 0 n)))

  pub uncounted_more : (k : ℕ) → k < places → set (uncounted k) k (set (get_or (uncounted k) k []) 0 0) ≡ uncounted (k + 1)
  unfolding uncounted
  uncounted_more k h =
      ap (λ (r : List ℕ). set (filled k (row_in true) (row_in false)) k (set r 0 0)) (filled_next k (row_in true) (row_in false) [] h)
      ∙ ap (set (filled k (row_in true) (row_in false)) k) (row_uncounted k)
      ∙ filled_more k (row_in true) (row_in false) h

  pub uncounted-all : (k : ℕ) → k ≤ suc n → n < k → uncounted k ≡ rows n true table
  unfolding uncounted rows in_rows
  uncounted-all k h l = filled-all n k (row_in true) (row_in false) h l ∙ map_same _ _ (from 0 places) (λ i m. at i (leb i n))
    where
      at : (i : ℕ) (b : Bool) → cond b (row_by b true i) (row_by b false i) ≡ row_by b true i
      at i true = refl
      at i false = refl
