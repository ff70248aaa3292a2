-- The layout of a file, as the code reckons it.
--   area_small    no table has more numbers than the largest
--   Layout, layout_of_lem, of_layout    the places and the length, where nothing is misplaced, and back
--   table_elsewhere, start_elsewhere, other_length, layout_fits    what each test of the layout decides
use mathlib.Core.Path.{◌≡◌, ap, sym, ◌∙◌}
use mathlib.Core.Bool.{Bool, true, false, not, ◌||◌, or-true}
use mathlib.Core.List.{List}
use mathlib.Core.Logic.{◌≢◌}
use Prim.Native.Nat.{ℕ, suc, ◌≤◌}
use native.Mathlib.Nat.{mul-le-mul}
use native.Mathlib.Omega.{arith}
use lib.Dec.{ltb, eqb}
use lib.ListN.{get_or}
use borrow.Author.Tests.{eqb-true, ltb-false, not-false, eq-eqb, ne_eqb, le-ltb}
use Rattle.sizes.specs.Sizes.{most_stops, places, table_numbers, longest}
use Rattle.lists.proofs.Tests.{both_false}
use Rattle.job_format.specs.Bytes.{word_at}
use Rattle.job_format.specs.Contents.{Trailer, area, start_place_of, file_length}
use Rattle.job_format.specs.Reader.{trailer_from, misplaced}

pub area_small : (n : ℕ) → n ≤ most_stops → area n ≤ table_numbers
area_small n h =
    let few : suc n ≤ places = omega arith in
    mul-le-mul few few

pub record Layout (t : Trailer) (len : ℕ) : Type 0 where
  pub table : t.table_place ≡ 0
  pub start : t.start_place ≡ start_place_of t.job.n
  pub whole : len ≡ file_length t.job.n t.start_length
  pub short : len ≤ longest

module _ (t : Trailer) (len : ℕ) where
  abbrev table_off : Bool
  table_off = not (eqb t.table_place 0)

  abbrev start_off : Bool
  start_off = not (eqb t.start_place (start_place_of t.job.n))

  abbrev end_off : Bool
  end_off = not (eqb len (file_length t.job.n t.start_length))

  pub layout_of_lem : misplaced t len ≡ false → Layout t len
  unfolding misplaced
  layout_of_lem e =
      let (most, long) = both_false (table_off || start_off || end_off) (ltb longest len) e in
      let (places, end) = both_false (table_off || start_off) end_off most in
      let (table, start) = both_false table_off start_off places in
      record {
        table = eqb-true t.table_place 0 (not-false _ table);
        start = eqb-true t.start_place (start_place_of t.job.n) (not-false _ start);
        whole = eqb-true len (file_length t.job.n t.start_length) (not-false _ end);
        short = ltb-false longest len long;
      }

  pub of_layout : Layout t len → misplaced t len ≡ false
  unfolding misplaced
  of_layout l = rw
      (eq-eqb t.table_place 0 l.table, eq-eqb t.start_place (start_place_of t.job.n) l.start, eq-eqb len (file_length t.job.n t.start_length) l.whole, le-ltb longest len l.short)

-- The layout for n stops, where n stands in the trailer, in a file of some length.
module _ (bytes : List ℕ) (len n : ℕ) (stands : n ≡ (trailer_from bytes).job.n) where
  start_is : start_place_of n ≡ start_place_of (trailer_from bytes).job.n
  start_is = ap start_place_of stands

  end_is : file_length n (get_or bytes 9 0) ≡ file_length (trailer_from bytes).job.n (get_or bytes 9 0)
  end_is = ap (λ (m : ℕ). file_length m (get_or bytes 9 0)) stands

  pub table_elsewhere : word_at bytes 0 ≢ 0 → true ≡ misplaced (trailer_from bytes) len
  unfolding misplaced trailer_from
  table_elsewhere h = rw (ne_eqb (word_at bytes 0) 0 h)

  pub start_elsewhere : word_at bytes 4 ≢ start_place_of n → true ≡ misplaced (trailer_from bytes) len
  unfolding misplaced trailer_from
  start_elsewhere h = rw (ne_eqb (word_at bytes 4) _ (λ e. h (e ∙ sym start_is)), or-true)

  pub other_length : len ≢ file_length n (get_or bytes 9 0) → true ≡ misplaced (trailer_from bytes) len
  unfolding misplaced trailer_from
  other_length h = rw (ne_eqb len _ (λ e. h (e ∙ sym end_is)), or-true)

  pub layout_fits :
      word_at bytes 0 ≡ 0 → word_at bytes 4 ≡ start_place_of n → len ≡ file_length n (get_or bytes 9 0)
      → ltb longest len ≡ misplaced (trailer_from bytes) len
  unfolding misplaced trailer_from
  layout_fits h k l = rw (eq-eqb (word_at bytes 0) 0 h, eq-eqb (word_at bytes 4) _ (k ∙ start_is), eq-eqb len _ (l ∙ end_is))
