-- Laws of `Sifted` at a partial index, for a loop that reads the record at `to`, goes one on, and stores the record at e if it passes
-- the test: at the start nothing is moved (`sifted_none`); a record that passes is stored at e (`sifted_passes`); one that fails is left
-- out (`sifted_fails`); a slide to where the records stand moves none (`sifted_still`).
use mathlib.Core.Path.{◌≡◌, refl, ap, sym, ◌∙◌}
use mathlib.Core.Bool.{Bool, true, false}
use mathlib.Core.List.{List, [], ◌∷◌, ◌++◌, append_assoc, append-nil}
use Prim.Native.Nat.{ℕ, ◌+◌, ◌≤◌, ◌<◌}
use native.Mathlib.Numerals.{add-one}
use native.Mathlib.Nat.{add-zero}
use native.Mathlib.Omega.{arith}
use lib.ListN.{length, get_or, drop, set, length-append, length-set}
use lib.Seq.{slice, slice_empty, length-slice, take-suc-set, drop-set-lt, drop-drop, get_or-drop}
use Rattle.lists.specs.Lists.{put, keep}
use Rattle.lists.proofs.Keep.{keep_all}
use Rattle.lists.proofs.Numbers.{keep_parts}
use Rattle.lists.proofs.Slices.{keep_slice_more, slice_join}
use Rattle.stops.specs.Code.{empty_record}
use Rattle.stops.specs.declared.node_record.Record.{Record}
use Rattle.records.specs.Code.{Sifted, always}

-- At most as many records are stored as are read, and the first is stored at or before the first read, so e is at most `to`
-- (`sifted_within`). So a store at e changes no record that is still to be read, and those before e stay the ones kept so far.
module _ (test : Record → Bool) (l : List Record) (from at : ℕ) where
  pub sifted_none : Sifted test l from from at l at
  sifted_none = record {
    same_length = refl;
    front = rw (slice_empty from l, append-nil);
    count = rw (slice_empty from l) (omega arith);
    behind = refl;
  }

  module _ (to : ℕ) (l' : List Record) (e : ℕ) (sifted : Sifted test l from to at l' e) (ahead : at ≤ from) (ordered : from ≤ to) where
    pub sifted_within : to ≤ length l → e ≤ to
    sifted_within inside = omega (arith, sifted.count, keep_parts test (slice from to l), length-slice from to l inside)

    next_stays : get_or l' to empty_record ≡ get_or l to empty_record
    next_stays =
        let first : (xs : List Record) → get_or xs to empty_record ≡ get_or (drop to xs) 0 empty_record =
        λ xs. sym (get_or-drop to xs 0 empty_record ∙ ap (λ (n : ℕ). get_or xs n empty_record) (add-zero to)) in
        first l' ∙ ap (λ (xs : List Record). get_or xs 0 empty_record) sifted.behind ∙ sym (first l)

    rest_stays : drop (to + 1) l' ≡ drop (to + 1) l
    rest_stays = sym (drop-drop 1 to l') ∙ ap (drop 1) sifted.behind ∙ drop-drop 1 to l

    -- x was read at `to`
    module _ (inside : to < length l) (x : Record) (read : x ≡ get_or l' to empty_record) where
      keeps : keep test (slice from (to + 1) l) ≡ keep test (slice from to l) ++ put (test x) x []
      keeps = rw (read ∙ next_stays) (keep_slice_more test empty_record from to l ordered inside)

      pub sifted_fails : test x ≡ false → Sifted test l from (to + 1) at l' e
      sifted_fails fails =
          let kept : keep test (slice from (to + 1) l) ≡ keep test (slice from to l) = rw (keeps, fails, append-nil) in
          record {
            same_length = sifted.same_length;
            front = rw kept sifted.front;
            count = rw kept sifted.count;
            behind = rest_stays;
          }

      pub sifted_passes : test x ≡ true → (l'' : List Record) → l'' ≡ set l' e x → Sifted test l from (to + 1) at l'' (e + 1)
      sifted_passes passes l'' stored =
          let kept : keep test (slice from (to + 1) l) ≡ keep test (slice from to l) ++ (x ∷ []) = rw (keeps, passes) in
          let below : e ≤ to = sifted_within (omega arith) in
          let room : e < length l' = omega (arith, sifted.same_length) in
          let apart : e < to + 1 = omega arith in
          record {
            same_length = ap length stored ∙ length-set l' e x ∙ sifted.same_length;
            front = rw (stored, kept, add-one, take-suc-set l' e x room, sifted.front, append_assoc);
            count = rw (kept, length-append) (omega (arith, sifted.count));
            behind = ap (drop (to + 1)) stored ∙ drop-set-lt (to + 1) l' e x apart ∙ rest_stays;
          }

-- a slide to where the records stand
pub sifted_still : (l : List Record) (from to : ℕ) → from ≤ to → to ≤ length l → Sifted always l from to from l to
unfolding always
sifted_still l from to ordered inside =
    let passing : keep (λ x. true) (slice from to l) ≡ slice from to l = keep_all (λ x. true) (slice from to l) (λ x m. tt) in
    record {
      same_length = refl;
      front = rw (passing, slice_join l 0 from to (omega arith) ordered inside);
      count = rw passing (omega (arith, length-slice from to l inside));
      behind = refl;
    }
