-- An index into a run of records: inside, or past the end.
use mathlib.Core.Path.{◌≡◌, refl, ap, sym, ◌∙◌}
use mathlib.Core.Bool.{true, false}
use mathlib.Core.List.{List}
use Prim.Native.Nat.{ℕ, ◌≤◌, ◌<◌}
use borrow.Author.Tests.{lt-ltb, le-ltb}
use lib.ListN.{length, get_or, set, get_or-eq_default}
use Rattle.stops.specs.declared.node_record.Record.{Record}
use Rattle.node_answers.specs.declared.Extended.{Extended}
use Rattle.node_answers.proofs.LongerLaws.{run_inside, run_outside}
use Rattle.inspection.specs.Code.{of_six}
use Rattle.node_answers.specs.Answers.{is_inside, no_record, record_at, found, extension, extend_at}

module _ (ys : List Record) (i : ℕ) where
  pub is_inside_lem : i < length ys → is_inside ys i ≡ true
  unfolding is_inside
  is_inside_lem h = lt-ltb i (length ys) h

  pub is_outside : length ys ≤ i → is_inside ys i ≡ false
  unfolding is_inside
  is_outside h = le-ltb i (length ys) h

  pub found_inside : i < length ys → record { inside = true; found = get_or ys i no_record } ≡ found ys i
  unfolding found record_at
  found_inside h = rw (is_inside_lem h) refl

  pub found_outside : length ys ≤ i → record { inside = false; found = no_record } ≡ found ys i
  unfolding found record_at
  found_outside h = rw (is_outside h, get_or-eq_default ys no_record h) refl

  -- the record extended, as the words of record i give it, and the run with it in its place
  module _ (stop leg : ℕ) where
    pub extended_inside :
        (w : Extended) → i < length ys →
        let x = get_or ys i no_record in
        w ≡ extension true (of_six x.size x.set x.path x.bound x.first x.second) stop leg
        → (w ≡ extension (is_inside ys i) (record_at ys i) stop leg) × (set ys i w.after ≡ extend_at ys i stop leg)
    unfolding record_at of_six
    extended_inside w h e = (
      e ∙ rw (is_inside_lem h) refl,
      ap (λ (v : Extended). set ys i v.after) e ∙ sym (run_inside ys i stop leg (is_inside_lem h)),
    )

    pub extended_outside :
        length ys ≤ i
        → (record { inside = false; fits = false; after = no_record } ≡ extension (is_inside ys i) (record_at ys i) stop leg)
        × (ys ≡ extend_at ys i stop leg)
    unfolding extension
    extended_outside h = (rw (is_outside h) refl, sym (run_outside ys i stop leg (is_outside h)))
