-- What a file holds whose length and places are those of the layout, as `accept` finds it.
--   layout_laid           such a file is long enough
--   Found                 what the code has read is what the trailer and the file say
--   found_short           a starting order that the checks let pass has a place for each stop
--   accept_refuses, accept_returns    the two answers
use mathlib.Core.Path.{◌≡◌, refl, ap, sym, ◌∙◌}
use mathlib.Core.Bool.{false}
use mathlib.Core.List.{List}
use mathlib.Core.Logic.{◌≢◌}
use Prim.Native.Nat.{ℕ, zero, suc, ◌+◌, ◌*◌, ◌-◌, ◌≤◌}
use native.Mathlib.Omega.{arith}
use lib.ListN.{length, get_or, take, drop, length-drop}
use lib.Seq.{length-take-le}
use Rattle.sizes.specs.Sizes.{table_numbers, order_places}
use Rattle.lists.specs.Lists.{padded}
use Rattle.answer.specs.Checks.{cause₁, job_cause}
use Rattle.answer.specs.Refusals.{number}
use Rattle.answer.specs.declared.Job.{Job}
use Rattle.answer.specs.declared.refusal.Refusal.{Refusal}
use Rattle.job_format.specs.Contents.{Contents, contents_of, Trailer, trailer_length, area, start_place_of, file_length}
use Rattle.job_format.specs.Reader.{words_in, trailer_from, contents_by, misplaced, refusal, reading_by}
use Rattle.job_file.specs.Promise.{returned}
use Rattle.job_file.specs.Code.{checked, Laid}
use Rattle.job_file.specs.declared.reader.Reading.{Reading as Returned}
use Rattle.checks.proofs.CauseLaws.{few_stops}
use Rattle.checks.proofs.RefusalLaws.{numbered}
use Rattle.lists.proofs.Padded.{take-padded}
use Rattle.job_format.proofs.ByteLaws.{length-words}
use Rattle.job_format.proofs.JobLaws.{passed}
use Rattle.job_format.proofs.LayoutLaws.{layout_of_lem}
use Rattle.job_format.proofs.ReadLaws.{length_last}

pub layout_laid :
    (file trailer : List ℕ) → trailer ≡ drop (length file - trailer_length) file → trailer_length ≤ length file
    → (job : Job) → job ≡ (trailer_from trailer).job → cause₁ job.n ≡ false → misplaced (trailer_from trailer) (length file) ≡ false
    → Laid file trailer job
unfolding trailer_from
layout_laid file trailer last long job e f g =
    let fits : length file ≡ file_length (get_or trailer 8 0) (get_or trailer 9 0) = (layout_of_lem (trailer_from trailer) (length file) g).whole in
    let n : job.n ≡ get_or trailer 8 0 = ap (λ (j : Job). j.n) e in
    record { whole = length_last file trailer last long; stands = e; few = few_stops job.n f; inside = rw n (omega arith) }

-- the part of the file that the code takes for the starting order
abbrev order_part : ℕ → ℕ → List ℕ → List ℕ
order_part count len file = take (4 * count + len - 4 * count) (drop (4 * count) file)

module _ (file trailer : List ℕ) (job : Job) where
  abbrev t : Trailer
  t = trailer_from trailer

  abbrev held : Contents
  held = contents_by t file

  pub record Found (count : ℕ) (table : List ℕ) (len : ℕ) : Type 0 where
    pub laid : Laid file trailer job
    pub square : count ≡ area job.n
    pub numbers : table ≡ padded table_numbers (words_in count file)
    pub long : len ≡ get_or trailer 9 0

  module _ (count : ℕ) (table : List ℕ) (len : ℕ) (found : Found count table len) where
    abbrev order : List ℕ
    order = order_part count len file

    count_is : count ≡ area t.job.n
    count_is = found.square ∙ ap (λ (j : Job). area j.n) found.laid.stands

    table_is : table ≡ padded table_numbers (words_in (area t.job.n) file)
    table_is = found.numbers ∙ ap (λ (k : ℕ). padded table_numbers (words_in k file)) count_is

    numbers_is : take count table ≡ words_in (area t.job.n) file
    numbers_is =
        ap (take count) found.numbers
        ∙ ap (λ (k : ℕ). take k (padded table_numbers (words_in count file))) (sym (length-words count file))
        ∙ take-padded table_numbers (words_in count file)
        ∙ ap (λ (k : ℕ). words_in k file) count_is

    order_is : order ≡ take (get_or trailer 9 0) (drop (start_place_of t.job.n) file)
    order_is =
        let part : 4 * count + len - 4 * count ≡ get_or trailer 9 0 = omega (arith, found.long) in
        rw (part, count_is)

    held_is : contents_of job (take count table) order ≡ held
    unfolding contents_of contents_by trailer_from
    held_is = λ i. record { job = found.laid.stands i; table = numbers_is i; start = order_is i }

    length_is : len ≡ length order
    length_is =
        let place : ℕ = start_place_of t.job.n in
        let inside : place + get_or trailer 9 0 ≤ length file = rw (← found.laid.stands) found.laid.inside in
        let left : get_or trailer 9 0 ≤ length (drop place file) = omega (arith, length-drop place file) in
        found.long ∙ sym (ap length order_is ∙ length-take-le (get_or trailer 9 0) (drop place file) left)

    cause_is : job_cause job (take count table) order 0 ≡ job_cause held.job held.table held.start 0
    unfolding contents_of
    cause_is = ap (λ (c : Contents). job_cause c.job c.table c.start 0) held_is

    pub accept_refuses :
        (e : Refusal) → number e ≡ job_cause job (take count table) order 0 → returned (refusal (number e)) ≡ returned (checked held)
    unfolding checked reading_by
    accept_refuses e f = ap returned (go (number e) (numbered e) ∙ ap (λ (m : ℕ). reading_by m held) (f ∙ cause_is))
      where
        go : (m : ℕ) → m ≢ 0 → refusal m ≡ reading_by m held
        go zero h = absurd (h refl)
        go (suc m) h = refl

    module _ (none : 0 ≡ job_cause job (take count table) order 0) where
      pub found_short : length order ≤ order_places
      unfolding contents_by trailer_from
      found_short = rw order_is (passed held (sym (none ∙ cause_is))).short

      pub accept_returns :
          (start : List ℕ) → start ≡ padded order_places order
          → ◌≡◌ {A = Returned} (record { number = 0; job = job; table = table; start = start; stops = len }) (returned (checked held))
      unfolding checked reading_by returned contents_by trailer_from
      accept_returns start s = rw (← none ∙ cause_is) (cc (found.laid.stands, table_is, order_is, length_is, s))
