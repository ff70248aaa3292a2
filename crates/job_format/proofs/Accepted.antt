-- The two halves of the round trip.
--   bytes_read        the bytes of contents are read as these contents
--   Accepted, accepted    what holds of a file that the reader accepts
--   accepted_passes, accepted_bytes    its contents pass the checks, and their bytes are the file's
use mathlib.Core.Path.{◌≡◌, refl, ap, sym, ◌∙◌}
use mathlib.Core.Bool.{false}
use mathlib.Core.List.{List, ◌++◌, append_assoc}
use Prim.Native.Nat.{ℕ, zero, suc, ◌+◌, ◌*◌, ◌-◌, ◌≤◌, ◌<◌}
use native.Mathlib.Omega.{arith}
use lib.Dec.{ltb, nltb→le}
use lib.ListN.{length, take, drop, length-append, take-append-drop, length-drop}
use lib.Seq.{take_at, drop_at, take-add, length-take-le}
use Rattle.lists.specs.Lists.{each}
use Rattle.lists.proofs.Tests.{to_false}
use Rattle.answer.specs.Checks.{cause₁, table_cause, job_cause}
use Rattle.answer.proofs.Passes.{none_first}
use Rattle.job_format.specs.Bytes.{word, AllBytes}
use Rattle.job_format.specs.Contents.{Contents, Trailer, trailer_length, area, start_place_of, trailer_of, trailer_bytes, bytes_of}
use Rattle.job_format.specs.Reader.{words_in, trailer_from, trailer_in, contents_by, contents_in, misplaced, file_cause, refusal, reading_by, read}
use Rattle.job_format.specs.Demands.{Passes}
use Rattle.job_format.proofs.ByteLaws.{length_each_word}
use Rattle.job_format.proofs.JobLaws.{Passed, passed, length-trailer, length-file, file_short}
use Rattle.job_format.proofs.LayoutLaws.{area_small, Layout, layout_of_lem, of_layout}
use Rattle.job_format.proofs.ReadLaws.{table_fits, right_layout}
use Rattle.job_format.proofs.FileLaws.{rest_bytes, words_of, of_words, trailer_of_lem, of_trailer}

-- ---- the bytes of contents

module _ (c : Contents) (passes : Passes c) where
  p : Passed c
  p = passed c passes

  abbrev front : List ℕ
  front = each word c.table ++ c.start

  abbrev end : List ℕ
  end = trailer_bytes (trailer_of c)

  length_table : length (each word c.table) ≡ start_place_of c.job.n
  length_table = length_each_word c.table ∙ ap (λ (k : ℕ). 4 * k) p.square

  small : start_place_of c.job.n < 4_294_967_296
  small = omega (arith, area_small c.job.n p.few)

  last : end ≡ drop (length (bytes_of c) - trailer_length) (bytes_of c)
  unfolding bytes_of
  last =
      let whole : length front ≡ length (front ++ end) - trailer_length = omega (arith, length-append front end, length-trailer (trailer_of c)) in
      sym (drop_at front end (length (front ++ end) - trailer_length) whole)

  trailer-read : trailer_from end ≡ trailer_of c
  unfolding trailer_of
  trailer-read = trailer_of_lem (trailer_of c) (omega arith) small

  table_read : words_in (area c.job.n) (bytes_of c) ≡ c.table
  unfolding bytes_of
  table_read =
      rw (← p.square, append_assoc (each word c.table) c.start end)
      (words_of c.table (c.start ++ end) (λ x m. omega (arith, p.cheap x m)))

  start-read : take (length c.start) (drop (start_place_of c.job.n) (bytes_of c)) ≡ c.start
  unfolding bytes_of
  start-read =
      rw (append_assoc (each word c.table) c.start end, drop_at (each word c.table) (c.start ++ end) (start_place_of c.job.n) length_table)
      (take_at c.start end (length c.start) refl)

  contents-read : contents_by (trailer_from end) (bytes_of c) ≡ c
  unfolding contents_by trailer_of
  contents-read = rw trailer-read (λ i. record { job = c.job; table = table_read i; start = start-read i })

  fits : misplaced (trailer_from end) (length (bytes_of c)) ≡ false
  unfolding trailer_of
  fits = rw trailer-read
      (of_layout (trailer_of c) (length (bytes_of c)) (record { table = refl; start = refl; whole = length-file c p.square; short = file_short c p }))

  few : cause₁ c.job.n ≡ false
  unfolding table_cause job_cause
  few = to_false (cause₁ c.job.n) (none_first (cause₁ c.job.n) 0 _ passes).0

  pub bytes_read : read (bytes_of c) ≡ record { number = 0; contents = c }
  unfolding reading_by
  bytes_read =
      sym (right_layout (bytes_of c) end last (omega (arith, length-file c p.square)) (rw contents-read few) fits)
      ∙ rw (contents-read, passes)

-- ---- a file that the reader accepts

record Accepted (file : List ℕ) : Type 0 where
  pub long : trailer_length ≤ length file
  pub layout : Layout (trailer_in file) (length file)
  pub passes : Passes (contents_in file)
  pub same : read file ≡ record { number = 0; contents = contents_in file }

pub number_by : (k : ℕ) (c : Contents) → (reading_by k c).number ≡ k
unfolding reading_by refusal
number_by zero c = refl
number_by (suc k) c = refl

no_cause : (file : List ℕ) → (read file).number ≡ 0 → file_cause file ≡ 0
unfolding read
no_cause file e = sym (number_by (file_cause file) (contents_in file)) ∙ e

contents-found : (file : List ℕ) → file_cause file ≡ 0 → read file ≡ record { number = 0; contents = contents_in file }
unfolding read reading_by
contents-found file e = rw e

accepted : (file : List ℕ) → (read file).number ≡ 0 → Accepted file
unfolding file_cause table_cause job_cause contents_in
accepted file e =
    let c : Contents = contents_in file in
    let (long, e₁) = none_first (ltb (length file) trailer_length) 7 _ (no_cause file e) in
    let (stops, e₂) = none_first (cause₁ c.job.n) 0 _ e₁ in
    let (places, e₃) = none_first (misplaced (trailer_in file) (length file)) 8 _ e₂ in
    record {
      long = nltb→le (length file) trailer_length long;
      layout = layout_of_lem (trailer_in file) (length file) (to_false (misplaced (trailer_in file) (length file)) places);
      passes = rw (to_false (cause₁ c.job.n) stops, table_fits (trailer_in file) file) e₃;
      same = contents-found file (no_cause file e);
    }

module _ (file : List ℕ) (bytes : AllBytes file) (a : Accepted file) where
  abbrev t : Trailer
  t = trailer_in file

  abbrev place : ℕ
  place = start_place_of t.job.n

  abbrev rest : List ℕ
  rest = drop (length file - trailer_length) file

  length-start : length (take t.start_length (drop place file)) ≡ t.start_length
  length-start = length-take-le t.start_length (drop place file) (omega (arith, a.layout.whole, length-drop place file))

  trailer-same : trailer_of (contents_in file) ≡ t
  unfolding trailer_of contents_in contents_by
  trailer-same = λ i. record {
    table_place = sym a.layout.table i;
    start_place = sym a.layout.start i;
    job = t.job;
    start_length = length-start i;
  }

  trailer_bytes_lem : trailer_bytes (trailer_of (contents_in file)) ≡ rest
  unfolding trailer_in
  trailer_bytes_lem =
      ap trailer_bytes trailer-same
      ∙ of_trailer rest (omega (arith, a.long, length-drop (length file - trailer_length) file)) (rest_bytes (length file - trailer_length) file bytes)

  parts : take place file ++ take t.start_length (drop place file) ++ rest ≡ file
  parts =
      let end : place + t.start_length ≡ length file - trailer_length = omega (arith, a.layout.whole) in
      rw (← take-add place t.start_length file, end) (take-append-drop (length file - trailer_length) file)

  contents_bytes : bytes_of (contents_in file) ≡ file
  unfolding bytes_of contents_in contents_by
  contents_bytes = rw (of_words (area t.job.n) file bytes (omega (arith, a.layout.whole)), trailer_bytes_lem) parts

pub accepted_passes : (file : List ℕ) → (read file).number ≡ 0 → Passes (read file).contents
accepted_passes file e = let a = accepted file e in rw a.same a.passes

pub accepted_bytes : (file : List ℕ) → AllBytes file → (read file).number ≡ 0 → bytes_of (read file).contents ≡ file
accepted_bytes file h e = let a = accepted file e in rw a.same (contents_bytes file h a)
