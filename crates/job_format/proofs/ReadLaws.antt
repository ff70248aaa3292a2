-- What the reader answers, test by test.
--   table_fits    check 2 finds nothing in what is read
--   short_file, wrong_stops, wrong_layout, right_layout    what each test decides
use mathlib.Core.Path.{◌≡◌, ap}
use mathlib.Core.Bool.{true, false}
use mathlib.Core.List.{List}
use Prim.Native.Nat.{ℕ, ◌-◌, ◌≤◌, ◌<◌}
use native.Mathlib.Omega.{arith}
use lib.ListN.{length, drop, length-drop}
use borrow.Author.Tests.{lt-ltb, le-ltb, eq-eqb}
use Rattle.answer.specs.Checks.{cause₁, cause₂, cause₃, cause₄, cause₅, or_later, table_cause, job_cause}
use Rattle.job_format.specs.Contents.{Contents, Trailer, trailer_length, area}
use Rattle.job_format.specs.Reader.{words_in, trailer_from, trailer_in, contents_by, contents_in, misplaced, file_cause, refusal, reading_by, read}
use Rattle.job_format.proofs.ByteLaws.{length-words}

pub table_fits : (t : Trailer) (file : List ℕ) → cause₂ (contents_by t file).job.n (contents_by t file).table ≡ false
unfolding cause₂ contents_by
table_fits t file = rw (eq-eqb (length (words_in (area t.job.n) file)) (area t.job.n) (length-words (area t.job.n) file))

pub short_file : (file : List ℕ) → length file < trailer_length → refusal 8 ≡ read file
unfolding read file_cause reading_by
short_file file h = rw (lt-ltb (length file) trailer_length h)

module _ (file trailer : List ℕ) (last : trailer ≡ drop (length file - trailer_length) file) (long : trailer_length ≤ length file) where
  abbrev found : Contents
  found = contents_by (trailer_from trailer) file

  -- the reader's answer where the file is not short
  by_cause :
      (number : ℕ)
      → or_later (cause₁ found.job.n) 1
      (or_later (misplaced (trailer_from trailer) (length file)) 9
      (or_later (cause₃ found.job.n found.table) 3
      (or_later (cause₄ found.job) 4
      (or_later (cause₅ found.job.n found.start) 5 0))))
      ≡ number
      → reading_by number found ≡ read file
  unfolding read file_cause contents_in trailer_in
  by_cause number e = rw (← e, last, le-ltb (length file) trailer_length long)

  pub wrong_stops : cause₁ found.job.n ≡ true → refusal 1 ≡ read file
  unfolding reading_by
  wrong_stops e = by_cause 1 (rw e)

  pub wrong_layout : cause₁ found.job.n ≡ false → misplaced (trailer_from trailer) (length file) ≡ true → refusal 9 ≡ read file
  unfolding reading_by
  wrong_layout e f = by_cause 9 (rw (e, f))

  pub right_layout :
      cause₁ found.job.n ≡ false → misplaced (trailer_from trailer) (length file) ≡ false
      → reading_by (job_cause found.job found.table found.start 0) found ≡ read file
  unfolding table_cause job_cause
  right_layout e f = by_cause _ (rw (e, f, table_fits (trailer_from trailer) file))

  pub same-stops : (n : ℕ) → n ≡ (trailer_from trailer).job.n → cause₁ n ≡ cause₁ found.job.n
  unfolding contents_by
  same-stops n e = ap cause₁ e

  pub length_last : length trailer ≡ trailer_length
  length_last = omega (arith, ap length last, length-drop (length file - trailer_length) file)
