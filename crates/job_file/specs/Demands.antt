-- What is proved of what `read` returns and what `write` returns and leaves (proofs/Returns): the letter's demands 1 and 2 of files, and document
-- 01's "Causes and numbers". That both return is part of their contracts. `Rewritten` is the promise of `rewriting::rewrite`, which reads and
-- writes back: of a slice of bytes, nothing is assumed there.
--   ReadsOrRefuses, WritesOrRefuses    with which numbers `read` and `write` answer
--   ReadsBack      what `write` wrote, `read` returns as the same contents
--   Rewrites       what `read` accepted, `write` writes back as the same bytes, and says their length; what is behind them stays
--   NeverTwo       number 2 does not come from the reader
--   Leaves         a refusal by the writer has length 0 and leaves the buffer as it was
use Rattle.std.specs.Prelude.{◌≡◌, List, ◌≢◌, ℕ, ◌≤◌, ◌<◌, length, take}
use Rattle.lists.specs.Lists.{In}
use Rattle.job_format.specs.Bytes.{overwrite, AllBytes}
use Rattle.job_format.specs.Contents.{Contents}
use Rattle.job_format.specs.Reader.{read}
use Rattle.job_format.specs.Demands.{reader_numbers, writer_numbers}
use Rattle.job_file.specs.Promise.{returned, contents_from, Promised}
use Rattle.job_file.specs.declared.reader.Reading.{Reading as Returned}
use Rattle.job_file.specs.declared.writer.Written.{Written}

abbrev pub ReadsOrRefuses : Type 0
ReadsOrRefuses = (file : List ℕ) (r : Returned) → r ≡ returned (read file) → In r.number reader_numbers

abbrev pub WritesOrRefuses : Type 0
WritesOrRefuses = (c : Contents) (buffer left : List ℕ) (w : Written) → Promised c buffer w left → In w.number writer_numbers

-- `read` is given the first bytes of the buffer, as many as the length that `write` answered.
abbrev pub ReadsBack : Type 0
ReadsBack =
    (c : Contents) (buffer left : List ℕ) (w : Written) (r : Returned) → Promised c buffer w left → w.number ≡ 0
    → r ≡ returned (read (take w.length left)) → (r.number ≡ 0) × (contents_from r ≡ c)

-- the front of a buffer, `left`, is a file again
abbrev pub Back : List ℕ → List ℕ → Written → List ℕ → Type 0
Back file buffer w left = (w.number ≡ 0) × (w.length ≡ length file) × (left ≡ overwrite file buffer)

abbrev pub Rewrites : Type 0
Rewrites =
    (file buffer left : List ℕ) (r : Returned) (w : Written) → AllBytes file → r ≡ returned (read file) → r.number ≡ 0
    → Promised (contents_from r) buffer w left → length file ≤ length buffer → Back file buffer w left

abbrev pub NeverTwo : Type 0
NeverTwo = (file : List ℕ) (r : Returned) → r ≡ returned (read file) → r.number ≢ 2

-- a buffer is left as it was
abbrev pub Left : List ℕ → Written → List ℕ → Type 0
Left buffer w left = (w.length ≡ 0) × (left ≡ buffer)

abbrev pub Leaves : Type 0
Leaves = (c : Contents) (buffer left : List ℕ) (w : Written) → Promised c buffer w left → w.number ≢ 0 → Left buffer w left

-- a file is read and written back
pub record Rewritten (file buffer : List ℕ) (w : Written) (left : List ℕ) : Type 0 where
  pub accepted : (read file).number ≡ 0 → length file ≤ length buffer → Back file buffer w left
  pub short : (read file).number ≡ 0 → length buffer < length file → (w.number ≡ 10) × Left buffer w left
  pub refused : (read file).number ≢ 0 → (w.number ≡ (read file).number) × Left buffer w left
