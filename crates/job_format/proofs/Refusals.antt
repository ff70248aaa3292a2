-- With which numbers the reader and the writer answer, and what holds of every refusal by the reader: specs/Demands says what is proved.
use mathlib.Core.Path.{◌≡◌, refl, sym, ◌∙◌}
use mathlib.Core.Bool.{Bool, true, false}
use mathlib.Core.List.{List}
use mathlib.Core.Logic.{◌≢◌}
use Prim.Native.Nat.{ℕ, zero, suc}
use native.Mathlib.Omega.{arith}
use lib.Dec.{T, ltb, eqb, eqb→eq}
use lib.ListN.{length}
use Rattle.lists.specs.Lists.{In, any}
use Rattle.lists.proofs.Members.{any_in}
use Rattle.answer.specs.Checks.{cause₁, cause₂, cause₃, cause₄, cause₅, or_later, table_cause, job_cause}
use Rattle.job_format.specs.Contents.{Contents, trailer_length, bytes_of}
use Rattle.job_format.specs.Reader.{trailer_in, contents_in, misplaced, file_cause, refusal, reading_by, read}
use Rattle.job_format.specs.Writer.{write_cause, write}
use Rattle.job_format.specs.Demands.{reader_numbers, ReadsOrRefuses, writer_numbers, WritesOrRefuses, TableSquare, NeverTwo, Zeros}
use Rattle.job_format.proofs.ReadLaws.{table_fits}
use Rattle.job_format.proofs.Accepted.{number_by}
use Rattle.job_format.proofs.WriteLaws as writer

-- of a number that is written out, a test finds whether it is one of some
listed : (k : ℕ) (xs : List ℕ) → T (any (eqb k) xs) → In k xs
listed k xs h = let (a, m, t) = any_in (eqb k) xs h in rw (eqb→eq k a t) m

-- where a cause's number and the later one are among some, the first that applies is
one_of : (b : Bool) (number later : ℕ) (xs : List ℕ) → In number xs → In later xs → In (or_later b number later) xs
one_of true number later xs h k = h
one_of false number later xs h k = k

pub reads_or_refuses : ReadsOrRefuses
unfolding read file_cause
reads_or_refuses file =
    let c : Contents = contents_in file in
    let xs : List ℕ = reader_numbers in
    rw (number_by (file_cause file) c)
    (one_of (ltb (length file) trailer_length) 8 _ xs (listed 8 xs tt)
    (one_of (cause₁ c.job.n) 1 _ xs (listed 1 xs tt)
    (one_of (misplaced (trailer_in file) (length file)) 9 _ xs (listed 9 xs tt)
    (one_of (cause₃ c.job.n c.table) 3 _ xs (listed 3 xs tt)
    (one_of (cause₄ c.job) 4 _ xs (listed 4 xs tt)
    (one_of (cause₅ c.job.n c.start) 5 0 xs (listed 5 xs tt) (listed 0 xs tt)))))))

pub writes_or_refuses : WritesOrRefuses
unfolding write write_cause table_cause job_cause
writes_or_refuses c buffer =
    let xs : List ℕ = writer_numbers in
    rw (writer.number_by (write_cause c buffer) c buffer)
    (one_of (cause₁ c.job.n) 1 _ xs (listed 1 xs tt)
    (one_of (cause₂ c.job.n c.table) 2 _ xs (listed 2 xs tt)
    (one_of (cause₃ c.job.n c.table) 3 _ xs (listed 3 xs tt)
    (one_of (cause₄ c.job) 4 _ xs (listed 4 xs tt)
    (one_of (cause₅ c.job.n c.start) 5 _ xs (listed 5 xs tt)
    (one_of (ltb (length buffer) (length (bytes_of c))) 10 0 xs (listed 10 xs tt) (listed 0 xs tt)))))))

pub table_square : TableSquare
unfolding contents_in
table_square file = table_fits (trailer_in file) file

not_two : (b : Bool) (number later : ℕ) → number ≢ 2 → later ≢ 2 → or_later b number later ≢ 2
not_two true number later h k = h
not_two false number later h k = k

pub never_two : NeverTwo
unfolding read file_cause
never_two file e =
    let c : Contents = contents_in file in
    not_two (ltb (length file) trailer_length) 8 _ (λ z. omega arith)
    (not_two (cause₁ c.job.n) 1 _ (λ z. omega arith)
    (not_two (misplaced (trailer_in file) (length file)) 9 _ (λ z. omega arith)
    (not_two (cause₃ c.job.n c.table) 3 _ (λ z. omega arith)
    (not_two (cause₄ c.job) 4 _ (λ z. omega arith)
    (not_two (cause₅ c.job.n c.start) 5 0 (λ z. omega arith) (λ z. omega arith))))))
    (sym (number_by (file_cause file) (contents_in file)) ∙ e)

pub zeros : Zeros
unfolding read reading_by refusal
zeros file h = go (file_cause file) h
  where
    go : (k : ℕ) → (reading_by k (contents_in file)).number ≢ 0 → reading_by k (contents_in file) ≡ refusal (reading_by k (contents_in file)).number
    go zero h = absurd (h refl)
    go (suc k) h = refl
