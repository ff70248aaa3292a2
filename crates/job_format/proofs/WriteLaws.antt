-- What the writer does, test by test.
--   cause_refuses, buffer_refuses, file-written    what each test decides
--   Done, done        what holds where the writer answers 0
--   writes            what the writer does where the contents pass and the buffer is long enough
use mathlib.Core.Path.{◌≡◌, refl, sym, ◌∙◌}
use mathlib.Core.Bool.{Bool, true, false}
use mathlib.Core.List.{List}
use mathlib.Core.Logic.{◌⊎◌, inl, inr, ◌≢◌}
use Prim.Native.Nat.{ℕ, zero, suc, ◌≤◌, ◌<◌}
use native.Mathlib.Omega.{arith}
use lib.Dec.{ltb}
use lib.ListN.{length}
use borrow.Author.Tests.{ltb-false, lt-ltb, le-ltb}
use Rattle.lists.proofs.Tests.{compared}
use Rattle.answer.specs.Checks.{or_later, job_cause}
use Rattle.answer.proofs.JobCause.{job-first}
use Rattle.job_format.specs.Bytes.{overwrite}
use Rattle.job_format.specs.Contents.{Contents, bytes_of}
use Rattle.job_format.specs.Writer.{Writing, write_cause, writing_by, write}
use Rattle.job_format.specs.Demands.{Passes}
use Rattle.job_format.specs.Cases

module _ (c : Contents) (buffer : List ℕ) where
  by_number : (k : ℕ) → write_cause c buffer ≡ k → write c buffer ≡ writing_by k c buffer
  unfolding write
  by_number k e = rw e

  pub cause_refuses :
      (k : ℕ) → k ≡ job_cause c.job c.table c.start 0 → k ≢ 0
      → ◌≡◌ {A = Writing} (record { number = k; length = 0; buffer = buffer }) (write c buffer)
  unfolding write_cause writing_by
  cause_refuses zero e h = absurd (h refl)
  cause_refuses (suc k) e h = sym (by_number (suc k) (sym ((job-first c.job c.table c.start).own (λ z. h (e ∙ z)) _) ∙ sym e))

  module _ (e : Passes c) where
    later : write_cause c buffer ≡ or_later (ltb (length buffer) (length (bytes_of c))) 10 0
    unfolding write_cause
    later = (job-first c.job c.table c.start).none e _

    pub buffer_refuses :
        length buffer < length (bytes_of c) → ◌≡◌ {A = Writing} (record { number = 10; length = 0; buffer = buffer }) (write c buffer)
    unfolding writing_by
    buffer_refuses h = sym (by_number 10 (later ∙ rw (lt-ltb _ _ h)))

    pub file-written :
        (len : ℕ) (left : List ℕ) → len ≡ length (bytes_of c) → len ≤ length buffer → left ≡ overwrite (bytes_of c) buffer
        → ◌≡◌ {A = Writing} (record { number = 0; length = len; buffer = left }) (write c buffer)
    unfolding writing_by
    file-written len left l h same = rw (l, same) (sym (by_number 0 (later ∙ rw (le-ltb (length buffer) (length (bytes_of c)) (omega arith)))))

pub record Done (c : Contents) (buffer : List ℕ) : Type 0 where
  pub passes : Passes c
  pub room : length (bytes_of c) ≤ length buffer

pub number_by : (k : ℕ) (c : Contents) (buffer : List ℕ) → (writing_by k c buffer).number ≡ k
unfolding writing_by
number_by zero c buffer = refl
number_by (suc k) c buffer = refl

fits : (b : Bool) → or_later b 10 0 ≡ 0 → b ≡ false
fits true e = absurd (omega arith)
fits false e = refl

pub done : (c : Contents) (buffer : List ℕ) → (write c buffer).number ≡ 0 → Done c buffer
unfolding write write_cause
done c buffer e = go (compared (job_cause c.job c.table c.start 0) 0)
  where
    short : Bool
    short = ltb (length buffer) (length (bytes_of c))

    none : job_cause c.job c.table c.start (or_later short 10 0) ≡ 0
    none = sym (number_by _ c buffer) ∙ e

    go : Passes c ⊎ (job_cause c.job c.table c.start 0 ≢ 0) → Done c buffer
    go (inl z) = record {
      passes = z;
      room = ltb-false (length buffer) (length (bytes_of c)) (fits short (sym ((job-first c.job c.table c.start).none z (or_later short 10 0)) ∙ none));
    }
    go (inr h) = absurd (h ((job-first c.job c.table c.start).own h (or_later short 10 0) ∙ none))

pub writes :
    (c : Contents) (buffer : List ℕ) → Done c buffer
    → write c buffer ≡ record { number = 0; length = length (bytes_of c); buffer = overwrite (bytes_of c) buffer }
writes c buffer d = sym (file-written c buffer d.passes _ _ refl d.room refl)
