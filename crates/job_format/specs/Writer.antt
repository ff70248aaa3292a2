-- What the writer does for all contents and every buffer: document 01, "Job file and program" and "Causes and numbers".
use Rattle.std.specs.Prelude.{List, ℕ, zero, suc, ltb, length}
use Rattle.answer.specs.Checks.{or_later, job_cause}
use Rattle.job_format.specs.Bytes.{overwrite}
use Rattle.job_format.specs.Contents.{Contents, bytes_of}

-- the number, the length of the file, and the buffer's bytes afterwards
pub record Writing : Type 0 where
  pub number : ℕ
  pub length : ℕ
  pub buffer : List ℕ

-- causes 1 to 5, then 10: the buffer is shorter than the file
unfoldable pub write_cause : Contents → List ℕ → ℕ
write_cause c buffer = job_cause c.job c.table c.start (or_later (ltb (length buffer) (length (bytes_of c))) 10 0)

-- a refusal has length 0 and leaves the buffer as it was
unfoldable pub writing_by : ℕ → Contents → List ℕ → Writing
writing_by zero c buffer = record { number = 0; length = length (bytes_of c); buffer = overwrite (bytes_of c) buffer }
writing_by (suc k) c buffer = record { number = suc k; length = 0; buffer = buffer }

unfoldable pub write : Contents → List ℕ → Writing
write c buffer = writing_by (write_cause c buffer) c buffer
