-- `read` meets its contract: the number of a refusal over zeros is the refusal's reading.
use mathlib.Core.Path.{ap, ◌∙◌}
use Prim.Native.Nat.{ℕ}
use Rattle.lists.specs.Lists.{padded}
use Rattle.answer.specs.Refusals.{number}
use Rattle.job_format.specs.Reader.{refusal}
use Rattle.job_file.specs.Promise.{returned}
use Rattle.job_file.specs.declared.reader.Reading.{Reading as Returned}
use Rattle.job_file.proofs.reader.read.Goals as goal

-- a reading with another number
renumbered : ℕ → Returned → Returned
renumbered k r = record { number = k; job = r.job; table = r.table; start = r.start; stops = r.stops }

pub returns-in-Err : goal.returns-in-Err
unfolding returned refusal renumbered
returns-in-Err c = rw c.from.ensures (ap (renumbered (number c.in-Err.cause)) c.in-Err.ensures.1 ∙ c.in-Err.ensures.0)
