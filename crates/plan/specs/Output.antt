-- What the program `plan` prints for every input: document 01, "Job file and program".
use Rattle.std.specs.Prelude.{◌≡◌, Bool, true, false, List, [], ℕ, zero, suc, ◌*◌, ltb, length, replicate}
use Rattle.sizes.specs.Sizes.{record_words, longest, no_budget}
use Rattle.answer.specs.Call.{Call, call_of}
use Rattle.answer.specs.Answer.{answer}
use Rattle.answer.specs.Ends.{Finishes}
use Rattle.answer.specs.Demands.{Cheapest}
use Rattle.job_format.specs.Contents.{Contents}
use Rattle.job_format.specs.Reader.{read}
use Rattle.report_format.specs.Printed.{refused_line, seven_lines, printed}

-- the program's pool: its records, and its words
abbrev pub pool_records : ℕ
pool_records = 2_000

abbrev pub pool_length : ℕ
pool_length = pool_records * record_words

-- the call for what a file holds; what stands in the pool before a run plays no part, its budget is one that no run reaches (document 02, A.3), and it
-- has no pairs (A.6)
unfoldable pub call_by : Contents → Call
call_by c = call_of c.job c.table c.start [] no_budget (replicate pool_length 0)

-- what is printed for what the reader answers: a refusal, or the report of the job
unfoldable pub answered : ℕ → Contents → List ℕ
answered zero c = printed c.job.n (answer (call_by c)).report
answered (suc k) c = refused_line (suc k)

-- an input that is longer than every job is refused with 9, whatever its trailer has
abbrev pub output_by : Bool → List ℕ → List ℕ
output_by true input = refused_line 9
output_by false input = answered (read input).number (read input).contents

unfoldable pub output : List ℕ → List ℕ
output input = output_by (ltb longest (length input)) input

-- Document 02, A.3: whatever the input, the program prints a refusal's line, or the seven lines of a cheapest order; never the text of a stopped run.
pub data Prints (input : List ℕ) : Type 0 where
  refusal : (number : ℕ) → output input ≡ refused_line number → Prints input
  plan :
      (c : Contents) → Finishes (answer (call_by c)).report → Cheapest (call_by c) (answer (call_by c)).report
      → output input ≡ seven_lines c.job.n (answer (call_by c)).report → Prints input

abbrev pub NeverStopped : Type 0
NeverStopped = (input : List ℕ) → Prints input
