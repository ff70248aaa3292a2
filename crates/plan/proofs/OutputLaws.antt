-- Laws behind what is printed for an input.
--   text_fits                     a text is within its array
--   file-refused, job-printed     a file that the reader refuses, and one whose job is planned
--   long_output, short_output     input longer than the longest job, and the others
--   never_stopped                 a refusal's line is printed, or a cheapest order; never a stopped run
use mathlib.Core.Path.{◌≡◌, refl, ap, ap₂, sym, ◌∙◌}
use mathlib.Core.Bool.{Bool, true, false}
use mathlib.Core.List.{List, []}
use mathlib.Core.Logic.{◌≢◌}
use Prim.Native.Nat.{ℕ, zero, suc, ◌≤◌, ◌<◌}
use lib.ListN.{length, take, replicate}
use lib.Dec.{ltb}
use borrow.Author.Tests.{lt-ltb, le-ltb}
use Rattle.lists.proofs.Padded.{padded-longer}
use Rattle.sizes.specs.Sizes.{longest, no_budget}
use Rattle.answer.specs.Call.{Answer, call_of}
use Rattle.answer.specs.declared.Report.{Report}
use Rattle.answer.specs.Answer.{answer}
use Rattle.answer.proofs.Demand3.{cheapest_of_all}
use Rattle.answer.proofs.Budget.{no_run_reaches}
use Rattle.job_format.specs.Contents.{Contents, contents_of, area}
use Rattle.job_format.specs.Reader.{read}
use Rattle.job_file.specs.Promise.{returned, contents_from}
use Rattle.job_file.specs.declared.reader.Reading.{Reading as Returned}
use Rattle.job_file.proofs.Returns.{Accepted}
use Rattle.planner.specs.Promise.{Promised}
use Rattle.report_format.specs.Printed.{refused_line, printed_by, printed}
use Rattle.printing.specs.Promise.{text_places, text_of}
use Rattle.printing.specs.declared.Text.{Text}
use Rattle.plan.specs.Output.{pool_length, call_by, answered, output_by, output, Prints, refusal, plan, NeverStopped}
use Rattle.plan.specs.Cases

pub text_fits : (t : Text) (xs : List ℕ) → t ≡ text_of xs → t.length ≤ length t.bytes
unfolding text_of
text_fits t xs e = rw e (padded-longer text_places xs)

refused_by : (k : ℕ) (c : Contents) → k ≢ 0 → refused_line k ≡ answered k c
unfolding answered
refused_by zero c h = absurd (h refl)
refused_by (suc k) c h = refl

pub file-refused :
    (file : List ℕ) (r : Returned) → r ≡ returned (read file) → r.number ≢ 0
    → refused_line r.number ≡ answered (read file).number (read file).contents
unfolding returned
file-refused file r e h =
    let same : r.number ≡ (read file).number = ap (λ (x : Returned). x.number) e in
    rw same (refused_by (read file).number (read file).contents (λ z. h (same ∙ z)))

-- the report of the call that the code makes of what the reader returned
pub job-printed :
    (file : List ℕ) (r : Returned) → Accepted file r → (count : ℕ) → count ≡ area r.job.n → (report : Report) (left : List ℕ)
    → Promised (call_of r.job (take count r.table) (take r.stops r.start) [] no_budget (replicate pool_length 0)) report left
    → printed r.job.n report ≡ answered (read file).number (read file).contents
unfolding answered call_by contents_from contents_of
job-printed file r acc count square report left promised =
    ap (λ (a : Answer). printed r.job.n a.report) (rw square at promised)
    ∙ ap (answered 0) acc.same
    ∙ ap (λ (k : ℕ). answered k (read file).contents) (sym acc.none)

pub long_output : (input : List ℕ) → longest < length input → refused_line 9 ≡ output input
unfolding output
long_output input h = rw (lt-ltb longest (length input) h)

pub short_output : (input : List ℕ) → length input ≤ longest → answered (read input).number (read input).contents ≡ output input
unfolding output
short_output input h = rw (le-ltb longest (length input) h)

-- by the length of the input, the number that the reader gives, and the number of the report
pub never_stopped : NeverStopped
unfolding call_by call_of printed printed_by answered output
never_stopped input = by_length (ltb longest (length input)) refl
  where
    c : Contents
    c = (read input).contents

    r : Report
    r = (answer (call_by c)).report

    unmarked : r.mark ≡ 0
    unmarked = (no_run_reaches (call_by c) (answer (call_by c)) refl).1 refl

    by_report : (number : ℕ) → r.number ≡ number → output input ≡ printed c.job.n r → Prints input
    by_report zero e same =
        plan c (e, unmarked) (cheapest_of_all (call_by c) (answer (call_by c)) refl (e, unmarked))
        (same ∙ ap₂ (λ (k m : ℕ). printed_by k m c.job.n r) e unmarked)
    by_report (suc k) e same = refusal (suc k) (same ∙ ap (λ (j : ℕ). printed_by j r.mark c.job.n r) e)

    by_reader : (number : ℕ) → (read input).number ≡ number → output input ≡ answered (read input).number c → Prints input
    by_reader zero e same = by_report r.number refl (same ∙ ap (λ (k : ℕ). answered k c) e)
    by_reader (suc k) e same = refusal (suc k) (same ∙ ap (λ (j : ℕ). answered j c) e)

    by_length : (long : Bool) → ltb longest (length input) ≡ long → Prints input
    by_length true e = refusal 9 (ap (λ (b : Bool). output_by b input) e)
    by_length false e = by_reader (read input).number refl (ap (λ (b : Bool). output_by b input) e)
