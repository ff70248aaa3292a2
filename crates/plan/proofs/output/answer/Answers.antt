-- `answer` meets its contract: a refusal by the reader, or the report of the job that it returned.
use mathlib.Core.Path.{◌≡◌, ap, ◌∙◌}
use Prim.Native.Nat.{ℕ, ◌+◌, ◌*◌}
use native.Mathlib.Omega.{arith}
use Rattle.job_format.specs.Contents.{area}
use Rattle.job_format.proofs.LayoutLaws.{area_small}
use Rattle.printing.specs.Promise.{text_of}
use Rattle.job_file.proofs.Returns.{Accepted, accepted}
use Rattle.plan.proofs.OutputLaws.{file-refused, job-printed}
use Rattle.plan.proofs.output.answer.Goals as goal
use Rattle.plan.proofs.output.answer.Goals.{Else-reading-ne0}

-- what holds of an accepted file
found : (c : Else-reading-ne0) → Accepted c.args.file.now c.read-reading.result
found c = accepted _ _ c.read-reading.ensures c.if-reading-ne0.false

pub returns-then-reading-ne0 : goal.returns-then-reading-ne0
returns-then-reading-ne0 c = c.refusal_text.ensures ∙ ap text_of (file-refused _ _ c.read-reading.ensures c.if-reading-ne0.true)

pub overflow_mul-table : goal.overflow_mul-table
overflow_mul-table c =
    let acc = found (goal.at.overflow_mul-table c).Else-reading-ne0 in
    omega (arith, acc.few, area_small c.read-reading.result.job.n acc.few)

pub shared_ref_as_front-table : goal.shared_ref_as_front-table
shared_ref_as_front-table c = omega (arith, (found (goal.at.shared_ref_as_front-table c).Else-reading-ne0).table)

pub shared_ref_as_front-start : goal.shared_ref_as_front-start
shared_ref_as_front-start c = omega (arith, (found (goal.at.shared_ref_as_front-start c).Else-reading-ne0).start)

pub returns : goal.returns
returns c =
    let n : ℕ = c.read-reading.result.job.n in
    let square : (n + 1) * (n + 1) ≡ area n = omega arith in
    c.report_text.ensures ∙ ap text_of (job-printed _ _ (found (goal.at.returns c).Else-reading-ne0) _ square _ _ c.planned.ensures.1)
