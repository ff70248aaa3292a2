-- `checked` meets its contract: a cause of the job is handed on, or one of the pairs; without one the pool is looked at. The budget plays no part.
use mathlib.Core.Path.{◌≡◌, sym, ◌∙◌}
use native.Mathlib.Omega.{arith}
use Rattle.records.specs.Records.{records_in}
use Rattle.answer.specs.Call.{call_of}
use Rattle.answer.specs.Checks.{cause₆, table_cause, job_cause, pair_cause, pool_cause, cause}
use Rattle.answer.proofs.Passes.{job_passed, no_cause_5}
use Rattle.checks.proofs.RefusalLaws.{numbered, passed_on}
use Rattle.planner.proofs.checked.Goals as goal

pub returns-in_err-job_cause : goal.returns-in_err-job_cause
unfolding table_cause job_cause cause call_of
returns-in_err-job_cause c budget = passed_on _ _ c.from_residual.ensures.1 ∙ grind (arith, numbered)

pub pair_cause-requires : goal.pair_cause-requires
pair_cause-requires c =
    let a = c.args in
    let none : job_cause a.job a.table.now a.start.now 0 ≡ 0 = sym c.in_ok-job_cause.ensures in
    ((job_passed a.job a.table.now a.start.now 0 none).0.legs.priced.few, no_cause_5 a.job a.table.now a.start.now none)

pub returns-in_err-pair_cause : goal.returns-in_err-pair_cause
unfolding table_cause job_cause pair_cause cause call_of
returns-in_err-pair_cause c budget = passed_on _ _ c.from_residual-in_err-pair_cause.ensures.1 ∙ grind (arith, numbered)

pub returns-then-pool-lt-RECORD_WORDS : goal.returns-then-pool-lt-RECORD_WORDS
unfolding table_cause job_cause pair_cause pool_cause cause₆ records_in cause call_of
returns-then-pool-lt-RECORD_WORDS c budget = grind arith

pub returns : goal.returns
unfolding table_cause job_cause pair_cause pool_cause cause₆ records_in cause call_of
returns c budget = grind arith
