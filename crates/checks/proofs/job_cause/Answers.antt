-- `job_cause` meets its contract: a cause of the table is handed on; without one, cause 4 or 5 does, or none.
use mathlib.Core.Path.{sym, ◌∙◌}
use native.Mathlib.Omega.{arith}
use Rattle.answer.specs.Checks.{table_cause, job_cause}
use Rattle.answer.proofs.Passes.{table_passed}
use Rattle.checks.proofs.RefusalLaws.{numbered, passed_on}
use Rattle.checks.proofs.job_cause.Goals as goal

pub returns-in_err-table_cause : goal.returns-in_err-table_cause
unfolding table_cause job_cause
returns-in_err-table_cause c = passed_on _ _ c.from_residual.ensures.1 ∙ grind (arith, numbered)

pub returns-then-unknown_choice : goal.returns-then-unknown_choice
unfolding table_cause job_cause
returns-then-unknown_choice c = grind arith

pub wrong_start-requires : goal.wrong_start-requires
wrong_start-requires c =
    (table_passed _ _ 0 (sym c.in_ok-table_cause.ensures)).0.priced.few

pub returns-then-wrong_start : goal.returns-then-wrong_start
unfolding table_cause job_cause
returns-then-wrong_start c = grind arith

pub returns : goal.returns
unfolding table_cause job_cause
returns c = grind arith
