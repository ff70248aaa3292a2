-- `first_cause` meets its contract: a cause of the table is handed on; without one, cause 4 or 11 does, or none.
use mathlib.Core.Path.{sym, ◌∙◌}
use native.Mathlib.Omega.{arith}
use Rattle.answer.specs.Checks.{table_cause, first_cause}
use Rattle.answer.proofs.Passes.{table_passed}
use Rattle.checks.proofs.RefusalLaws.{numbered, passed_on}
use Rattle.checks.proofs.first_cause.Goals as goal

pub returns-in_err-table_cause : goal.returns-in_err-table_cause
unfolding table_cause first_cause
returns-in_err-table_cause c = passed_on _ _ c.from_residual.ensures.1 ∙ grind (arith, numbered)

pub returns-then-unknown_bound : goal.returns-then-unknown_bound
unfolding table_cause first_cause
returns-then-unknown_bound c = grind arith

pub wrong_pairs-requires : goal.wrong_pairs-requires
wrong_pairs-requires c =
    (table_passed _ _ 0 (sym c.in_ok-table_cause.ensures)).0.priced.few

pub returns-then-wrong_pairs : goal.returns-then-wrong_pairs
unfolding table_cause first_cause
returns-then-wrong_pairs c = grind arith

pub returns : goal.returns
unfolding table_cause first_cause
returns c = grind arith
