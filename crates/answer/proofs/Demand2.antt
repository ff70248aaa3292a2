-- Demand 2 of the written run, and what document 01 adds: the counts balance, number 7, and number 0 with mark 0, come when and only when they should, and
-- `branched` counts the run's steps.
use mathlib.Core.Path.{◌≡◌, refl, sym, ◌∙◌, ap, subst}
use mathlib.Core.Logic.{inl, inr}
use Prim.Native.Nat.{◌+◌}
use Rattle.search.proofs.Plain.{tree, plan_of, cut_of, adds}
use Rattle.search.proofs.Counts.{counts_agree}
use Rattle.records.specs.Records.{records_in}
use Rattle.answer.specs.Call.{Call, Answer, refusal}
use Rattle.answer.specs.Answer.{problem_of, choices_of, given, report_with, ending, answer}
use Rattle.answer.specs.Ends.{Finishes, FinishTestHolds, NextDoesNotFit, Ends, ComesTo, made}
use Rattle.answer.specs.Demands.{written, RunIsWritten, CountsBalance, FullIff}
use Rattle.answer.specs.Document01.{StatesBalance, FinishedIff, BranchedAreSteps}
use Rattle.answer.proofs.Passes.{passes}
use Rattle.answer.proofs.Instance.{finished_state, stopped_state, full_state, state_reached}
use Rattle.answer.proofs.Ending.{Came, checked, spent, overran, ended, call_came, Finished, finishes_finished, Filled, number_7}
use Rattle.answer.proofs.Ends.{finish_holds, steps_branched, finished_answer, stopped_answer, full_answer}

pub run_is_written : RunIsWritten written
run_is_written c a e = e

pub states_balance : StatesBalance
states_balance c e s steps =
    (counts_agree (tree (problem_of c)) (plan_of (problem_of c) (choices_of c)) (cut_of (choices_of c)) (adds (problem_of c)) (records_in c.pool)
    (given c.start) (state_reached c (passes c e) steps)).all

abbrev Balances : Answer → Type 0
Balances a = a.report.generated ≡ a.report.branched + a.report.eliminated + a.report.active

pub counts_balance : CountsBalance written
unfolding refusal ending report_with
counts_balance c a e = subst Balances (sym e) (go (call_came c))
  where
    go : Came c → Balances (answer c)
    go (checked k e q) = subst Balances (sym q) refl
    go (spent f) = subst Balances (sym f.answered) (states_balance c f.passed f.state (stopped_state c f.state f.ran).0)
    go (overran f) = subst Balances (sym f.answered) (states_balance c f.passed f.state (full_state c f.state f.ran).0)
    go (ended f) = subst Balances (sym f.answered) (states_balance c f.passed f.state (finished_state c f.state f.ran).0)

-- the number of an answer that is the call's
same_number : (c : Call) {a x : Answer} → a ≡ answer c → answer c ≡ x → a.report.number ≡ x.report.number
same_number c e q = ap (λ (y : Answer). y.report.number) (e ∙ q)

pub full_iff : FullIff written
unfolding ending report_with
full_iff c a e = (only_then, λ h. same_number c e (full_answer c h))
  where
    only_then : a.report.number ≡ 7 → ComesTo c NextDoesNotFit
    only_then h =
        let f : Filled c = number_7 c (sym (ap (λ (y : Answer). y.report.number) e) ∙ h) in
        let (steps, over) = full_state c f.state f.ran in
        record { passed = f.passed; state = f.state; steps = steps; there = over }

pub finished_iff : FinishedIff written
unfolding ending report_with
finished_iff c a e =
    (only_then, λ h. (same_number c e (finished_answer c h), ap (λ (y : Answer). y.report.mark) (e ∙ finished_answer c h)))
  where
    only_then : Finishes a.report → ComesTo c FinishTestHolds
    only_then h =
        let f : Finished c = finishes_finished c (subst (λ (y : Answer). Finishes y.report) e h) in
        let (steps, end) = finished_state c f.state f.ran in
        record { passed = f.passed; state = f.state; steps = steps; there = finish_holds c f.state f.passed steps end }

pub branched_are_steps : BranchedAreSteps written
unfolding ending report_with
branched_are_steps c a e end = go end.there
  where
    shown : {x : Answer} → answer c ≡ x → a.report.branched ≡ x.report.branched
    shown q = ap (λ (y : Answer). y.report.branched) (e ∙ q)

    go : Ends c end.state → a.report.branched ≡ made end.steps
    go (inl h) =
        shown (finished_answer c (record { passed = end.passed; state = end.state; steps = end.steps; there = h }))
        ∙ steps_branched c end.steps
    go (inr (inl h)) =
        shown (stopped_answer c (record { passed = end.passed; state = end.state; steps = end.steps; there = h }))
        ∙ steps_branched c end.steps
    go (inr (inr h)) =
        shown (full_answer c (record { passed = end.passed; state = end.state; steps = end.steps; there = h }))
        ∙ steps_branched c end.steps
