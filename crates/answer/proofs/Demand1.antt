-- Demand 1 of the written run: every call ends, with an order, a numbered refusal or a spent budget, and what a refusal gives and leaves.
use mathlib.Core.Path.{◌≡◌, refl, sym, ◌∙◌, ap, subst}
use mathlib.Core.Logic.{◌⊎◌, inl, inr}
use native.Mathlib.Omega.{arith}
use Rattle.search.specs.Problem.{State}
use Rattle.search.specs.Run.{Outcome}
use Rattle.orders.specs.Orders.{Node}
use Rattle.answer.specs.Call.{Call, Answer}
use Rattle.answer.specs.declared.Report.{Report}
use Rattle.answer.specs.Answer.{StateOf, report_with, words_of, ending, answer}
use Rattle.answer.specs.Ends.{EndsAt, FullAt, RefusedAt, Ended, planned, halted, filled, refused}
use Rattle.answer.specs.Demands.{written, EveryCallIsAnswered, EveryCallEnds, OneAnswer, RefusalsFixed}
use Rattle.answer.proofs.Instance.{finished_state, stopped_state, full_state}
use Rattle.answer.proofs.Ending.{Ran, Came, checked, spent, overran, ended, call_came, cause_small}
use Rattle.answer.proofs.Ends.{finish_holds}
use Rattle.answer.proofs.Demand3.{answer-cheapest}

pub call-answered : EveryCallIsAnswered written
call-answered c = (answer c, refl)

pub one_answer : OneAnswer written
one_answer c a b p q = p ∙ sym q

-- the answer to a run that ended at such a state
ends_at :
    (c : Call) {how : State Node → Outcome Node} (f : Ran c how) {Q : Call → State Node → Type 0} {report : Call → State Node → Report}
    → StateOf c f.state → Q c f.state → ending c (how f.state) ≡ record { report = report c f.state; pool = words_of c f.state }
    → EndsAt c (answer c) Q report
ends_at c f steps there same = record {
  comes = record { passed = f.passed; state = f.state; steps = steps; there = there };
  reported = ap (λ (a : Answer). a.report) (f.answered ∙ same);
  pool_holds = ap (λ (a : Answer). a.pool) (f.answered ∙ same);
}

call_ended : (c : Call) → Ended c (answer c)
unfolding ending report_with
call_ended c = go (call_came c)
  where
    go : Came c → Ended c (answer c)
    go (checked k e q) =
        refused
        (record {
          some_cause = omega arith;
          of_seven = cause_small c;
          reported = ap (λ (a : Answer). a.report) q;
          pool_stays = ap (λ (a : Answer). a.pool) q;
        })
    go (spent f) = let (steps, there) = stopped_state c f.state f.ran in halted (ends_at c f steps there refl)
    go (overran f) = let (steps, there) = full_state c f.state f.ran in filled (ends_at c f steps there refl)
    go (ended f) =
        let (steps, end) = finished_state c f.state f.ran in
        planned (ends_at c f steps (finish_holds c f.state f.passed steps end) refl)
        (answer-cheapest c
        (ap (λ (a : Answer). a.report.number) f.answered, ap (λ (a : Answer). a.report.mark) f.answered)).has_order.is_allowed

pub call_ends : EveryCallEnds written
call_ends c a e = subst (Ended c) (sym e) (call_ended c)

pub refusals_fixed : RefusalsFixed written
unfolding report_with
refusals_fixed c a e h = go (call_ends c a e)
  where
    go : Ended c a → RefusedAt c a ⊎ FullAt c a
    go (planned f o) = absurd (h (ap (λ (r : Report). r.number) f.reported))
    go (halted f) = absurd (h (ap (λ (r : Report). r.number) f.reported))
    go (filled f) = inr f
    go (refused r) = inl r
