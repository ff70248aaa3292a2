-- Laws of a run's end.
--   finish_holds, holds_finish    a state that ends the run is one where a node is chosen of which the finish test holds, and the other way
--                                 round, whatever the pool: the active set is never empty
--   steps_branched                as many nodes were branched as steps were made
--   finished_answer, stopped_answer, full_answer    the answer where the run comes to such a state, where the budget is spent, and where
--                                 the next step does not fit
use mathlib.Core.Path.{◌≡◌, refl, sym, ◌∙◌, ap, subst}
use mathlib.Core.Bool.{Bool, true, false}
use mathlib.Core.List.Memᴰ
use mathlib.Core.List.{List}
use Prim.Native.Nat.{ℕ, ◌+◌}
use native.Mathlib.Omega.{arith}
use lib.Dec.{T, ltb}
use lib.ListN.{length}
use Rattle.lists.specs.Lists.{In}
use Rattle.lists.proofs.Tests.{to_true}
use Rattle.search.specs.Problem.{Problem, Choices, State, start}
use Rattle.search.specs.Selection.{Choice, nothing, chosen, select, finishes}
use Rattle.search.specs.Step.{step}
use Rattle.search.specs.Run.{finish, unless, if_allowed, go_unless, fitting, decide, next, held, finished, stopped, full, Steps, none, more}
use Rattle.search.proofs.Pick.{picked_none}
use Rattle.search.proofs.Budget.{stepped_adds}
use Rattle.search.proofs.Plain.{plan_of}
use Rattle.search.proofs.PlainSelection.{select_is_pick}
use Rattle.orders.specs.Orders.{Node}
use Rattle.records.specs.Records.{records_in}
use Rattle.answer.specs.Call.{Call}
use Rattle.answer.specs.Checks.{cause}
use Rattle.answer.specs.Answer.{problem_of, choices_of, StateOf, ending, respond, answer}
use Rattle.answer.specs.Ends.{made, FinishTestHolds, BudgetIsSpent, NextDoesNotFit, ComesTo}
use Rattle.answer.proofs.Passes.{passes}
use Rattle.answer.proofs.Instance.{selection_small, finish_outcome, halt_outcome, overflow_outcome}
use Rattle.answer.proofs.Active.{active_never_empty}

module _ (c : Call) (s : State Node) where
  -- of a state with an active node a node is chosen
  some_chosen : cause c ≡ 0 → StateOf c s → select (problem_of c) (choices_of c) s.active ≡ nothing → ⊥
  unfolding select
  some_chosen passed steps e =
      let (x, m) = active_never_empty c passed s steps in
      let plan = plan_of (problem_of c) (choices_of c) in
      let picks = select_is_pick (problem_of c) (choices_of c).bound (choices_of c).selection (selection_small c (passes c passed)) s.active in
      Memᴰ.not-nil (subst (λ (l : List Node). In x l) (picked_none plan.rank plan.late s.active (sym picks ∙ e)) m)

  pub finish_holds :
      cause c ≡ 0 → StateOf c s → next (problem_of c) (choices_of c) (records_in c.pool) s ≡ finish → FinishTestHolds c s
  unfolding next decide fitting
  finish_holds passed steps = at (select (problem_of c) (choices_of c) s.active) refl
    where
      test : (f a o : Bool) (s' : State Node) → unless f (if_allowed a (go_unless o s')) ≡ finish → T f
      test true a o s' e = tt
      test false false o s' e = absurd (let z : ◌≡◌ {A = ℕ} 0 1 = cc in omega arith)
      test false true true s' e = absurd (let z : ◌≡◌ {A = ℕ} 0 1 = cc in omega arith)
      test false true false s' e = absurd (let z : ◌≡◌ {A = ℕ} 0 1 = cc in omega arith)

      at :
          (ch : Choice Node) → select (problem_of c) (choices_of c) s.active ≡ ch
          → decide (problem_of c) (choices_of c) (records_in c.pool) s ch ≡ finish → FinishTestHolds c s
      at nothing q e = absurd (some_chosen passed steps q)
      at (chosen b rest) q e =
          let after : State Node = step (problem_of c) (choices_of c) s b rest in
          let over : Bool = ltb (records_in c.pool) (length (held (choices_of c).rules after)) in
          let allowed : Bool = ltb (length s.branched) (choices_of c).budget in
          record { b = b; rest = rest; selects = q; ends = test (finishes (problem_of c) b) allowed over after e }

  pub holds_finish : FinishTestHolds c s → (capacity : ℕ) → next (problem_of c) (choices_of c) capacity s ≡ finish
  unfolding next decide
  holds_finish h records = rw (h.selects, to_true (finishes (problem_of c) h.b) h.ends)

made_branched :
    {N : Type 0} {P : Problem N} {C : Choices N} {capacity : ℕ} {s e : State N} (steps : Steps P C capacity s e)
    → length e.branched ≡ length s.branched + made steps
made_branched none = omega arith
made_branched {P = P} {C = C} {capacity} (more before last) = omega (arith, stepped_adds P C capacity last, made_branched before)

pub steps_branched : (c : Call) {s : State Node} (steps : StateOf c s) → length s.branched ≡ made steps
unfolding start
steps_branched c steps = omega (arith, made_branched steps)

pub finished_answer : (c : Call) (h : ComesTo c FinishTestHolds) → answer c ≡ ending c (finished h.state)
unfolding answer respond
finished_answer c h =
    ap (respond c) h.passed ∙ ap (ending c) (finish_outcome c h.steps (holds_finish c h.state h.there (records_in c.pool)))

pub stopped_answer : (c : Call) (h : ComesTo c BudgetIsSpent) → answer c ≡ ending c (stopped h.state)
unfolding answer respond
stopped_answer c h = ap (respond c) h.passed ∙ ap (ending c) (halt_outcome c h.steps h.there)

pub full_answer : (c : Call) (h : ComesTo c NextDoesNotFit) → answer c ≡ ending c (full h.state)
unfolding answer respond
full_answer c h = ap (respond c) h.passed ∙ ap (ending c) (overflow_outcome c h.steps h.there)
