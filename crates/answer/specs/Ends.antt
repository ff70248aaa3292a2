-- How a call's run ends: what the demands (`Demands`) and request A.3 (`Budget`) speak of. Document 01, "One run", "The pool", "The report"
-- and "Causes and numbers"; document 02, A.3, A.6 and A.8.
--   Finishes                           what a report of a finished run says
--   made                               how many steps a run made
--   FinishTestHolds, BudgetIsSpent, NextDoesNotFit, Ends    what ends a run at a state
--   ComesTo, EndsAt                    the run of a call comes to such a state; an answer is that of such a state
--   FinishedAt, StoppedAt, FullAt      an answer with number 0 and mark 0, with 0 and mark 1, with 7
--   RefusedAt, Ended                   an answer with 1 to 6 or 11; one of the four
--   order_in, HasOrder                  the order of a report, and that it has one
use Rattle.std.specs.Prelude.{◌≡◌, List, ◌⊎◌, ℕ, suc, ◌≤◌, T, take}
use Rattle.sizes.specs.Sizes.{order_places}
use Rattle.lists.specs.Lists.{padded}
use Rattle.search.specs.Problem.{Problem, Choices, State}
use Rattle.search.specs.Selection.{chosen, select, finishes}
use Rattle.search.specs.Run.{Steps, none, more, Halts, Overflows}
use Rattle.orders.specs.Orders.{Node}
use Rattle.orders.specs.Pairs.{pairs_of, Allowed}
use Rattle.records.specs.Records.{records_in}
use Rattle.answer.specs.Call.{Call, Answer, refusal}
use Rattle.answer.specs.declared.Report.{Report}
use Rattle.answer.specs.Checks.{cause}
use Rattle.answer.specs.Answer.{day_of, problem_of, choices_of, StateOf, finished_report, stopped_report, full_report, words_of}

-- A report of a finished run. Number 0 alone does not say so: with mark 1 the budget stopped the run (request A.3).
abbrev pub Finishes : Report → Type 0
Finishes r = (r.number ≡ 0) × (r.mark ≡ 0)

-- how many steps lead from one state of a run to another
abbrev pub made : {N : Type 0} {P : Problem N} {C : Choices N} {capacity : ℕ} {s e : State N} → Steps P C capacity s e → ℕ
made none = 0
made (more before last) = suc (made before)

-- A node is chosen, and the finish test holds of it: it is complete (request A.8).
pub record FinishTestHolds (c : Call) (s : State Node) : Type 0 where
  pub b : Node
  pub rest : List Node
  pub selects : select (problem_of c) (choices_of c) s.active ≡ chosen b rest
  pub ends : T (finishes (problem_of c) b)

-- Request A.3: a node is chosen, the finish test does not hold of it, and as many nodes as the budget has are branched.
abbrev pub BudgetIsSpent : Call → State Node → Type 0
BudgetIsSpent c s = Halts (problem_of c) (choices_of c) (records_in c.pool) s

-- A node is chosen, the finish test does not hold of it, the budget allows its step, and after the step the nodes to keep outnumber the pool's
-- records.
abbrev pub NextDoesNotFit : Call → State Node → Type 0
NextDoesNotFit c s = Overflows (problem_of c) (choices_of c) (records_in c.pool) s

abbrev pub Ends : Call → State Node → Type 0
Ends c s = FinishTestHolds c s ⊎ (BudgetIsSpent c s ⊎ NextDoesNotFit c s)

-- The run of a call comes to a state of which Q holds.
pub record ComesTo (c : Call) (Q : Call → State Node → Type 0) : Type 0 where
  -- no check refuses the call
  pub passed : cause c ≡ 0
  pub state : State Node
  -- steps of the written run lead there, each allowed by the budget and fitting the pool
  pub steps : StateOf c state
  pub there : Q c state

-- The run comes to a state that ends it; what is reported is a report of that state, and the pool holds it.
pub record EndsAt (c : Call) (a : Answer) (Q : Call → State Node → Type 0) (report : Call → State Node → Report) : Type 0 where
  pub comes : ComesTo c Q
  pub reported : a.report ≡ report c comes.state
  pub pool_holds : a.pool ≡ words_of c comes.state

-- Number 0 with mark 0: where the finish test holds.
abbrev pub FinishedAt : Call → Answer → Type 0
FinishedAt c a = EndsAt c a FinishTestHolds finished_report

-- Number 0 with mark 1 (request A.3): where the budget is spent.
abbrev pub StoppedAt : Call → Answer → Type 0
StoppedAt c a = EndsAt c a BudgetIsSpent stopped_report

-- Number 7: before the step that does not fit.
abbrev pub FullAt : Call → Answer → Type 0
FullAt c a = EndsAt c a NextDoesNotFit full_report

-- Numbers 1 to 6 and, since request A.6, 11: the first cause that applies and zeros; the pool is as it was.
pub record RefusedAt (c : Call) (a : Answer) : Type 0 where
  pub some_cause : 1 ≤ cause c
  pub of_seven : (cause c ≤ 6) ⊎ (cause c ≡ 11)
  pub reported : a.report ≡ refusal (cause c)
  pub pool_stays : a.pool ≡ c.pool

-- the order of a report: its first n places
abbrev pub order_in : Call → Report → Node
order_in c r = take c.job.n r.order

-- an order of the n stops that respects the pairs (request A.6)
abbrev pub AllowedOrder : Call → Node → Type 0
AllowedOrder c x = Allowed c.job.n (pairs_of c.pairs) x

-- A report has an order of the n stops that respects the pairs, zeros past n, and that order's own cost.
pub record HasOrder (c : Call) (r : Report) : Type 0 where
  pub is_allowed : AllowedOrder c (order_in c r)
  pub zeros_past_n : r.order ≡ padded order_places (order_in c r)
  pub cost_is_its : r.cost ≡ (day_of c).cost (order_in c r)

-- How a call can end: with an order of the n stops that respects the pairs, stopped by the budget, with a full pool, or refused by a check.
pub data Ended (c : Call) (a : Answer) : Type 0 where
  planned : FinishedAt c a → AllowedOrder c (order_in c a.report) → Ended c a
  halted : StoppedAt c a → Ended c a
  filled : FullAt c a → Ended c a
  refused : RefusedAt c a → Ended c a
