-- The answer to a call over any day, to compare days with. A table comes into an answer by its day and by the checks alone (`OnItsDay`), and a day by
-- the figures of its nodes (`FiguresDecide`). proofs/ has a theorem for each type.
--   answer_by P D c number  what a call is answered by a search P over a day D, where the checks say `number`
--   answer_on D c number    and by the search that respects the call's pairs
--   SameFigures n A B      of the partial orders of n stops, two days say the same
use Rattle.std.specs.Prelude.{◌≡◌, List, [], ℕ, zero, suc, length}
use Rattle.lists.specs.Lists.{least}
use Rattle.search.specs.Problem.{Problem, Choices, State, upper, start}
use Rattle.search.specs.Run.{Outcome, finished, stopped, full, unfinished, run}
use Rattle.orders.specs.Orders.{Node, Partial, Order, nodes}
use Rattle.orders.specs.Pairs.{pairs_of}
use Rattle.days.specs.Days.{Day, problem, choices}
use Rattle.records.specs.Records.{pool_words, records_in}
use Rattle.answer.specs.Call.{Call, Answer, refusal}
use Rattle.answer.specs.Checks.{cause}
use Rattle.answer.specs.Answer.{day_of, given, stops_of, cost_of, report_with, answer}

-- It is made as `answer` is, with any problem in place of the call's own and any day in place of its own.
module _ (P : Problem Node) (D : Day) (c : Call) where
  abbrev pub choices_on : Choices Node
  choices_on = choices D c.job.selection c.job.rules c.job.bound c.budget

  abbrev pub outcome_of : Outcome Node
  outcome_of = run P choices_on (records_in c.pool) (suc (nodes c.job.n)) (start P (given c.start))

  abbrev pub words_on : State Node → List ℕ
  words_on s = pool_words c.job.n D c.job.bound c.job.rules (length c.pool) s

  abbrev pub floor_on : State Node → ℕ
  floor_on s = least choices_on.bound s.active

  abbrev pub ending_by : Outcome Node → Answer
  ending_by (finished s) = record { report = report_with 0 0 (upper P s.best) 0 (stops_of s.best) s; pool = words_on s }
  ending_by (stopped s) = record { report = report_with 0 1 (cost_of P s.best) (floor_on s) (stops_of s.best) s; pool = words_on s }
  ending_by (full s) = record { report = report_with 7 0 0 0 [] s; pool = words_on s }
  ending_by (unfinished s) = record { report = refusal 255; pool = c.pool }

  abbrev pub answer_by : ℕ → Answer
  answer_by zero = ending_by outcome_of
  answer_by (suc k) = record { report = refusal (suc k); pool = c.pool }

-- over a day, with the call's own pairs
abbrev pub problem_on : Day → Call → Problem Node
problem_on D c = problem c.job.n (pairs_of c.pairs) D

abbrev pub answer_on : Day → Call → ℕ → Answer
answer_on D c = answer_by (problem_on D c) D c

abbrev pub OnItsDay : Type 0
OnItsDay = (c : Call) → answer c ≡ answer_on (day_of c) c (cause c)

-- the same path cost, bounds and dominance for the partial orders of n stops, and the same cost for the orders
pub record SameFigures (n : ℕ) (A B : Day) : Type 0 where
  pub paths : (x : Node) → Partial n x → A.path x ≡ B.path x
  pub bounds : (k : ℕ) (x : Node) → Partial n x → A.bound k x ≡ B.bound k x
  pub dominances : (y z : Node) → Partial n y → Partial n z → A.dominates y z ≡ B.dominates y z
  pub orders-cost : (x : Node) → Order n x → A.cost x ≡ B.cost x

-- Where no check refuses a call, any day with the figures of its own gives the same report and leaves the same words.
abbrev pub FiguresDecide : Type 0
FiguresDecide = (c : Call) → cause c ≡ 0 → (D : Day) → SameFigures c.job.n D (day_of c) → answer c ≡ answer_on D c 0
