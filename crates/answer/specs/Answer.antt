-- The one function from what a caller hands in to the report and the pool's words afterwards: `answer`.
-- Document 01, "The report", "The pool" and "Causes and numbers"; document 02, A.3, A.5 and A.6.
use Rattle.std.specs.Prelude.{List, [], ◌∷◌, ℕ, zero, suc, length}
use Rattle.std.proofs.Math.Option.{Option, none, some}
use Rattle.lists.specs.Lists.{padded, least}
use Rattle.search.specs.Problem.{Problem, Choices, State, upper, start}
use Rattle.search.specs.Run.{Outcome, finished, stopped, full, unfinished, run, Steps}
use Rattle.orders.specs.Orders.{Node, nodes}
use Rattle.orders.specs.Pairs.{pairs_of}
use Rattle.days.specs.Days.{Day, problem, choices}
use Rattle.stops.specs.Tables.{rows}
use Rattle.stops.specs.Bounds.{ends_away}
use Rattle.stops.specs.Stops.{day_on}
use Rattle.records.specs.Records.{pool_words, records_in}
use Rattle.sizes.specs.Sizes.{order_places}
use Rattle.answer.specs.Call.{Call, Answer, refusal}
use Rattle.answer.specs.declared.Report.{Report}
use Rattle.answer.specs.Checks.{cause}

-- the day that a call is about; by its bound it ends at home or, request A.5, away: then every answer is the one without legs home (`AnswersAway`)
unfoldable pub day_of : Call → Day
day_of c = day_on c.job.n (rows c.job.n (ends_away c.job.bound) c.table)

-- its search, in which only children that respect the pairs are generated (request A.6)
unfoldable pub problem_of : Call → Problem Node
problem_of c = problem c.job.n (pairs_of c.pairs) (day_of c)

unfoldable pub choices_of : Call → Choices Node
choices_of c = choices (day_of c) c.job.selection c.job.rules c.job.bound c.budget

-- the starting order, if one is given
abbrev pub given : List ℕ → Option Node
given [] = none
given (s ∷ x) = some (s ∷ x)

-- The run of a call. Its fuel, one more than the number of all nodes, is never used up (`proofs/`).
unfoldable pub outcome : Call → Outcome Node
outcome c =
    run (problem_of c) (choices_of c) (records_in c.pool) (suc (nodes c.job.n)) (start (problem_of c) (given c.start))

-- The states of a call's run: what steps of the written run come to, each allowed by the budget and fitting the pool.
abbrev pub StateOf : Call → State Node → Type 0
StateOf c s = Steps (problem_of c) (choices_of c) (records_in c.pool) (start (problem_of c) (given c.start)) s

abbrev pub stops_of : Option Node → List ℕ
stops_of none = []
stops_of (some x) = x

-- the cost of the best order known, 0 while there is none
abbrev pub cost_of : Problem Node → Option Node → ℕ
cost_of P none = 0
cost_of P (some x) = P.cost x

-- Request A.3, the floor: the least bound among the active nodes.
unfoldable pub floor_of : Call → State Node → ℕ
floor_of c s = least (choices_of c).bound s.active

-- A report at the end of a run: its number, mark, cost and floor, and the order in as many places as there may be stops. The counts are those
-- of the state that the run ended at.
unfoldable pub report_with : ℕ → ℕ → ℕ → ℕ → List ℕ → State Node → Report
report_with number mark cost floor order s = record {
  number = number;
  mark = mark;
  cost = cost;
  floor = floor;
  order = padded order_places order;
  branched = length s.branched;
  generated = s.generated;
  eliminated = s.eliminated;
  active = length s.active;
  most = s.most;
}

-- A finished run reports U and its order.
abbrev pub finished_report : Call → State Node → Report
finished_report c s = report_with 0 0 (upper (problem_of c) s.best) 0 (stops_of s.best) s

-- One that the budget stopped (request A.3) reports mark 1, the best order known with its cost, or zeros, and the floor.
abbrev pub stopped_report : Call → State Node → Report
stopped_report c s = report_with 0 1 (cost_of (problem_of c) s.best) (floor_of c s) (stops_of s.best) s

-- One that filled the pool reports number 7, and zeros beside the counts.
abbrev pub full_report : Call → State Node → Report
full_report c s = report_with 7 0 0 0 [] s

-- Of the pool before the run, only the length is looked at.
unfoldable pub words_of : Call → State Node → List ℕ
words_of c s = pool_words c.job.n (day_of c) c.job.bound c.job.rules (length c.pool) s

unfoldable pub ending : Call → Outcome Node → Answer
ending c (finished s) = record { report = finished_report c s; pool = words_of c s }
ending c (stopped s) = record { report = stopped_report c s; pool = words_of c s }
ending c (full s) = record { report = full_report c s; pool = words_of c s }
-- never comes, and has no number in document 01
ending c (unfinished s) = record { report = refusal 255; pool = c.pool }

-- A refusal by 1 to 6 or 11 leaves the pool as it was.
unfoldable pub respond : Call → ℕ → Answer
respond c zero = ending c (outcome c)
respond c (suc k) = record { report = refusal (suc k); pool = c.pool }

unfoldable pub answer : Call → Answer
answer c = respond c (cause c)
