-- What request A.8 says of equal costs, a type for each sentence, as in `Demands`; proofs/ has a theorem for each. That a finished run's order is the
-- smallest of the cheapest is a part of `Cheapest` there.
--   OneOrder               finished runs agree in the order
--   LargerBudgetSmaller    of two stopped runs of one job, the larger budget's order is, where it costs the same, the same or smaller
--   EqualStart             a starting order of equal cost changes nothing but the order that a stopped run shows
use Rattle.std.specs.Prelude.{◌≡◌, List, [], ◌≢◌, ℕ, ◌≤◌}
use Rattle.orders.specs.Orders.{NoLarger}
use Rattle.answer.specs.Call.{Call, call_of, Answer}
use Rattle.answer.specs.Checks.{cause}
use Rattle.answer.specs.Answer.{day_of}
use Rattle.answer.specs.Ends.{Finishes, order_in}
use Rattle.answer.specs.Demands.{Planner, OneTable, EndAlike, SamePairs}
use Rattle.answer.specs.Budget.{ShowsOrder, OneJob}

-- Two runs over one table and with the same pairs that finish, both ending at home or both away, report one order, whatever their choices, starting
-- orders, budgets and pools.
abbrev pub OneOrder : Planner → Type 0
OneOrder P =
    (a b : Call) (x y : Answer) → P a x → P b y → OneTable a b → EndAlike a b → SamePairs a b → Finishes x.report → Finishes y.report
    → x.report.order ≡ y.report.order

-- Of two stopped runs of one job, the larger budget's order is, where it costs the same, the same or smaller.
abbrev pub LargerBudgetSmaller : Planner → Type 0
LargerBudgetSmaller P =
    (a b : Call) (x y : Answer) → P a x → P b y → OneJob a b → a.budget ≤ b.budget → x.report.mark ≡ 1 → y.report.mark ≡ 1
    → ShowsOrder x.report → x.report.cost ≡ y.report.cost
    → NoLarger (order_in b y.report) (order_in a x.report)

-- the call with another starting order
abbrev pub started_from : List ℕ → Call → Call
started_from start c = call_of c.job c.table start c.pairs c.budget c.pool

-- two answers that may differ in the order shown, and in nothing else
pub record SameButOrder (x y : Answer) : Type 0 where
  pub number : x.report.number ≡ y.report.number
  pub mark : x.report.mark ≡ y.report.mark
  pub cost : x.report.cost ≡ y.report.cost
  pub floor : x.report.floor ≡ y.report.floor
  pub branched : x.report.branched ≡ y.report.branched
  pub generated : x.report.generated ≡ y.report.generated
  pub eliminated : x.report.eliminated ≡ y.report.eliminated
  pub active : x.report.active ≡ y.report.active
  pub most : x.report.most ≡ y.report.most
  pub pool : x.pool ≡ y.pool

-- A call and the same with another starting order of the same cost, where no check refuses either.
pub record OtherStart (c : Call) (start : List ℕ) : Type 0 where
  pub one : c.start ≢ []
  pub other : start ≢ []
  pub passes : cause c ≡ 0
  pub passes_too : cause (started_from start c) ≡ 0
  pub same-cost : (day_of c).cost c.start ≡ (day_of c).cost start

-- Their answers are the same but for the order, and where they finish, or the pool is full, the order is the same too: it is the order of a stopped run
-- alone that may differ.
abbrev pub EqualStart : Planner → Type 0
EqualStart P =
    (c : Call) (start : List ℕ) (x y : Answer) → P c x → P (started_from start c) y → OtherStart c start
    → SameButOrder x y × (x.report.mark ≡ 0 → x.report.order ≡ y.report.order)
