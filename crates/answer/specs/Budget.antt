-- What request A.3 says of a budget of branchings, a type for each of its sentences and in its order, as in `Demands`; proofs/ has a theorem for
-- each, of the written run, and crate `planner` one of what the code returns. That costs of two finished runs are equal and how A is held
-- against B are `OneCost` and `Favours` of `Demands`. Since request A.6 its orders are those that respect the pairs.
--   MarkedIff, OtherwiseZero, StoppedAsWritten    when the mark comes, and what stands beside it
--   ExactBudget, WithinBudget                     how many nodes are branched
--   OrderOrZeros, NoDearerThanStart               the order shown
--   FloorHolds, BestExists, Between               the floor, the best of all orders and the order shown
--   LargerBudget                                  of two stopped runs of one job
--   UnstoppedAsWithout, NoRunReaches              where the budget does not stop the run, and the largest 64-bit number
use Rattle.std.specs.Prelude.{◌≡◌, false, [], ◌⊎◌, ◌≢◌, ◌↔◌, ℕ, ◌≤◌, ◌<◌, replicate, get_or}
use Rattle.sizes.specs.Sizes.{order_places, no_budget}
use Rattle.lists.specs.Lists.{In}
use Rattle.orders.specs.Orders.{Node}
use Rattle.answer.specs.Call.{Call, Answer}
use Rattle.answer.specs.declared.Report.{Report}
use Rattle.answer.specs.Answer.{day_of}
use Rattle.answer.specs.Checks.{cause₁₁}
use Rattle.answer.specs.Ends.{BudgetIsSpent, ComesTo, StoppedAt, AllowedOrder, HasOrder}
use Rattle.answer.specs.Demands.{Planner, allowed_orders}

-- Mark 1 comes when, and only when, the run comes to a state where the finish test does not hold and the budget is spent; so a spent budget is
-- looked at before the pool.
abbrev pub MarkedIff : Planner → Type 0
MarkedIff P = (c : Call) (a : Answer) → P c a → (a.report.mark ≡ 1) ↔ ComesTo c BudgetIsSpent

-- Any other report has mark 0 and floor 0.
abbrev pub OtherwiseZero : Planner → Type 0
OtherwiseZero P = (c : Call) (a : Answer) → P c a → a.report.mark ≢ 1 → (a.report.mark ≡ 0) × (a.report.floor ≡ 0)

-- With mark 1, number, cost, order, floor, counts and pool are those of that state.
abbrev pub StoppedAsWritten : Planner → Type 0
StoppedAsWritten P = (c : Call) (a : Answer) → P c a → a.report.mark ≡ 1 → StoppedAt c a

-- A stopped run made exactly the budget's branchings.
abbrev pub ExactBudget : Planner → Type 0
ExactBudget P = (c : Call) (a : Answer) → P c a → a.report.mark ≡ 1 → a.report.branched ≡ c.budget

-- No run, however it ends, makes more.
abbrev pub WithinBudget : Planner → Type 0
WithinBudget P = (c : Call) (a : Answer) → P c a → a.report.branched ≤ c.budget

-- A report shows an order: its first place is not 0.
abbrev pub ShowsOrder : Report → Type 0
ShowsOrder r = get_or r.order 0 0 ≢ 0

-- A stopped run shows an order of the n stops with its cost, or zeros alone.
abbrev pub OrderOrZeros : Planner → Type 0
OrderOrZeros P =
    (c : Call) (a : Answer) → P c a → a.report.mark ≡ 1
    → (ShowsOrder a.report × HasOrder c a.report) ⊎ ((a.report.order ≡ replicate order_places 0) × (a.report.cost ≡ 0))

-- Where there is a starting order, an order is shown, and it is no dearer.
abbrev pub NoDearerThanStart : Planner → Type 0
NoDearerThanStart P =
    (c : Call) (a : Answer) → P c a → a.report.mark ≡ 1 → c.start ≢ []
    → ShowsOrder a.report × (a.report.cost ≤ (day_of c).cost c.start)

-- Every order that respects the pairs costs at least the floor.
abbrev pub FloorHolds : Planner → Type 0
FloorHolds P =
    (c : Call) (a : Answer) → P c a → a.report.mark ≡ 1 → (y : Node) → In y (allowed_orders c) → a.report.floor ≤ (day_of c).cost y

-- v is what the best of all orders that respect the pairs costs.
pub record BestCost (c : Call) (v : ℕ) : Type 0 where
  pub order : Node
  pub is_allowed : AllowedOrder c order
  pub costs : v ≡ (day_of c).cost order
  pub least : (y : Node) → In y (allowed_orders c) → v ≤ (day_of c).cost y

-- Some order is the best of them, where check 11 lets the pairs pass.
abbrev pub BestExists : Type 0
BestExists = (c : Call) → cause₁₁ c.job.n c.pairs ≡ false → (v : ℕ) × BestCost c v

-- The floor is at most what that best one costs; an order that is shown costs at least as much.
abbrev pub Between : Planner → Type 0
Between P =
    (c : Call) (a : Answer) → P c a → a.report.mark ≡ 1 → (v : ℕ) → BestCost c v
    → (a.report.floor ≤ v) × (ShowsOrder a.report → v ≤ a.report.cost)

-- One job: the calls are alike but for budget and pool.
pub record OneJob (a b : Call) : Type 0 where
  pub job : a.job ≡ b.job
  pub table : a.table ≡ b.table
  pub start : a.start ≡ b.start
  pub pairs : a.pairs ≡ b.pairs

-- Two of its runs, both stopped: with the larger budget the floor is as high or higher; and where the other shows an order, so does this one, as
-- cheap or cheaper.
abbrev pub LargerBudget : Planner → Type 0
LargerBudget P =
    (a b : Call) (x y : Answer) → P a x → P b y → OneJob a b → a.budget ≤ b.budget → x.report.mark ≡ 1 → y.report.mark ≡ 1
    → (x.report.floor ≤ y.report.floor)
    × (ShowsOrder x.report → ShowsOrder y.report × (y.report.cost ≤ x.report.cost))

-- A run that the budget does not stop, a finished one among them, has the report and the pool that it has with any larger budget, and so
-- without one.
abbrev pub UnstoppedAsWithout : Planner → Type 0
UnstoppedAsWithout P =
    (a b : Call) (x y : Answer) → P a x → P b y → OneJob a b → a.pool ≡ b.pool → a.budget ≤ b.budget → x.report.mark ≢ 1 → x ≡ y

-- No run reaches the largest 64-bit number: it branches fewer nodes, and with it as budget no run is stopped.
abbrev pub NoRunReaches : Planner → Type 0
NoRunReaches P =
    (c : Call) (a : Answer) → P c a → (a.report.branched < no_budget) × (c.budget ≡ no_budget → a.report.mark ≡ 0)
