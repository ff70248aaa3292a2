-- What the letter demands of a planner, a type for each of its sentences and in its order. A proof of a sentence is a theorem whose type is the
-- sentence's name: of the written run (`written`) in proofs/ of this crate, of what the code of `plan` returns in proofs/ of crate `planner`.
-- What document 01 says beside the run's definition is in `Document01`, what requests A.3 to A.6 and A.8 add in `Budget`, `Charges`, `Away`, `Pairs` and
-- `Ties`; what demands 1 and 2 say of files is in crate `job_format`.
use Rattle.std.specs.Prelude.{◌≡◌, List, [], ◌⊎◌, ◌≢◌, ◌↔◌, ℕ, ◌+◌, ◌≤◌, T, length}
use Rattle.lists.specs.Lists.{In, Distinct}
use Rattle.search.specs.Step.{on}
use Rattle.orders.specs.Orders.{Node, NoLarger, Order, orders, factorial}
use Rattle.orders.specs.Pairs.{Pair, pairs_of, OnePairs, Allowed, orders_with}
use Rattle.days.specs.Days.{Closer}
use Rattle.stops.specs.Bounds.{ends_away}
use Rattle.answer.specs.Call.{Call, Answer}
use Rattle.answer.specs.declared.Job.{Job}
use Rattle.answer.specs.declared.Report.{Report}
use Rattle.answer.specs.Checks.{cause}
use Rattle.answer.specs.Answer.{day_of, answer}
use Rattle.answer.specs.Ends.{Finishes, NextDoesNotFit, ComesTo, FullAt, RefusedAt, order_in, HasOrder, Ended}

-- A planner as its callers see it: which answers it gives to a call. An answer is the report and the words that the pool holds afterwards.
abbrev pub Planner : Type 1
Planner = Call → Answer → Type 0

-- the planner that document 01 writes out
abbrev pub written : Planner
written c a = a ≡ answer c

-- DEMAND 1

-- Every call is answered, ..
abbrev pub EveryCallIsAnswered : Planner → Type 0
EveryCallIsAnswered P = (c : Call) → (a : Answer) × P c a

-- .. and ends with an order or with a numbered refusal; or, since request A.3, where the budget stopped it.
abbrev pub EveryCallEnds : Planner → Type 0
EveryCallEnds P = (c : Call) (a : Answer) → P c a → Ended c a

-- What a refusal gives and leaves is known beforehand: nothing but the call decides the answer, ..
abbrev pub OneAnswer : Planner → Type 0
OneAnswer P = (c : Call) (a b : Answer) → P c a → P c b → a ≡ b

-- .. and where it is not number 0, it is one of these two.
abbrev pub RefusalsFixed : Planner → Type 0
RefusalsFixed P = (c : Call) (a : Answer) → P c a → a.report.number ≢ 0 → RefusedAt c a ⊎ FullAt c a

-- DEMAND 2

-- The run is the one that document 01 writes out: its order, cost, counts and pool.
abbrev pub RunIsWritten : Planner → Type 0
RunIsWritten P = (c : Call) (a : Answer) → P c a → a ≡ answer c

-- Every generated node was branched, was eliminated or is active.
abbrev pub CountsBalance : Planner → Type 0
CountsBalance P = (c : Call) (a : Answer) → P c a → a.report.generated ≡ a.report.branched + a.report.eliminated + a.report.active

-- Number 7 has one cause, which always brings it: the run comes to a step that the budget allows and that would leave more nodes to keep than
-- there are records.
abbrev pub FullIff : Planner → Type 0
FullIff P = (c : Call) (a : Answer) → P c a → (a.report.number ≡ 7) ↔ ComesTo c NextDoesNotFit

-- DEMAND 3, the first half: two runs over one table that finish. Since request A.5, both end at home or both end away; since A.6 both have the same
-- pairs.

pub record OneTable (a b : Call) : Type 0 where
  pub n : a.job.n ≡ b.job.n
  pub table : a.table ≡ b.table

abbrev pub EndAlike : Call → Call → Type 0
EndAlike a b = ends_away a.job.bound ≡ ends_away b.job.bound

abbrev pub SamePairs : Call → Call → Type 0
SamePairs a b = OnePairs a.pairs b.pairs

-- They report equal costs.
abbrev pub OneCost : Planner → Type 0
OneCost P =
    (a b : Call) (x y : Answer) → P a x → P b y → OneTable a b → EndAlike a b → SamePairs a b → Finishes x.report → Finishes y.report
    → x.report.cost ≡ y.report.cost

-- of the n! orders of a call's stops those that respect its pairs
abbrev pub allowed_orders : Call → List Node
allowed_orders c = orders_with c.job.n (pairs_of c.pairs)

-- The cost is that of the order reported with it, and each of the orders of the stops that respect the pairs costs at least as much; those that cost the
-- same are the order itself and larger ones (request A.8).
pub record Cheapest (c : Call) (r : Report) : Type 0 where
  pub has_order : HasOrder c r
  pub least : (y : Node) → In y (allowed_orders c) → r.cost ≤ (day_of c).cost y
  pub smallest :
      (y : Node) → In y (allowed_orders c) → (day_of c).cost y ≡ r.cost → NoLarger (order_in c r) y

abbrev pub CheapestOfAll : Planner → Type 0
CheapestOfAll P = (c : Call) (a : Answer) → P c a → Finishes a.report → Cheapest c a.report

-- The list of the orders has n! entries, none twice, and these are the orders of the n stops.
pub record AllOrders (n : ℕ) : Type 0 where
  pub entries : length (orders n) ≡ factorial n
  pub once : Distinct (orders n)
  pub just_these : (x : Node) → In x (orders n) ↔ Order n x

abbrev pub OrdersAreAll : Type 0
OrdersAreAll = (n : ℕ) → AllOrders n

-- Of these n! entries, those that respect the pairs make the list that the demand speaks of: none twice, none missing, and no other order.
pub record AllAllowed (n : ℕ) (pairs : List Pair) : Type 0 where
  pub once : Distinct (orders_with n pairs)
  pub just_these : (x : Node) → In x (orders_with n pairs) ↔ Allowed n pairs x

abbrev pub AllowedAreAll : Type 0
AllowedAreAll = (n : ℕ) (pairs : List Pair) → AllAllowed n pairs

-- DEMAND 3, the second half: two jobs A and B over one table.

-- A has B's bound or, under selections 2 and 3 (FIFO and LIFO), one that is closer: close (1) than plain (0); or, where both end away (request A.5),
-- close (3) than plain (2).
abbrev pub AsClose : Job → Job → Type 0
AsClose a b = (a.bound ≡ b.bound) ⊎ ((2 ≤ a.selection) × Closer a.bound b.bound)

-- A stands to B as the letter asks, request A.3 of the budgets, and request A.6 of the pairs.
pub record Favours (a b : Call) : Type 0 where
  -- one table
  pub n : a.job.n ≡ b.job.n
  pub table : a.table ≡ b.table
  -- the same selection and dominance rules
  pub selection : a.job.selection ≡ b.job.selection
  pub rule_2 : on 2 a.job.rules ≡ on 2 b.job.rules
  pub rule_4 : on 4 a.job.rules ≡ on 4 b.job.rules
  pub rule_8 : on 8 a.job.rules ≡ on 8 b.job.rules
  -- where B uses the upper-cost rule, A does
  pub rule_1 : T (on 1 b.job.rules) → T (on 1 a.job.rules)
  -- B has no starting order, or A has one that is no dearer
  pub start : (b.start ≡ []) ⊎ ((a.start ≢ []) × ((day_of a).cost a.start ≤ (day_of a).cost b.start))
  pub bound : AsClose a.job b.job
  -- a pool that is at least as large
  pub pool : length b.pool ≤ length a.pool
  -- and a budget that is
  pub budget : b.budget ≤ a.budget
  -- the same pairs
  pub pairs : SamePairs a b

-- what A's report owes to B's
pub record NoWorse (a b : Report) : Type 0 where
  pub finishes : Finishes a
  pub branched : a.branched ≤ b.branched
  pub generated : a.generated ≤ b.generated
  pub most : a.most ≤ b.most

-- Where B finishes and the checks let A pass, its pool of whole records included, A finishes, with no higher counts.
abbrev pub FavouredFinishes : Planner → Type 0
FavouredFinishes P =
    (a b : Call) (x y : Answer) → P a x → P b y → Favours a b → cause a ≡ 0 → Finishes y.report → NoWorse x.report y.report
