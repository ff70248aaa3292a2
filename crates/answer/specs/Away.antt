-- Request A.5 beside its definitions (`counted`, `rows`, `ends_away` and `bound_by` in crate `stops`, `cause₄` in `Checks`, `EndAlike` and `AsClose` in
-- `Demands`): a type for each of its sentences, as in `Demands`; proofs/ has a theorem for each.
--   home_day_of, away_day_of, EndsAway    the table's day that ends at home; its day that ends away, as the request words it; a call for such a day
--   LetsBoundsPass                    check 4
--   FiguresAway, AnswersAway          no leg home counts
--   ComparedEndAlike                  which jobs are compared
--   CheapestWithoutLegHome, NoDearerAway, LegsHomeUnread    of a planner's answers
--   BoundExactAway                    the bounds of such a day; that they never fall and that close is not below plain is in `Document01`
use Rattle.std.specs.Prelude.{◌≡◌, false, true, List, ◌↔◌, ℕ, ◌≤◌, T}
use Rattle.lists.specs.Lists.{In}
use Rattle.orders.specs.Orders.{Node, NoLarger, complete, Partial}
use Rattle.days.specs.Days.{Day}
use Rattle.stops.specs.Tables.{entry, rows}
use Rattle.stops.specs.Bounds.{ends_away}
use Rattle.stops.specs.Stops.{day_on}
use Rattle.stops.specs.Away.{day_away_on}
use Rattle.answer.specs.Call.{Call, call_of, Answer}
use Rattle.answer.specs.declared.Job.{Job}
use Rattle.answer.specs.Checks.{cause₄, cause}
use Rattle.answer.specs.Answer.{day_of, choices_of}
use Rattle.answer.specs.Ends.{Finishes, order_in, AllowedOrder}
use Rattle.answer.specs.Demands.{Planner, OneTable, EndAlike, SamePairs, allowed_orders, Favours}
use Rattle.answer.specs.OnDay.{answer_on, SameFigures}

-- the day of a call's table that ends at home, charges included
unfoldable pub home_day_of : Call → Day
home_day_of c = day_on c.job.n (rows c.job.n false c.table)

-- and its day that ends away as the request words it: by the same legs, and no leg home counts
unfoldable pub away_day_of : Call → Day
away_day_of c = day_away_on c.job.n (rows c.job.n false c.table)

abbrev pub EndsAway : Call → Type 0
EndsAway c = ends_away c.job.bound ≡ true

-- CHECK 4

-- Bounds 0 to 3 pass, and no other.
abbrev pub LetsBoundsPass : Type 0
LetsBoundsPass = (job : Job) → (cause₄ job ≡ false) ↔ ((job.selection ≤ 3) × (job.rules ≤ 15) × (job.bound ≤ 3))

-- NO LEG HOME COUNTS

-- Path costs, bounds, dominance and the costs of orders are as the request words them, ..
abbrev pub FiguresAway : Type 0
FiguresAway = (c : Call) → cause c ≡ 0 → EndsAway c → SameFigures c.job.n (away_day_of c) (day_of c)

-- .. and so is every answer, with its pool.
abbrev pub AnswersAway : Planner → Type 0
AnswersAway P = (c : Call) (a : Answer) → P c a → EndsAway c → a ≡ answer_on (away_day_of c) c (cause c)

-- At a complete node a bound, plain or close, is the path cost.
abbrev pub BoundExactAway : Type 0
BoundExactAway =
    (c : Call) → cause c ≡ 0 → EndsAway c → (x : Node) → Partial c.job.n x → T (complete c.job.n x)
    → (choices_of c).bound x ≡ (home_day_of c).path x

-- Demand 3 compares two jobs only where both end at home or both end away.
abbrev pub ComparedEndAlike : Type 0
ComparedEndAlike = (a b : Call) → Favours a b → EndAlike a b

-- WHAT COMES BACK

-- A finished run shows an order that is cheapest without the leg home, of equals the smallest (request A.8), and that cost.
pub record CheapestAway (c : Call) (a : Answer) : Type 0 where
  pub is_allowed : AllowedOrder c (order_in c a.report)
  pub cost_is : a.report.cost ≡ (home_day_of c).path (order_in c a.report)
  pub least : (y : Node) → In y (allowed_orders c) → a.report.cost ≤ (home_day_of c).path y
  pub smallest :
      (y : Node) → In y (allowed_orders c) → (home_day_of c).path y ≡ a.report.cost → NoLarger (order_in c a.report) y

abbrev pub CheapestWithoutLegHome : Planner → Type 0
CheapestWithoutLegHome P = (c : Call) (a : Answer) → P c a → EndsAway c → Finishes a.report → CheapestAway c a

-- Over one table and with the same pairs, ending away is never dearer than ending at home.
abbrev pub NoDearerAway : Planner → Type 0
NoDearerAway P =
    (a b : Call) (x y : Answer) → P a x → P b y → OneTable a b → SamePairs a b → EndsAway a → ends_away b.job.bound ≡ false
    → Finishes x.report → Finishes y.report → x.report.cost ≤ y.report.cost

-- Where the day ends away, what the table says of flying home (its legs to place 0, and home's charge) plays no part beyond check 3: with others
-- that the checks say the same of, the answer is the same.
abbrev pub LegsHomeUnread : Planner → Type 0
LegsHomeUnread P =
    (c : Call) (table : List ℕ) →
    let d = call_of c.job table c.start c.pairs c.budget c.pool in
    (x y : Answer) → P c x → P d y → EndsAway c → cause c ≡ cause d
    → ((i j : ℕ) → i ≤ c.job.n → 1 ≤ j → j ≤ c.job.n → entry c.job.n c.table i j ≡ entry c.job.n table i j) → x ≡ y
