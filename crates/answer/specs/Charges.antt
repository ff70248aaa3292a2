-- Request A.4 beside its definitions (`charge`, `flying` and `rows` in crate `stops`, `cause₃` in `Checks`): a type for each of its sentences, as
-- in `Demands`; proofs/ has a theorem for each.
--   leg_day_of, landing_at, landings, every_landing    a call's day by the legs alone, and what landings are charged
--   LetsPass                              check 3
--   PathPays, OrderPays, PlainPays, ClosePays    what is reckoned, against what the legs alone give
--   DiagonalUnflown                       the diagonal of the rows plays no part
--   OrderShownPays, CheapestByLegs        of a planner's answers
-- What a call without charges is answered is in `AsBefore`.
use Rattle.std.specs.Prelude.{◌≡◌, true, false, cond, List, ◌≢◌, ◌↔◌, ℕ, suc, ◌+◌, ◌*◌, ◌≤◌, length}
use Rattle.sizes.specs.Sizes.{dearest_leg, dearest_charge}
use Rattle.lists.specs.Lists.{In, sum, from}
use Rattle.orders.specs.Orders.{Node, NoLarger, complete, Partial, Order}
use Rattle.days.specs.Days.{Day}
use Rattle.stops.specs.Tables.{entry, charge, flying, counted, in_rows, leg_rows, landing}
use Rattle.stops.specs.Bounds.{ends_away, is_close}
use Rattle.stops.specs.Stops.{day_on}
use Rattle.answer.specs.Call.{Call, Answer}
use Rattle.answer.specs.Checks.{cause₃, cause}
use Rattle.answer.specs.Answer.{day_of}
use Rattle.answer.specs.Ends.{Finishes, order_in}
use Rattle.answer.specs.Budget.{ShowsOrder}
use Rattle.answer.specs.Demands.{Planner, allowed_orders}
use Rattle.answer.specs.OnDay.{SameFigures}

-- the day by the legs alone
unfoldable pub leg_day_of : Call → Day
leg_day_of c = day_on c.job.n (leg_rows c.job.n (ends_away c.job.bound) c.table)

-- what a landing counts: its charge, but at home (0) nothing on a day that ends away (request A.5)
unfoldable pub landing_at : Call → ℕ → ℕ
landing_at c = landing c.job.n (ends_away c.job.bound) c.table

-- at some places; and at every place once, home included where the day ends there
unfoldable pub landings : Call → List ℕ → ℕ
landings c places = sum (landing_at c) places

unfoldable pub every_landing : Call → ℕ
every_landing c = landings c (from 0 (suc c.job.n))

-- CHECK 3

-- Of the tables with n + 1 rows of n + 1 numbers it lets just those pass whose legs, from each place to every other, are at most 1,000,000, and
-- whose landing charges are at most 100,000.
abbrev pub LetsPass : Type 0
LetsPass =
    (n : ℕ) (table : List ℕ) → length table ≡ suc n * suc n
    → (cause₃ n table ≡ false)
    ↔ (((i j : ℕ) → i ≤ n → j ≤ n → i ≢ j → entry n table i j ≤ dearest_leg) × ((j : ℕ) → j ≤ n → charge n table j ≤ dearest_charge))

-- WHEREVER A LEG IS RECKONED WITH

-- A path costs its legs, and a landing at each of its stops.
abbrev pub PathPays : Type 0
PathPays = (c : Call) → cause c ≡ 0 → (x : Node) → Partial c.job.n x → (day_of c).path x ≡ (leg_day_of c).path x + landings c x

-- An order costs its legs and every landing, home's included where the day ends there: the legs differ from order to order, the landings do not.
abbrev pub OrderPays : Type 0
OrderPays = (c : Call) → cause c ≡ 0 → (x : Node) → Order c.job.n x → (day_of c).cost x ≡ (leg_day_of c).cost x + every_landing c

-- A plain bound has the landings of the path and, once no stop is left, home's where the day ends there.
abbrev pub PlainPays : Type 0
PlainPays =
    (c : Call) → cause c ≡ 0 → (k : ℕ) → is_close k ≡ false → (x : Node) → Partial c.job.n x
    → (day_of c).bound k x ≡ (leg_day_of c).bound k x + (landings c x + cond (complete c.job.n x) (landing_at c 0) 0)

-- A close bound has every landing, flown or left, home's where the day ends there.
abbrev pub ClosePays : Type 0
ClosePays =
    (c : Call) → cause c ≡ 0 → (k : ℕ) → is_close k ≡ true → (x : Node) → Partial c.job.n x
    → (day_of c).bound k x ≡ (leg_day_of c).bound k x + every_landing c

-- Nobody flies from a place to itself: with whatever costs on the diagonal of the rows, a day has the same figures, and the same nodes dominate.
abbrev pub DiagonalUnflown : Type 0
DiagonalUnflown =
    (c : Call) → cause c ≡ 0 → (costs : ℕ → ℕ → ℕ)
    → ((i j : ℕ) → i ≤ c.job.n → j ≤ c.job.n → i ≢ j → costs i j ≡ counted (ends_away c.job.bound) (flying c.job.n c.table) i j)
    → SameFigures c.job.n (day_on c.job.n (in_rows c.job.n costs)) (day_of c)

-- WHAT COMES BACK

-- An order that a report shows, finished or stopped, costs its legs and every landing.
abbrev pub OrderShownPays : Planner → Type 0
OrderShownPays P =
    (c : Call) (a : Answer) → P c a → ShowsOrder a.report
    → a.report.cost ≡ (leg_day_of c).cost (order_in c a.report) + every_landing c

-- So a finished run shows an order of the cheapest legs, of equals the smallest (request A.8), whatever the charges.
pub record CheapestLegs (c : Call) (a : Answer) : Type 0 where
  pub least : (y : Node) → In y (allowed_orders c) → (leg_day_of c).cost (order_in c a.report) ≤ (leg_day_of c).cost y
  pub smallest :
      (y : Node) → In y (allowed_orders c) → (leg_day_of c).cost y ≡ (leg_day_of c).cost (order_in c a.report)
      → NoLarger (order_in c a.report) y

abbrev pub CheapestByLegs : Planner → Type 0
CheapestByLegs P = (c : Call) (a : Answer) → P c a → Finishes a.report → CheapestLegs c a
