-- A call that uses no request's feature is answered as before the request: a type for each, over any planner; proofs/ has a theorem for each. Request A.8
-- changes the run of every call, so that what is said here, of its day, its children and its causes, is said over that run.
--   freely, answer_freely, NoPairsAsBefore    without request A.6: no pairs
--   later_cause                       the causes behind 5, which the requests before A.6 do not change
--   home_cause, EndsHomeAsBefore      without request A.5: no day that ends away
--   NoCharges, Uncharged, UnchargedByLegs    without request A.4: no landing charge
--   leg_cause₃, leg_table_cause, TableCausesAsBefore    the causes that look at a table, by document 01
--   leg_cause, AsDocument01, AcceptedBefore           without any of them: document 01's day and causes, within whatever budget
use Rattle.std.specs.Prelude.{◌≡◌, Bool, false, not, ◌||◌, List, [], ◌≢◌, ℕ, suc, ◌≤◌, ltb, eqb}
use Rattle.sizes.specs.Sizes.{dearest_leg}
use Rattle.lists.specs.Lists.{any, from}
use Rattle.search.specs.Problem.{Problem}
use Rattle.orders.specs.Orders.{Node, extensions}
use Rattle.days.specs.Days.{Day, problem_by}
use Rattle.stops.specs.Tables.{entry, charge, leg_rows}
use Rattle.stops.specs.Stops.{day_on}
use Rattle.answer.specs.Call.{Call, Answer}
use Rattle.answer.specs.declared.Job.{Job}
use Rattle.answer.specs.Checks.{cause₁, cause₂, cause₄, cause₅, or_later, table_cause, job_cause, pair_cause, pool_cause}
use Rattle.answer.specs.Answer.{day_of}
use Rattle.answer.specs.Demands.{Planner}
use Rattle.answer.specs.OnDay.{answer_by, answer_on}
use Rattle.answer.specs.Charges.{leg_day_of}
use Rattle.answer.specs.Away.{home_day_of}

-- NO PAIRS (request A.6)

-- document 01's search: a node is extended by each stop that it leaves
abbrev pub freely : ℕ → Day → Problem Node
freely n D = problem_by (extensions n) n D

abbrev pub answer_freely : Day → Call → ℕ → Answer
answer_freely D c = answer_by (freely c.job.n D) D c

-- With no pairs the search is that one, and the causes are those of the job and of the pool.
abbrev pub NoPairsAsBefore : Planner → Type 0
NoPairsAsBefore P =
    (c : Call) (a : Answer) → P c a → c.pairs ≡ []
    → a ≡ answer_freely (day_of c) c (job_cause c.job c.table c.start (pool_cause c.pool))

-- the causes behind 5
unfoldable pub later_cause : Call → ℕ
later_cause c = pair_cause c.job.n c.start c.pairs (pool_cause c.pool)

-- THE DAY ENDS AT HOME (request A.5)

-- cause 4 as it was: a bound above 1 is none
unfoldable pub home_cause₄ : Job → Bool
home_cause₄ job = ltb 3 job.selection || ltb 15 job.rules || ltb 1 job.bound

-- causes 4 and 5 with it; and all
unfoldable pub home_cause_behind : Call → ℕ → ℕ
home_cause_behind c later = or_later (home_cause₄ c.job) 4 (or_later (cause₅ c.job.n c.start) 5 later)

unfoldable pub home_cause : Call → ℕ
home_cause c = table_cause c.job.n c.table (home_cause_behind c (later_cause c))

-- neither of the request's two bounds
abbrev pub EndsHome : Call → Type 0
EndsHome c = (c.job.bound ≢ 2) × (c.job.bound ≢ 3)

abbrev pub EndsHomeAsBefore : Planner → Type 0
EndsHomeAsBefore P = (c : Call) (a : Answer) → P c a → EndsHome c → a ≡ answer_on (home_day_of c) c (home_cause c)

-- NO CHARGES (request A.4)

abbrev pub NoCharges : ℕ → List ℕ → Type 0
NoCharges n table = (j : ℕ) → j ≤ n → charge n table j ≡ 0

abbrev pub Uncharged : Call → Type 0
Uncharged c = NoCharges c.job.n c.table

-- Document 01's cause 3: a leg is too dear, or an entry on the diagonal is not 0. And the number of the first of causes 1 to 3 with it.
unfoldable pub leg_cause₃ : ℕ → List ℕ → Bool
leg_cause₃ n table = any (ltb dearest_leg) table || any (λ i. not (eqb (entry n table i i) 0)) (from 0 (suc n))

unfoldable pub leg_table_cause : ℕ → List ℕ → ℕ → ℕ
leg_table_cause n table later = or_later (cause₁ n) 1 (or_later (cause₂ n table) 2 (or_later (leg_cause₃ n table) 3 later))

-- Every call that looks at a table looks at it by `table_cause`: without charges, causes 1 to 3 are document 01's.
abbrev pub TableCausesAsBefore : Type 0
TableCausesAsBefore = (n : ℕ) (table : List ℕ) → NoCharges n table → (later : ℕ) → table_cause n table later ≡ leg_table_cause n table later

-- Wherever the day ends, the answer is then the one over the legs alone, by document 01's causes 1 to 3.
abbrev pub UnchargedByLegs : Planner → Type 0
UnchargedByLegs P =
    (c : Call) (a : Answer) → P c a → Uncharged c
    → a
    ≡ answer_on (leg_day_of c) c
    (leg_table_cause c.job.n c.table (or_later (cause₄ c.job) 4 (or_later (cause₅ c.job.n c.start) 5 (later_cause c))))

-- DOCUMENT 01

-- its causes 1 to 6, and its day: by the legs alone, from home and back
unfoldable pub leg_cause : Call → ℕ
leg_cause c = leg_table_cause c.job.n c.table (home_cause_behind c (pool_cause c.pool))

unfoldable pub document01_day : Call → Day
document01_day c = day_on c.job.n (leg_rows c.job.n false c.table)

-- With all charges 0, a day that ends at home and no pairs, every answer is the one over document 01's day, by its causes.
abbrev pub AsDocument01 : Planner → Type 0
AsDocument01 P =
    (c : Call) (a : Answer) → P c a → Uncharged c → EndsHome c → c.pairs ≡ [] → a ≡ answer_freely (document01_day c) c (leg_cause c)

-- So a call without pairs that document 01's checks let pass is answered as before.
abbrev pub AcceptedBefore : Planner → Type 0
AcceptedBefore P = (c : Call) (a : Answer) → P c a → c.pairs ≡ [] → leg_cause c ≡ 0 → a ≡ answer_freely (document01_day c) c 0
