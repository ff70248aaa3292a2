-- Request A.4 of the figures of a record, against those that the legs alone give: a type for each, proved in proofs/.
use Rattle.std.specs.Prelude.{◌≡◌, List, [], true, false, cond, ℕ, suc, ◌+◌, T}
use Rattle.lists.specs.Lists.{sum, from}
use Rattle.orders.specs.Orders.{complete}
use Rattle.stops.specs.Tables.{leg_rows, landing}
use Rattle.stops.specs.Bounds.{ends_away, is_close}
use Rattle.days.specs.Days.{Day}
use Rattle.stops.specs.Stops.{day_on}
use Rattle.stops.specs.declared.node_record.Record.{Record}
use Rattle.answer.specs.Checks.{job_cause}
use Rattle.answer.specs.declared.Job.{Job}
use Rattle.node_answers.specs.Nodes.{flown_stops, is_node}
use Rattle.node_answers.specs.Answers.{figures}

-- the day of a job by the legs alone, and what a landing counts on it
abbrev pub leg_day : Job → List ℕ → Day
leg_day job table = day_on job.n (leg_rows job.n (ends_away job.bound) table)

abbrev pub landed : Job → List ℕ → ℕ → ℕ
landed job table = landing job.n (ends_away job.bound) table

-- the path cost has a landing at each stop flown
abbrev pub FiguresPathPays : Type 0
FiguresPathPays =
    (x : Record) (job : Job) (table : List ℕ) → T (is_node job.n x) → job_cause job table [] 0 ≡ 0
    → (figures true x job table).path ≡ (leg_day job table).path (flown_stops x) + sum (landed job table) (flown_stops x)

-- a plain bound too and, once no stop is left, home's where the day ends there
abbrev pub FiguresPlainPays : Type 0
FiguresPlainPays =
    (x : Record) (job : Job) (table : List ℕ) → T (is_node job.n x) → job_cause job table [] 0 ≡ 0 → is_close job.bound ≡ false
    → (figures true x job table).bound
    ≡ (leg_day job table).bound job.bound (flown_stops x)
    + (sum (landed job table) (flown_stops x) + cond (complete job.n (flown_stops x)) (landed job table 0) 0)

-- a close bound has every landing, home's where the day ends there
abbrev pub FiguresClosePays : Type 0
FiguresClosePays =
    (x : Record) (job : Job) (table : List ℕ) → T (is_node job.n x) → job_cause job table [] 0 ≡ 0 → is_close job.bound ≡ true
    → (figures true x job table).bound
    ≡ (leg_day job table).bound job.bound (flown_stops x) + sum (landed job table) (from 0 (suc job.n))
