-- The turns of a run on records: what the planner's loop stands on from one turn to the next. `proofs/` shows that they are those of the
-- written run. These definitions are the code's own: a reader of the promise needs none of them.
--   records_of    a state with each node as its record
--   Running      the run goes on at a state, which the pool and the counts show
--   next_of       what comes next of it
--   Turned, Took    what a turn gives, and what it gives or is refused by
--   reported, places_of, finished_by, full_by, stopped_by    the report of a run that has ended, and by how it ended
--   links, layout_of, Roomy    the layout that a run begins with, by what its choices need, and an index with room for that
--   rows_by, Begins    the rows that a setting goes by, and what the turns begin with
--   Told, Settled, Ran    the turns have come to an end: what they tell of it, and how they leave the pool
--   Ended        what is returned and left in the pool is what the call's run ends with
--   report_in    the report that is returned, of a run or of a refusal
use Rattle.std.specs.Prelude.{◌≡◌, Bool, cond, ◌&&◌, ◌||◌, List, [], ◌++◌, map, reverse, ◌⊎◌, ℕ, ◌+◌, ◌-◌, ◌≤◌, ◌<◌, T, eqb, ltb, length, get_or, replicate, Result, Ok, Err}
use Rattle.std.proofs.Math.Option
use Rattle.sizes.specs.Sizes.{order_places, above_every_cost}
use Rattle.lists.specs.Lists.{from, padded, least}
use Rattle.search.specs.Problem.{State, start}
use Rattle.search.specs.Step.{on}
use Rattle.search.specs.Run.{Next, Steps, finish, halt, overflow, go, next}
use Rattle.orders.specs.Orders.{Node}
use Rattle.orders.specs.Pairs.{Allowed}
use Rattle.stops.specs.Tables.{rows}
use Rattle.stops.specs.Bounds.{ends_away}
use Rattle.stops.specs.Code.{empty_record}
use Rattle.stops.specs.declared.node_record.Record.{Record}
use Rattle.records.specs.Records.{stop_at, records_in}
use Rattle.records.specs.Code.{records}
use Rattle.answer.specs.Call.{Call, Answer, refusal}
use Rattle.answer.specs.declared.Report.{Report}
use Rattle.answer.specs.declared.refusal.Refusal.{Refusal}
use Rattle.answer.specs.Refusals.{number}
use Rattle.answer.specs.Answer.{given, outcome, ending}
use Rattle.children.specs.Code.{Table, Rows, pairs_by, problem_of, choices_of, encode_of}
use Rattle.children.specs.declared.best.Best.{Best}
use Rattle.children.specs.declared.setting.Setting.{Setting}
use Rattle.lanes.specs.Sizes.{blocks, index_words, first_shift, most_linked}
use Rattle.lanes.specs.declared.layout.Layout.{Layout}
use Rattle.step.specs.Code.{Shown, active_in, far_in}
use Rattle.step.specs.declared.Run.{Run}
use Rattle.planner.specs.declared.run.Turn.{Turn}
use Rattle.planner.specs.declared.run.Turn.TheVariants.{Finish, Stop, Full, Go}

unfoldable pub records_of : Setting → Table → State Node → State Record
records_of d t s = record {
  active = map (encode_of d t) s.active;
  branched = map (encode_of d t) s.branched;
  best = Option.map (encode_of d t) s.best;
  generated = s.generated;
  eliminated = s.eliminated;
  most = s.most;
}

-- the run of a setting from a starting order goes on: s is one of its states, and the pool, the index and r show it
pub record Running (d : Setting) (t : Table) (first w index : List ℕ) (r : Run) (s : State Node) : Type 0 where
  pub rows : Rows d t
  pub selects : d.selection ≤ 3
  pub starts : (first ≡ []) ⊎ Allowed d.n (pairs_by d) first
  pub steps : Steps (problem_of d t) (choices_of d t) (length (records w)) (start (problem_of d t) (given first)) s
  pub shows : Shown d w index r (records_of d t s)

-- what comes next of a state, in a pool of some words
abbrev pub next_of : Setting → Table → List ℕ → State Node → Next Node
next_of d t w s = next (problem_of d t) (choices_of d t) (length (records w)) s

-- a turn as the written run has it: the run is finished, or the budget is spent, or the pool is full, and the pool is as it was; or the pool shows
-- the next state
abbrev pub Turned : Setting → Table → List ℕ → List ℕ → List ℕ → State Node → Turn → Type 0
Turned d t w w' index' s Finish = (next_of d t w s ≡ finish) × (w' ≡ w)
Turned d t w w' index' s Stop = (next_of d t w s ≡ halt) × (w' ≡ w)
Turned d t w w' index' s Full = (next_of d t w s ≡ overflow) × (w' ≡ w)
Turned d t w w' index' s (Go r) = (s' : State Node) × (next_of d t w s ≡ go s') × Shown d w' index' r (records_of d t s')

-- a turn, or the refusal of a selection that there is not, by number 4, and the pool is as it was
abbrev pub Took : Setting → Table → List ℕ → List ℕ → List ℕ → State Node → Result Turn Refusal → Type 0
Took d t w w' index' s (Ok turn) = Turned d t w w' index' s turn
Took d t w w' index' s (Err e) = (3 < d.selection) × ((number e ≡ 4) × (w' ≡ w))

-- a report with a number, a mark, a cost, a floor and an order's places, and the counts of a run
unfoldable pub reported : ℕ → ℕ → ℕ → ℕ → List ℕ → Run → Report
reported number mark cost floor order r = record {
  number = number;
  mark = mark;
  cost = cost;
  floor = floor;
  order = order;
  branched = r.branched;
  generated = r.generated;
  eliminated = r.eliminated;
  active = r.layout.active;
  most = r.most;
}

-- the n stops that the words of U's order say
unfoldable pub places_of : ℕ → Best → List ℕ
places_of n best = padded order_places (map (stop_at best.first best.second) (from 0 n))

unfoldable pub finished_by : ℕ → Run → Report
finished_by n r = reported 0 0 r.best.upper 0 (places_of n r.best) r

unfoldable pub full_by : Run → Report
full_by r = reported 7 0 0 0 (replicate order_places 0) r

-- while no order is known, U is above every cost
unfoldable pub stopped_by : ℕ → ℕ → Run → Report
stopped_by n floor r =
    cond (eqb r.best.upper above_every_cost) (reported 0 1 0 floor (replicate order_places 0) r)
    (reported 0 1 r.best.upper floor (places_of n r.best) r)

-- the chains of a lane are kept if a rule looks along them, and if its records can be numbered by a word
unfoldable pub links : Bool → ℕ → Bool
links rule capacity = rule && ltb capacity most_linked

-- the layout of a pool that holds nothing yet: what a setting has kept
unfoldable pub layout_of : Setting → ℕ → Layout
layout_of d capacity = record {
  capacity = capacity;
  used = 0;
  active = 0;
  far = 0;
  shift = first_shift;
  ranked = ltb d.selection 3;
  linked = links (on 2 d.rules || on 8 d.rules) capacity;
  far_linked = links (on 4 d.rules) capacity;
}

-- what is kept in a layout has room in the index, which is all 0
pub record Roomy (p : Layout) (index : List ℕ) : Type 0 where
  pub minima : T p.ranked → blocks ≤ length index
  pub heads : T (p.linked || p.far_linked) → index_words ≤ length index
  pub clear : (k : ℕ) → get_or index k 0 ≡ 0

-- the rows of a table for a setting's day
abbrev pub rows_by : Setting → List ℕ → Table
rows_by d table = rows d.n (ends_away d.bound) table

-- rows that are in order, a selection that there is, a starting order, which respects the pairs, and an empty layout of a pool with room for e
pub record Begins (d : Setting) (t : Table) (first w : List ℕ) (p : Layout) : Type 0 where
  pub rows : Rows d t
  pub selects : d.selection ≤ 3
  pub starts : (first ≡ []) ⊎ Allowed d.n (pairs_by d) first
  pub room : 1 ≤ length (records w)
  pub empty : p ≡ layout_of d (length (records w))

-- the report of a state that pool and counts show, by what comes next of it
abbrev pub Told : Setting → List ℕ → Run → Next Node → Report → Type 0
Told d w r finish q = q ≡ finished_by d.n r
Told d w r halt q = q ≡ stopped_by d.n (least (λ (x : Record). x.bound) (active_in w r)) r
Told d w r overflow q = q ≡ full_by r
Told d w r (go s) q = ⊥

-- w' is what `settle` makes of w: the active nodes, the branched ones with the earliest first, empty records
pub record Settled (capacity : ℕ) (w : List ℕ) (r : Run) (w' : List ℕ) : Type 0 where
  pub kept : length w' ≡ length w
  pub layout :
      records w' ≡ active_in w r ++ (reverse (far_in w r) ++ replicate (capacity - (length (active_in w r) + r.layout.far)) empty_record)

-- from the pool w the turns came to a state that last and run show; it is told of by q, and last is settled to w'
pub record Ran (d : Setting) (t : Table) (first w : List ℕ) (q : Report) (w' : List ℕ) : Type 0 where
  pub last : List ℕ
  pub index : List ℕ
  pub run : Run
  pub state : State Node
  pub running : Running d t first last index run state
  pub told : Told d last run (next_of d t last state) q
  pub long : length last ≡ length w
  pub settled : Settled (records_in w) last run w'

abbrev pub Ended : Call → Report → List ℕ → Type 0
Ended c q pool = ◌≡◌ {A = Answer} (record { report = q; pool = pool }) (ending c (outcome c))

-- the report of a call that ran, or of its refusal
abbrev pub report_in : Result Report Refusal → Report
report_in (Ok q) = q
report_in (Err e) = refusal (number e)
