-- A setting and a table's rows as a problem on records, and what the functions of this crate compute. `proofs/` shows that it is the
-- problem of their day, node by node. These definitions are the code's own: a reader of the promise needs none of them.
--   Rows                              what a run asks of both
--   setting_by, setting_of              the setting of a job with pairs and a budget, and that of a call
--   pairs_by                           the pairs of a setting
--   problem_of, choices_of, encode_of    the problem and the caller's choices on nodes, and the record of a node
--   children_of, root_of                the children of a record, in ascending stop order, and the record of e
--   rec_problem, rec_choices            the same problem and choices on records
--   born_of, Bears                     a record extended by a stop, with its bound, and that its words have room for it
--   Encoded                           a record is that of a node
--   Born                              the children of a record, each in the slot of its stop
--   IsBest, Learnt                    what stands for U and its order, and for them after some children
--   limit_of                           the limit of rule 1
--   survivors_of, survives             what rules 1, 2 and 4 leave of the children, pass by pass and by one test
use Rattle.std.specs.Prelude.{◌≡◌, Bool, true, false, not, cond, ◌&&◌, ◌||◌, List, map, ℕ, ◌+◌, ◌-◌, ◌^◌, ◌≤◌, ◌<◌, eqb, ltb, length}
use Rattle.std.proofs.Math.Option.{Option, none, some}
use Rattle.sizes.specs.Sizes.{most_stops, above_every_cost, no_limit}
use Rattle.lists.specs.Lists.{In, keep}
use Rattle.search.specs.Problem.{Problem, Choices}
use Rattle.search.specs.Step.{on, learn}
use Rattle.orders.specs.Orders.{Node, Partial}
use Rattle.orders.specs.Pairs.{Pair, Pairing, ready}
use Rattle.days.specs.Days.{problem, choices}
use Rattle.stops.specs.Stops.{day_on}
use Rattle.stops.specs.Code.{empty_record, Wide, extended, last_stop, rec_smaller, rec_dominates, stops_in, reckon_on, Cheap}
use Rattle.stops.specs.declared.node_record.Record.{Record}
use Rattle.pairs.specs.Code.{precedence_of, pairs_in}
use Rattle.records.specs.Code.{encode, in_slot}
use Rattle.lanes.specs.Sizes.{every_bound}
use Rattle.lanes.specs.Code.{is_within}
use Rattle.chains.specs.Code.{is_free}
use Rattle.answer.specs.Call.{Call}
use Rattle.answer.specs.declared.Job.{Job}
use Rattle.children.specs.declared.best.Best.{Best}
use Rattle.children.specs.declared.setting.Setting.{Setting}

abbrev pub Table : Type 0
Table = List (List ℕ)

abbrev pub setting_by : Job → List ℕ → ℕ → Setting
setting_by job pairs budget = record {
  n = job.n;
  selection = job.selection;
  rules = job.rules;
  bound = job.bound;
  budget = budget;
  precedence = precedence_of pairs;
}

abbrev pub setting_of : Call → Setting
setting_of c = setting_by c.job c.pairs c.budget

-- the pairs of a setting (request A.6)
abbrev pub pairs_by : Setting → List Pair
pairs_by d = pairs_in d.precedence

-- one stop to as many as there may be, no leg too dear, a bound that there is, and pairs with which every day can be flown
pub record Rows (d : Setting) (t : Table) : Type 0 where
  pub some : 1 ≤ d.n
  pub few : d.n ≤ most_stops
  pub cheap : Cheap t
  pub bound : d.bound ≤ 3
  pub pairing : Pairing d.n (pairs_by d)

unfoldable pub problem_of : Setting → Table → Problem Node
problem_of d t = problem d.n (pairs_by d) (day_on d.n t)

unfoldable pub choices_of : Setting → Table → Choices Node
choices_of d t = choices (day_on d.n t) d.selection d.rules d.bound d.budget

unfoldable pub encode_of : Setting → Table → Node → Record
encode_of d t x = encode d.n (day_on d.n t) d.bound x

-- the stops that a record leaves, as a set
unfoldable pub rest_of : Setting → Record → ℕ
rest_of d b = 2 ^ d.n - 1 - b.set

unfoldable pub bounded : ℕ → Record → Record
bounded v x = record { size = x.size; set = x.set; path = x.path; bound = v; first = x.first; second = x.second }

-- b extended by stop s, where the leg there and what the bound adds to the path cost are known
unfoldable pub born_of : Record → ℕ → ℕ → ℕ → Record
born_of b s leg ahead = bounded (b.path + leg + ahead) (extended b s leg)

-- b is at the place of its last stop
unfoldable pub child_of : Setting → Table → Record → ℕ → Record
child_of d t b s =
    born_of b s ((reckon_on t).further (last_stop b) s)
    ((reckon_on t).ahead d.bound ((reckon_on t).after (last_stop b) s) (stops_in (rest_of d b - 2 ^ (s - 1))))

unfoldable pub children_of : Setting → Table → Record → List Record
children_of d t b = map (child_of d t b) (ready (pairs_by d) (stops_in (rest_of d b)))

unfoldable pub root_of : Setting → Table → Record
root_of d t = bounded ((reckon_on t).ahead d.bound 0 (stops_in (2 ^ d.n - 1))) empty_record

unfoldable pub rec_problem : Setting → Table → Problem Record
rec_problem d t = record {
  root = root_of d t;
  children = children_of d t;
  complete = λ x. eqb x.size d.n;
  cost = λ x. x.bound;
  dominates = rec_dominates;
  smaller = rec_smaller;
  above = above_every_cost;
}

unfoldable pub rec_choices : Setting → Choices Record
rec_choices d = record { selection = d.selection; rules = d.rules; bound = λ x. x.bound; budget = d.budget }

pub record Encoded (d : Setting) (t : Table) (b : Record) : Type 0 where
  pub node : Node
  pub partial : Partial d.n node
  pub same : b ≡ encode_of d t node

-- what `child` asks, so that no word overflows: room for one stop more, and a bound that fits
pub record Bears (b : Record) (s leg ahead : ℕ) : Type 0 where
  pub wide : Wide b s leg
  pub fits : b.path + leg + ahead < 2 ^ 32

pub record Born (d : Setting) (t : Table) (b : Record) (born : ℕ) (kids : List Record) : Type 0 where
  pub small : born < 2 ^ most_stops
  pub stops : stops_in born ≡ ready (pairs_by d) (stops_in (rest_of d b))
  pub each : (s : ℕ) → In s (stops_in born) → in_slot kids s ≡ child_of d t b s
  pub room : most_stops ≤ length kids

abbrev pub IsBest : Best → Option Record → Type 0
IsBest b none = (b.upper ≡ above_every_cost) × (b.first ≡ 0) × (b.second ≡ 0)
IsBest b (some x) = (b.upper ≡ x.bound) × (b.first ≡ x.first) × (b.second ≡ x.second)

-- whatever order a stands for, b stands for U's order after the children xs
abbrev pub Learnt : Setting → Best → List Record → Best → Type 0
Learnt d a xs b = (t : Table) (o : Option Record) → IsBest a o → IsBest b (learn (rec_problem d t) o xs)

-- the limit of rule 1: U, or any where the rule is off or no order is known; below the bound of gone records
unfoldable pub limit_of : Bool → ℕ → ℕ
limit_of rule upper = cond rule (cond (ltb every_bound upper) every_bound upper) every_bound

-- a rule's pass, if the rule is on
abbrev pub passing : Bool → (Record → Bool) → List Record → List Record
passing true test xs = keep test xs
passing false test xs = xs

unfoldable pub survivors_of : ℕ → ℕ → List Record → List Record → List Record → List Record
survivors_of rules limit others far kids =
    passing (on 4 rules) (is_free no_limit far)
    (passing (on 2 rules) (is_free limit others) (passing (on 1 rules) (is_within limit) kids))

-- the test of a rule's pass: all pass if the rule is off
abbrev pub ruled : Bool → (Record → Bool) → Record → Bool
ruled rule test x = not rule || test x

-- the test of the three passes together, which keeps the same
abbrev pub survives : ℕ → ℕ → List Record → List Record → Record → Bool
survives rules limit others far x =
    ruled (on 1 rules) (is_within limit) x
    && (ruled (on 2 rules) (is_free limit others) x && ruled (on 4 rules) (is_free no_limit far) x)
