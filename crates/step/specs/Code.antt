-- A step on records. `proofs/` shows that it is the written step of crate `search`, node by node. These definitions are the code's own: a
-- reader of the promise needs none of them.
--   Shown                       the state that a run, the pool's words and the index show
--   Ready, Expansion, Stepping  what a step asks, what its parts 1 to 5 give, and what it gives
--   node_at, rest_at              the node at a place, and the other active ones
--   change_of, far_after          what parts 6 and 7 go by, and the branched records held afterwards
--   step_of, run_after            the written step, and the run after it
use Rattle.std.specs.Prelude.{◌≡◌, Bool, true, false, cond, ◌&&◌, List, [], reverse, ℕ, ◌+◌, ◌-◌, ◌^◌, ◌≤◌, ◌<◌, max, T, ltb, length, get_or, Option, Some, None}
use Rattle.lists.specs.Lists.{In}
use Rattle.search.specs.Problem.{State}
use Rattle.search.specs.Step.{on, step}
use Rattle.search.specs.Run.{held}
use Rattle.stops.specs.Code.{empty_record}
use Rattle.stops.specs.declared.node_record.Record.{Record}
use Rattle.records.specs.Code.{records, Thinned}
use Rattle.lanes.specs.Code.{sized, is_live, live_of, others_of, far_of}
use Rattle.lanes.specs.declared.layout.Layout.{Layout}
use Rattle.pool.specs.Code.{Laid}
use Rattle.children.specs.Code.{Table, Rows, Encoded, Born, children_of, rec_problem, rec_choices, IsBest, Learnt, limit_of, survives}
use Rattle.children.specs.declared.best.Best.{Best}
use Rattle.children.specs.declared.setting.Setting.{Setting}
use Rattle.replacement.specs.declared.change.Change.{Change}
use Rattle.step.specs.declared.Expanded.{Expanded}
use Rattle.step.specs.declared.Run.{Run}

-- the branched nodes that the pool holds, latest first
abbrev pub held_of : Bool → List Record → List Record
held_of true branched = reverse branched
held_of false branched = []

-- the active nodes of a run, and the branched ones that the pool holds
abbrev pub active_in : List ℕ → Run → List Record
active_in w r = live_of r.layout.used (records w)

abbrev pub far_in : List ℕ → Run → List Record
far_in w r = far_of r.layout.far (records w)

-- minima are kept where the selection looks at them
pub record Shown (d : Setting) (w index : List ℕ) (r : Run) (s : State Record) : Type 0 where
  pub laid : Laid (records w) r.layout index
  pub ranks : d.selection < 3 → T r.layout.ranked
  pub active : active_in w r ≡ s.active
  pub active_count : r.layout.active ≡ length s.active
  pub far : far_in w r ≡ held_of (on 4 d.rules) s.branched
  pub far-count : r.layout.far ≡ length (held_of (on 4 d.rules) s.branched)
  pub best : IsBest r.best s.best
  pub branched : r.branched ≡ length s.branched
  pub generated : r.generated ≡ s.generated
  pub eliminated : r.eliminated ≡ s.eliminated
  pub most : r.most ≡ s.most

-- the node at place i, and the other active ones
abbrev pub node_at : List ℕ → ℕ → Record
node_at w i = sized (get_or (records w) i empty_record)

abbrev pub rest_at : List ℕ → Run → ℕ → List Record
rest_at w r i = others_of r.layout.used i (records w)

-- what a step asks: at i stands an active node that is not complete; under rule 1 no active bound is above U; branched records are held under
-- rule 4 alone; and the counts have room
pub record Ready (d : Setting) (t : Table) (w index : List ℕ) (i : ℕ) (r : Run) : Type 0 where
  pub rows : Rows d t
  pub laid : Laid (records w) r.layout index
  pub counted : r.layout.active ≡ length (active_in w r)
  pub inside : i < r.layout.used
  pub live : is_live (get_or (records w) i empty_record) ≡ true
  pub encoded : Encoded d t (node_at w i)
  pub partial : (node_at w i).size < d.n
  pub tidy : T (on 1 d.rules) → (x : Record) → In x (active_in w r) → x.bound ≤ r.best.upper
  pub unheld : on 4 d.rules ≡ false → r.layout.far ≡ 0
  pub room : r.generated + r.eliminated + r.branched < 2 ^ 62

-- what parts 1 to 5 give: the children in their slots, U and the limit of rule 1 after part 2, and the survivors
pub record Expansion (d : Setting) (t : Table) (w : List ℕ) (b : Record) (r : Run) (e : Expanded) (kids : List Record) : Type 0 where
  pub children : Born d t b e.born kids
  pub learnt : Learnt d r.best (children_of d t b) e.best
  pub limited : e.limit ≡ limit_of (on 1 d.rules) e.best.upper
  pub surviving : Thinned (survives d.rules e.limit (active_in w r) (far_in w r)) kids e.born e.alive

-- how many branched records stand at the far end afterwards, and what parts 6 and 7 go by
abbrev pub far_after : Setting → Run → ℕ
far_after d r = cond (on 4 d.rules) (r.layout.far + 1) 0

abbrev pub change_of : Setting → Run → Expanded → Change
change_of d r e = record {
  limit = e.limit;
  alive = e.alive;
  taking = cond (on 8 d.rules) e.alive 0;
  fell = on 1 d.rules && ltb e.best.upper r.best.upper;
  far = far_after d r;
}

-- the written step of a node and the other active ones
unfoldable pub step_of : Setting → Table → Record → List Record → State Record → State Record
step_of d t b rest s = step (rec_problem d t) (rec_choices d) s b rest

-- a run after a step that generated some children and left the pool in some layout
unfoldable pub run_after : Run → Best → ℕ → Layout → Run
run_after r best generated layout = record {
  layout = layout;
  best = best;
  branched = r.branched + 1;
  generated = r.generated + generated;
  eliminated = r.eliminated + (r.layout.active - 1 + generated - layout.active);
  most = max r.most layout.active;
}

-- what a step gives, of any state that was shown: the nodes to keep would outnumber the records, and the pool is as it was; or they
-- do not, and what is shown is the state after the step
abbrev pub Stepping : Setting → Table → Record → List Record → List ℕ → List ℕ → List ℕ → State Record → Option Run → Type 0
Stepping d t b rest w w' index' s None = (length (records w) < length (held d.rules (step_of d t b rest s))) × (w' ≡ w)
Stepping d t b rest w w' index' s (Some r) =
    (length (held d.rules (step_of d t b rest s)) ≤ length (records w)) × Shown d w' index' r (step_of d t b rest s)
