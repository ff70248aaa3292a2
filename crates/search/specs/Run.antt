-- The run: document 01, "One run" and "The pool"; the budget: document 02, A.3.
use Rattle.std.specs.Prelude.{◌≡◌, Bool, true, false, not, List, ◌++◌, ℕ, zero, suc, ◌≤◌, ◌<◌, T, ltb, length}
use Rattle.search.specs.Problem.{Problem, Choices, State}
use Rattle.search.specs.Selection.{Choice, nothing, chosen, select, finishes}
use Rattle.search.specs.Step.{on, step}

-- What the pool holds of a state: its active nodes in their order and, where rule 4 is on, its branched nodes behind them.
abbrev pub with_branched : {N : Type 0} → Bool → List N → List N → List N
with_branched true active branched = active ++ branched
with_branched false active branched = active

unfoldable pub held : {N : Type 0} → ℕ → State N → List N
held rules s = with_branched (on 4 rules) s.active s.branched

-- What comes next of a state: it is finished; the budget is spent (request A.3); the step would leave more nodes to keep than there are
-- records; or the state after the step.
pub data Next (N : Type 0) : Type 0 where
  finish : Next N
  halt : Next N
  overflow : Next N
  go : State N → Next N

-- How a run ends, and the state that then stands. `unfinished` never comes: the fuel of a run is above the number of all nodes.
pub data Outcome (N : Type 0) : Type 0 where
  finished : State N → Outcome N
  stopped : State N → Outcome N
  full : State N → Outcome N
  unfinished : State N → Outcome N

-- The finish test is asked first, so what does not fit the pool is never looked at in a finished run.
abbrev pub unless : {N : Type 0} → Bool → Next N → Next N
unless true next = finish
unless false next = next

-- A step is taken only while the budget allows one more (request A.3). This is asked behind the finish test and before the pool.
abbrev pub if_allowed : {N : Type 0} → Bool → Next N → Next N
if_allowed true next = next
if_allowed false next = halt

-- The pool is full where a step would leave more to hold than there are records; that step is not taken.
abbrev pub go_unless : {N : Type 0} → Bool → State N → Next N
go_unless true s = overflow
go_unless false s = go s

-- The parameters of a run: the problem, the choices, and the pool's capacity: how many records it has.
module _ {N : Type 0} (P : Problem N) (C : Choices N) (capacity : ℕ) where
  unfoldable pub fitting : State N → Next N
  fitting s = go_unless (ltb capacity (length (held C.rules s))) s

  -- A state with no active node ends the run; it never comes.
  unfoldable pub decide : State N → Choice N → Next N
  decide s nothing = finish
  decide s (chosen b rest) =
      unless (finishes P b) (if_allowed (ltb (length s.branched) C.budget) (fitting (step P C s b rest)))

  unfoldable pub next : State N → Next N
  next s = decide s (select P C s.active)

  abbrev pub follow : (State N → Outcome N) → State N → Next N → Outcome N
  follow more s finish = finished s
  follow more s halt = stopped s
  follow more s overflow = full s
  follow more s (go s') = more s'

  unfoldable pub run : ℕ → State N → Outcome N
  run zero s = unfinished s
  run (suc fuel) s = follow (run fuel) s (next s)

  -- The states of a run, for statements about it. One step that the budget allows and that fits: it leaves no more nodes to keep than there
  -- are records.
  pub record Stepped (s s' : State N) : Type 0 where
    pub b : N
    pub rest : List N
    pub selects : select P C s.active ≡ chosen b rest
    pub goes : T (not (finishes P b))
    pub allows : length s.branched < C.budget
    pub fits : length (held C.rules (step P C s b rest)) ≤ capacity
    pub steps : s' ≡ step P C s b rest

  -- Some of them, from s to e.
  pub data Steps (s : State N) : State N → Type 0 where
    none : Steps s s
    more : {s' e : State N} → Steps s s' → Stepped s' e → Steps s e

  -- The run would go on from s, but the budget is spent (request A.3).
  pub record Halts (s : State N) : Type 0 where
    pub b : N
    pub rest : List N
    pub selects : select P C s.active ≡ chosen b rest
    pub goes : T (not (finishes P b))
    pub spent : C.budget ≤ length s.branched

  -- The next step from s is allowed and does not fit: it would leave more nodes to keep than there are records.
  pub record Overflows (s : State N) : Type 0 where
    pub b : N
    pub rest : List N
    pub selects : select P C s.active ≡ chosen b rest
    pub goes : T (not (finishes P b))
    pub allows : length s.branched < C.budget
    pub outnumber : capacity < length (held C.rules (step P C s b rest))
