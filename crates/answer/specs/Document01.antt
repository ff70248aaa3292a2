-- What document 01 says of a run beside its definition, a type for each sentence, as in `Demands`; proofs/ has a theorem for each. What it says of the
-- bound that is tested against U has no object since request A.8: no bound ends a run.
--   FinishedIff, BranchedAreSteps, ContentsPlayNoPart    of a planner's answers
--   StatesBalance, ActiveNeverEmpty                      of every state of a run
--   BoundNeverFalls, BoundExact, CloseNotBelowPlain      of the lower bounds
use Rattle.std.specs.Prelude.{◌≡◌, List, ◌↔◌, ℕ, ◌+◌, ◌≤◌, T, length}
use Rattle.lists.specs.Lists.{In}
use Rattle.search.specs.Problem.{State}
use Rattle.orders.specs.Orders.{Node, complete, extensions}
use Rattle.days.specs.Days.{Closer}
use Rattle.answer.specs.Call.{Call, call_of, Answer}
use Rattle.answer.specs.Checks.{cause}
use Rattle.answer.specs.Answer.{problem_of, choices_of, StateOf}
use Rattle.answer.specs.Ends.{Finishes, made, FinishTestHolds, Ends, ComesTo}
use Rattle.answer.specs.Demands.{Planner, OneTable}

-- THE REPORT, THE POOL, ONE RUN

-- Number 0 with mark 0 comes when, and only when, the run comes to a state where a node is chosen of which the finish test holds; so a finished
-- run is never refused, nor stopped.
abbrev pub FinishedIff : Planner → Type 0
FinishedIff P = (c : Call) (a : Answer) → P c a → Finishes a.report ↔ ComesTo c FinishTestHolds

-- `branched` is how many steps the run made to the state that ended it.
abbrev pub BranchedAreSteps : Planner → Type 0
BranchedAreSteps P = (c : Call) (a : Answer) → P c a → (end : ComesTo c Ends) → a.report.branched ≡ made end.steps

-- What the pool holds before the run plays no part: the same job over a pool of the same length has the same report and, where no check refuses
-- it, leaves the same words.
abbrev pub ContentsPlayNoPart : Planner → Type 0
ContentsPlayNoPart P =
    (c : Call) (pool : List ℕ) (x y : Answer) → P c x → P (call_of c.job c.table c.start c.pairs c.budget pool) y → length pool ≡ length c.pool
    → (x.report ≡ y.report) × (cause c ≡ 0 → x.pool ≡ y.pool)

-- At every state of every run each generated node was branched, was eliminated or is active.
abbrev pub StatesBalance : Type 0
StatesBalance =
    (c : Call) → cause c ≡ 0 → (s : State Node) → StateOf c s
    → s.generated ≡ length s.branched + s.eliminated + length s.active

-- The active set is never empty.
abbrev pub ActiveNeverEmpty : Type 0
ActiveNeverEmpty = (c : Call) → cause c ≡ 0 → (s : State Node) → StateOf c s → (x : Node) × In x s.active

-- NODES: the lower bounds

-- A bound never falls when a node is extended, ..
abbrev pub BoundNeverFalls : Type 0
BoundNeverFalls =
    (c : Call) → cause c ≡ 0 → (x y : Node) → In y (extensions c.job.n x) → (choices_of c).bound x ≤ (choices_of c).bound y

-- .. equals the order's cost at a complete node, ..
abbrev pub BoundExact : Type 0
BoundExact = (c : Call) → cause c ≡ 0 → (x : Node) → T (complete c.job.n x) → (choices_of c).bound x ≡ (problem_of c).cost x

-- .. and close is never below plain: 1 never below 0 nor, on a day that ends away (request A.5), 3 below 2.
abbrev pub CloseNotBelowPlain : Type 0
CloseNotBelowPlain =
    (a b : Call) → OneTable a b → Closer b.job.bound a.job.bound → cause b ≡ 0 → (x : Node) → (choices_of a).bound x ≤ (choices_of b).bound x
