-- A call that every check lets pass is an instance of the theory: its problem and choices are lawful, some order is cheaper than
-- "above every cost", and its fuel is enough.
use mathlib.Core.Path.{◌≡◌, refl, ap, ◌∙◌}
use mathlib.Core.List.{List, [], ◌∷◌}
use mathlib.Core.Logic.{◌⊎◌, inl, inr}
use Prim.Native.Nat.{ℕ, suc, ◌-◌, ◌≤◌, ◌<◌}
use native.Mathlib.Omega.{arith}
use Rattle.sizes.specs.Sizes.{above_every_cost}
use Rattle.lists.specs.Lists.{sum}
use Rattle.search.specs.Problem.{State, start}
use Rattle.search.specs.Run.{finished, stopped, full, unfinished, finish, next, Halts, Overflows}
use Rattle.search.proofs.General.{Reached, verdict, stop}
use Rattle.search.proofs.Laws.{Lawful, BoundLaws, Manner, Solvable, Weighs, KnownIn, unknown, known}
use Rattle.search.proofs.Plain.{tree, plan_of, cut_of, verdict_of, plan_manner, next_is_verdict}
use Rattle.search.proofs.Ends.{start-ends}
use Rattle.search.proofs.Outcome.{finished_means, stopped_means, full_means, overflow_full, halt_stopped, finish_finished, steps_reached}
use Rattle.orders.specs.Orders.{Node, size, Order, nodes}
use Rattle.orders.proofs.Partial.{partial_root, partial_size}
use Rattle.orders.proofs.Order.{order-complete}
use Rattle.orders.specs.Pairs.{pairs_of, Pairing, Allowed}
use Rattle.orders.proofs.Pairs.{allowed_leads}
use Rattle.days.specs.Days.{Closer, problem, choices}
use Rattle.days.proofs.Walk.{Walk, walk_lawful, walk_bound, day_weighs, day_solvable}
use Rattle.stops.specs.Tables.{rows}
use Rattle.stops.specs.Bounds.{ends_away}
use Rattle.stops.specs.Stops.{day_on}
use Rattle.stops.specs.Code.{reckon_on, Cheap}
use Rattle.stops.proofs.LegTable.{rows_cheap}
use Rattle.stops.proofs.StopsWalk.{rows_walk, order_below}
use Rattle.records.specs.Records.{records_in}
use Rattle.answer.specs.Call.{Call}
use Rattle.answer.specs.Answer.{day_of, problem_of, choices_of, given, outcome, StateOf}
use Rattle.answer.specs.Demands.{OneTable, EndAlike}
use Rattle.answer.proofs.Passes.{Passes, pairs_pairing}

-- a node weighs as much as there are nodes below it, itself included
pub weight : Call → Node → ℕ
weight c x = nodes (c.job.n - size c.job.n x)

pub call_weighs : (c : Call) → Weighs (problem_of c) (weight c)
unfolding problem_of weight
call_weighs c = day_weighs c.job.n (pairs_of c.pairs) (day_of c)

-- e weighs less than the fuel
pub root_light : (c : Call) → weight c (problem_of c).root < suc (nodes c.job.n)
unfolding problem_of problem weight
root_light c =
    let e : size c.job.n [] ≡ 0 = partial_size c.job.n [] (partial_root c.job.n) in
    let z : c.job.n - size c.job.n [] ≡ c.job.n = omega arith in
    rw z (omega arith)

-- "the call ends": the fuel is never used up
pub outcome-ends : (c : Call) (s : State Node) → outcome c ≡ unfinished s → ⊥
unfolding outcome
outcome-ends c s e =
    start-ends (problem_of c) (choices_of c) (records_in c.pool) (call_weighs c) (suc (nodes c.job.n)) (given c.start) (root_light c) s e

pub finished_state : (c : Call) (s : State Node) → outcome c ≡ finished s → StateOf c s × (next (problem_of c) (choices_of c) (records_in c.pool) s ≡ finish)
unfolding outcome
finished_state c s e =
    finished_means (problem_of c) (choices_of c) (records_in c.pool) (suc (nodes c.job.n)) (start (problem_of c) (given c.start)) s e

pub stopped_state : (c : Call) (s : State Node) → outcome c ≡ stopped s → StateOf c s × Halts (problem_of c) (choices_of c) (records_in c.pool) s
unfolding outcome
stopped_state c s e =
    stopped_means (problem_of c) (choices_of c) (records_in c.pool) (suc (nodes c.job.n)) (start (problem_of c) (given c.start)) s e

pub full_state : (c : Call) (s : State Node) → outcome c ≡ full s → StateOf c s × Overflows (problem_of c) (choices_of c) (records_in c.pool) s
unfolding outcome
full_state c s e =
    full_means (problem_of c) (choices_of c) (records_in c.pool) (suc (nodes c.job.n)) (start (problem_of c) (given c.start)) s e

-- the active nodes at the start weigh less than the fuel
start_light : (c : Call) → sum (weight c) (start (problem_of c) (given c.start)).active < suc (nodes c.job.n)
unfolding start
start_light c = omega (arith, root_light c)

pub overflow_outcome : (c : Call) {s : State Node} → StateOf c s → Overflows (problem_of c) (choices_of c) (records_in c.pool) s → outcome c ≡ full s
unfolding outcome
overflow_outcome c steps over =
    overflow_full (problem_of c) (choices_of c) (records_in c.pool) (call_weighs c) (suc (nodes c.job.n)) (start_light c) steps over

pub halt_outcome : (c : Call) {s : State Node} → StateOf c s → Halts (problem_of c) (choices_of c) (records_in c.pool) s → outcome c ≡ stopped s
unfolding outcome
halt_outcome c steps halts =
    halt_stopped (problem_of c) (choices_of c) (records_in c.pool) (call_weighs c) (suc (nodes c.job.n)) (start_light c) steps halts

pub finish_outcome : (c : Call) {s : State Node} → StateOf c s → next (problem_of c) (choices_of c) (records_in c.pool) s ≡ finish → outcome c ≡ finished s
unfolding outcome
finish_outcome c steps end =
    finish_finished (problem_of c) (choices_of c) (records_in c.pool) (call_weighs c) (suc (nodes c.job.n)) (start_light c) steps end

-- the same states in the words of the general run
abbrev pub Reaches : Call → State Node → Type 0
Reaches c s =
    Reached (tree (problem_of c)) (plan_of (problem_of c) (choices_of c)) (cut_of (choices_of c)) (records_in c.pool)
    (start (problem_of c) (given c.start)) s

-- the day of a call is a walk
pub call_walk : (c : Call) → Walk c.job.n 3 (day_of c) (reckon_on (rows c.job.n (ends_away c.job.bound) c.table))
unfolding day_of
call_walk c = rows_walk c.job.n (rows c.job.n (ends_away c.job.bound) c.table)

-- and two calls over one table have one day, where both end at home or both away
pub one_day : (a b : Call) → OneTable a b → EndAlike a b → day_of a ≡ day_of b
unfolding day_of
one_day a b one ends = λ i. day_on (one.n i) (rows (one.n i) (ends i) (one.table i))

-- as they do where one's bound is closer than the other's
pub closer_ends : (j k : ℕ) → Closer j k → ends_away j ≡ ends_away k
unfolding ends_away
closer_ends j k (inl h) = rw (h.0, h.1) refl
closer_ends j k (inr h) = rw (h.0, h.1) refl

module _ (c : Call) (ok : Passes c) where
  pub call_cheap : Cheap (rows c.job.n (ends_away c.job.bound) c.table)
  call_cheap = rows_cheap c.job.n c.table ok.priced (ends_away c.job.bound)

  pub order_cheap : (x : Node) → Order c.job.n x → (day_of c).cost x < above_every_cost
  unfolding day_of
  order_cheap x o = order_below (rows c.job.n (ends_away c.job.bound) c.table) call_cheap c.job.n ok.priced.few x o

  pub call_pairing : Pairing c.job.n (pairs_of c.pairs)
  call_pairing = pairs_pairing ok.pairs

  pub known_cheap : (x : Node) → Order c.job.n x → (problem_of c).cost x < above_every_cost
  unfolding problem_of problem
  known_cheap = order_cheap

  pub call_lawful : Lawful (tree (problem_of c)) (size c.job.n) c.job.n
  unfolding problem_of
  call_lawful = walk_lawful (call_walk c) (pairs_of c.pairs) ok.some

  pub bound_laws : BoundLaws (tree (problem_of c)) (choices_of c).bound
  unfolding problem_of choices_of choices
  bound_laws = walk_bound (call_walk c) (pairs_of c.pairs) c.job.bound ok.bound

  pub selection_small : (choices_of c).selection ≤ 3
  unfolding choices_of choices
  selection_small = ok.selection

  pub call_manner : Manner (tree (problem_of c)) (plan_of (problem_of c) (choices_of c)) (choices_of c).bound
  call_manner = plan_manner (problem_of c) (choices_of c) selection_small

  pub call_solvable : Solvable (problem_of c)
  unfolding problem_of
  call_solvable = day_solvable c.job.n (pairs_of c.pairs) (day_of c) call_pairing (λ x a. order_cheap x a.order)

  pub start_known : KnownIn (problem_of c) (given c.start)
  unfolding problem_of problem
  start_known = go c.start ok.start
    where
      go : (x : List ℕ) → (x ≡ []) ⊎ Allowed c.job.n (pairs_of c.pairs) x → KnownIn (problem_of c) (given x)
      go [] h = unknown
      go (s ∷ x) (inl e) = absurd (let z : ◌≡◌ {A = ℕ} 0 1 = cc in omega arith)
      go (s ∷ x) (inr a) =
          known (s ∷ x) (order-complete c.job.n (s ∷ x) a.order) (allowed_leads call_pairing (problem_of c) (λ y. refl) (s ∷ x) a)

  pub state_reached : {s : State Node} → StateOf c s → Reaches c s
  state_reached steps = steps_reached (problem_of c) (choices_of c) (records_in c.pool) selection_small steps

  pub finish_stops :
      (s : State Node) → next (problem_of c) (choices_of c) (records_in c.pool) s ≡ finish
      → verdict (tree (problem_of c)) (plan_of (problem_of c) (choices_of c)) (cut_of (choices_of c)) (records_in c.pool) s ≡ stop
  finish_stops s e = next_is_verdict (problem_of c) (choices_of c) (records_in c.pool) selection_small s ∙ ap verdict_of e
