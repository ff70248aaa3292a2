-- The run in the form that the theory uses. specs/ has the run that document 01 writes; `Plain` shows that it is this one.
--   Tree    what is searched: a problem, with `with_dead`
--   Plan    what compared jobs share: one selection by rank with a side, and the dominance rules
--   Cut     what compared jobs may differ in: rule 1, the bound, the budget
-- `allows` is the budget of document 02, A.3: whether another branching is allowed after so many. The place for a later request: `with_dead`
-- (A.9: a count with the dead children of b added). As yet there are none.
-- Definitions only; laws are in `Laws`.
use mathlib.Core.Path.{◌≡◌}
use mathlib.Core.Bool.{Bool, true, false, ◌&&◌, cond}
use mathlib.Core.List.{List, [], ◌∷◌, ◌++◌}
use mathlib.Core.Option.{Option}
use Prim.Native.Nat.{ℕ, zero, suc, ◌+◌, max}
use lib.Dec.{leb, ltb}
use lib.ListN.{length}
use Rattle.lists.specs.Lists.{any}
use Rattle.search.specs.Problem.{Problem, State, upper}
use Rattle.search.specs.Selection.{Choice, nothing, chosen}
use Rattle.search.specs.Step.{survivors, lost, learn}
use Rattle.search.specs.Run.{with_branched}
use Rattle.search.specs.Examples

pub record Tree (N : Type 0) : Type 0 where
  pub problem : Problem N
  pub with_dead : N → ℕ → ℕ

pub record Plan (N : Type 0) : Type 0 where
  -- the node of least rank is chosen: the latest of them, or the earliest
  pub late : Bool
  pub rank : N → ℕ
  pub rule2 : Bool
  pub rule4 : Bool
  pub rule8 : Bool

pub record Cut (N : Type 0) : Type 0 where
  pub rule1 : Bool
  pub bound : N → ℕ
  pub allows : ℕ → Bool

-- x against the choice c made behind it: whether c's node goes before x
unfoldable pub beats : {N : Type 0} → Bool → (N → ℕ) → N → N → Bool
beats late rank y x = cond late (leb (rank y) (rank x)) (ltb (rank y) (rank x))

unfoldable pub prefer : {N : Type 0} → Bool → N → List N → N → List N → Choice N
prefer true x xs y ys = chosen y (x ∷ ys)
prefer false x xs y ys = chosen x xs

unfoldable pub against : {N : Type 0} → Bool → (N → ℕ) → N → List N → Choice N → Choice N
against late rank x xs nothing = chosen x xs
against late rank x xs (chosen y ys) = prefer (beats late rank y x) x xs y ys

unfoldable pub pick : {N : Type 0} → Bool → (N → ℕ) → List N → Choice N
pick late rank [] = nothing
pick late rank (x ∷ xs) = against late rank x xs (pick late rank xs)

-- x is taken by a dominance rule whose dominators are ws
unfoldable pub taken : {N : Type 0} → Problem N → Bool → List N → N → Bool
taken P rule ws x = rule && any (λ w. P.dominates w x) ws

-- x is thrown out by rule 1 at the upper cost u
unfoldable pub over : {N : Type 0} → Cut N → ℕ → N → Bool
over c u x = c.rule1 && ltb u (c.bound x)

module _ {N : Type 0} (t : Tree N) (p : Plan N) (c : Cut N) (s : State N) (b : N) (rest : List N) where
  unfoldable pub kids : List N
  kids = t.problem.children b

  unfoldable pub learnt : Option N
  learnt = learn t.problem s.best kids

  unfoldable pub kids₃ : List N
  kids₃ = survivors (over c (upper t.problem learnt)) kids

  unfoldable pub others₃ : List N
  others₃ = survivors (over c (upper t.problem learnt)) rest

  unfoldable pub kids₄ : List N
  kids₄ = survivors (taken t.problem p.rule2 others₃) kids₃

  unfoldable pub kids₅ : List N
  kids₅ = survivors (taken t.problem p.rule4 s.branched) kids₄

  unfoldable pub others₆ : List N
  others₆ = survivors (taken t.problem p.rule8 kids₅) others₃

  unfoldable pub move : State N
  move = record {
    active = others₆ ++ kids₅;
    branched = s.branched ++ (b ∷ []);
    best = learnt;
    generated = t.with_dead b (s.generated + length kids);
    eliminated =
        t.with_dead b
        (s.eliminated + lost (over c (upper t.problem learnt)) kids + lost (over c (upper t.problem learnt)) rest
        + lost (taken t.problem p.rule2 others₃) kids₃ + lost (taken t.problem p.rule4 s.branched) kids₄
        + lost (taken t.problem p.rule8 kids₅) others₃);
    most = max s.most (length (others₆ ++ kids₅));
  }

pub data Verdict (N : Type 0) : Type 0 where
  stop : Verdict N
  pause : Verdict N
  refuse : Verdict N
  onward : State N → Verdict N

-- How a run ends, and the state that then stands. `stuck` never comes: the fuel was used up.
pub data Result (N : Type 0) : Type 0 where
  done : State N → Result N
  paused : State N → Result N
  overfull : State N → Result N
  stuck : State N → Result N

abbrev pub stop_if : {N : Type 0} → Bool → Verdict N → Verdict N
stop_if true v = stop
stop_if false v = v

abbrev pub allowed_if : {N : Type 0} → Bool → Verdict N → Verdict N
allowed_if true v = v
allowed_if false v = pause

abbrev pub refuse_if : {N : Type 0} → Bool → State N → Verdict N
refuse_if true s = refuse
refuse_if false s = onward s

module _ {N : Type 0} (t : Tree N) (p : Plan N) (c : Cut N) (pool : ℕ) where
  -- the nodes that a state keeps
  unfoldable pub kept : State N → List N
  kept s = with_branched p.rule4 s.active s.branched

  unfoldable pub verdict_on : State N → Choice N → Verdict N
  verdict_on s nothing = stop
  verdict_on s (chosen b rest) =
      stop_if (t.problem.complete b)
      (allowed_if (c.allows (length s.branched))
      (refuse_if (ltb pool (length (kept (move t p c s b rest)))) (move t p c s b rest)))

  unfoldable pub verdict : State N → Verdict N
  verdict s = verdict_on s (pick p.late p.rank s.active)

  abbrev pub obey : (State N → Result N) → State N → Verdict N → Result N
  obey more s stop = done s
  obey more s pause = paused s
  obey more s refuse = overfull s
  obey more s (onward s') = more s'

  unfoldable pub search : ℕ → State N → Result N
  search zero s = stuck s
  search (suc fuel) s = obey (search fuel) s (verdict s)

  -- s' is reached from s by steps, each of which was allowed and fitted the pool
  pub data Reached (s : State N) : State N → Type 0 where
    here : Reached s s
    then : {s' s'' : State N} → Reached s s' → verdict s' ≡ onward s'' → Reached s s''
