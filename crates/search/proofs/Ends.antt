-- A run ends. If a node weighs more than its children together, each step makes the active nodes lighter together, so fuel above their
-- weight is never used up: the general run is not `stuck`, and the run of document 01 not `unfinished`.
use mathlib.Core.Path.{◌≡◌, refl}
use mathlib.Core.List.{List}
use mathlib.Core.Logic.{◌⊎◌, inl, inr}
use mathlib.Core.Option.{Option}
use Prim.Native.Nat.{ℕ, zero, suc, ◌+◌, ◌≤◌, ◌<◌}
use native.Mathlib.Omega.{arith}
use Rattle.lists.specs.Lists.{sum}
use Rattle.lists.proofs.Tests.{ordered}
use Rattle.lists.proofs.Numbers.{sum-append, sum-keep}
use Rattle.search.specs.Problem.{Problem, Choices, State, start}
use Rattle.search.specs.Selection.{nothing, select_by, select}
use Rattle.search.specs.Run.{finished, unfinished, decide, next, run}
use Rattle.search.proofs.General.{Tree, Plan, Cut, kids, kids₃, others₃, kids₄, kids₅, others₆, move, Verdict, stop, pause, refuse, onward, stuck, verdict, obey, search}
use Rattle.search.proofs.Laws.{Weighs}
use Rattle.search.proofs.Pick.{picked_of, picked_sum}
use Rattle.search.proofs.Verdict.{Moved, onward_moved}
use Rattle.search.proofs.Plain.{tree, plan_of, cut_of, unfinished_stuck}

module _ {N : Type 0} (t : Tree N) (p : Plan N) (c : Cut N) (weight : N → ℕ) where
  -- the nodes that a step leaves are some of the others and some of the children
  pub move-sum :
      (s : State N) (b : N) (rest : List N)
      → sum weight (move t p c s b rest).active ≤ sum weight rest + sum weight (t.problem.children b)
  unfolding move others₆ kids₅ kids₄ others₃ kids₃ kids
  move-sum s b rest =
      let k₃ : sum weight (kids₃ t p c s b rest) ≤ sum weight (t.problem.children b) = sum-keep weight _ (kids t p c s b rest) in
      let k₄ : sum weight (kids₄ t p c s b rest) ≤ sum weight (kids₃ t p c s b rest) = sum-keep weight _ (kids₃ t p c s b rest) in
      let k₅ : sum weight (kids₅ t p c s b rest) ≤ sum weight (kids₄ t p c s b rest) = sum-keep weight _ (kids₄ t p c s b rest) in
      let o₃ : sum weight (others₃ t p c s b rest) ≤ sum weight rest = sum-keep weight _ rest in
      let o₆ : sum weight (others₆ t p c s b rest) ≤ sum weight (others₃ t p c s b rest) = sum-keep weight _ (others₃ t p c s b rest) in
      omega (arith, sum-append weight (others₆ t p c s b rest) (kids₅ t p c s b rest))

  module _ (weighs : Weighs t.problem weight) (pool : ℕ) where
    onward_lighter : {s s' : State N} → Moved t p c pool s s' → sum weight s'.active < sum weight s.active
    onward_lighter {s} {s'} m =
        rw (m.moves, picked_sum (picked_of p.rank p.late s.active m.b m.rest m.picks) weight)
        (omega (arith, move-sum s m.b m.rest, weighs m.b))

    pub search-ends : (fuel : ℕ) (s : State N) → sum weight s.active < fuel → (e : State N) → search t p c pool fuel s ≡ stuck e → ⊥
    unfolding search
    search-ends zero s h e q = omega arith
    search-ends (suc fuel) s h e q = go (verdict t p c pool s) refl q (λ s' k. search-ends fuel s' k e)
      where
        go :
            (v : Verdict N) → verdict t p c pool s ≡ v → obey t p c pool (search t p c pool fuel) s v ≡ stuck e
            → ((s' : State N) → sum weight s'.active < fuel → search t p c pool fuel s' ≡ stuck e → ⊥) → ⊥
        go stop o q again = let z : ◌≡◌ {A = ℕ} 0 1 = cc in omega arith
        go pause o q again = let z : ◌≡◌ {A = ℕ} 0 1 = cc in omega arith
        go refuse o q again = let z : ◌≡◌ {A = ℕ} 0 1 = cc in omega arith
        go (onward s') o q again =
            let k : sum weight s'.active < sum weight s.active = onward_lighter (onward_moved t p c pool s o) in
            again s' (omega arith) q

module _ {N : Type 0} (P : Problem N) (C : Choices N) (capacity : ℕ) where
  -- a selection that document 01 does not know ends the run at once
  unknown_selects : (k : ℕ) → 3 < k → (xs : List N) → select_by P C.bound k xs ≡ nothing
  unfolding select_by
  unknown_selects zero h xs = absurd (omega arith)
  unknown_selects (suc zero) h xs = absurd (omega arith)
  unknown_selects (suc (suc zero)) h xs = absurd (omega arith)
  unknown_selects (suc (suc (suc zero))) h xs = absurd (omega arith)
  unknown_selects (suc (suc (suc (suc k)))) h xs = refl

  unknown_finishes : 3 < C.selection → (fuel : ℕ) (s : State N) → run P C capacity (suc fuel) s ≡ finished s
  unfolding run next select decide
  unknown_finishes h fuel s = rw (unknown_selects C.selection h s.active)

  pub run_ends :
      {weight : N → ℕ} → Weighs P weight → (fuel : ℕ) (s : State N) → sum weight s.active < fuel → (e : State N)
      → run P C capacity fuel s ≡ unfinished e → ⊥
  run_ends {weight} weighs fuel s h e q = go fuel h q (ordered C.selection 3)
    where
      go :
          (fuel : ℕ) → sum weight s.active < fuel → run P C capacity fuel s ≡ unfinished e → (C.selection ≤ 3) ⊎ (3 < C.selection)
          → ⊥
      go fuel h q (inl known) =
          search-ends (tree P) (plan_of P C) (cut_of C) weight weighs capacity fuel s h e (unfinished_stuck P C capacity known fuel s e q)
      go zero h q (inr unknown) = omega arith
      go (suc fuel) h q (inr unknown) =
          let r : run P C capacity (suc fuel) s ≡ finished s = unknown_finishes unknown fuel s in
          let z : ◌≡◌ {A = ℕ} 0 1 = cc in
          omega arith

  -- from the start: fuel above the weight of the empty node
  pub start-ends :
      {weight : N → ℕ} → Weighs P weight → (fuel : ℕ) (best : Option N) → weight P.root < fuel → (e : State N)
      → run P C capacity fuel (start P best) ≡ unfinished e → ⊥
  unfolding start
  start-ends {weight} weighs fuel best h e q = run_ends weighs fuel (start P best) (omega arith) e q
