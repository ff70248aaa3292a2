-- No count of a run passes the weight of the root, if a node weighs more than its children together (counts-bounded): the counts of a
-- run have a bound that is known beforehand.
use mathlib.Core.Path.{◌≡◌, refl, subst}
use mathlib.Core.List.{List, [], ◌∷◌}
use mathlib.Core.Option.{Option}
use Prim.Native.Nat.{ℕ, ◌+◌, ◌-◌, ◌≤◌}
use native.Mathlib.Omega.{arith}
use lib.ListN.{length}
use Rattle.lists.specs.Lists.{sum}
use Rattle.search.specs.Problem.{Problem, Choices, State, start}
use Rattle.search.specs.Selection.{chosen}
use Rattle.search.specs.Run.{Steps}
use Rattle.search.proofs.General.{pick, kids, move, Reached, here, then}
use Rattle.search.proofs.Laws.{Weighs}
use Rattle.search.proofs.Pick.{picked_of, picked_sum}
use Rattle.search.proofs.Verdict.{Moved, onward_moved, reached_keeps}
use Rattle.search.proofs.Plain.{tree, plan_of, cut_of, adds}
use Rattle.search.proofs.Ends.{move-sum}
use Rattle.search.proofs.Counts.{Agree, counts_agree}
use Rattle.search.proofs.Outcome.{steps_reached}

pub record Bounded {N : Type 0} (limit : ℕ) (s : State N) : Type 0 where
  pub generated : s.generated ≤ limit
  pub branched : length s.branched ≤ limit
  pub eliminated : s.eliminated ≤ limit
  pub most : s.most ≤ limit
  pub active : length s.active ≤ limit

module _ {N : Type 0} (P : Problem N) (C : Choices N) (capacity : ℕ) {weight : N → ℕ} (weighs : Weighs P weight) where
  -- how many nodes can come of x yet
  abbrev coming : N → ℕ
  coming x = weight x - 1

  coming-sum : (xs : List N) → sum coming xs + length xs ≡ sum weight xs
  coming-sum [] = refl
  coming-sum (x ∷ xs) = omega (arith, weighs x, coming-sum xs)

  -- The generated nodes and those that can come of the active ones: a step generates the children of b, which with what can come of
  -- them are no more than what could come of b. So this sum never rises, and at the start it is the weight of the root.
  abbrev Foreseen : State N → Type 0
  Foreseen s = s.generated + sum coming s.active ≤ weight P.root

  move_foreseen :
      (s : State N) (b : N) (rest : List N) → pick (plan_of P C).late (plan_of P C).rank s.active ≡ chosen b rest → Foreseen s
      → Foreseen (move (tree P) (plan_of P C) (cut_of C) s b rest)
  unfolding move kids
  move_foreseen s b rest e h =
      omega (
        arith,
        weighs b,
        coming-sum (P.children b),
        picked_sum (picked_of (plan_of P C).rank (plan_of P C).late s.active b rest e) coming,
        move-sum (tree P) (plan_of P C) (cut_of C) coming s b rest,
      )

  move_most :
      (s : State N) (b : N) (rest : List N) → Agree (move (tree P) (plan_of P C) (cut_of C) s b rest) → s.most ≤ s.generated
      → (move (tree P) (plan_of P C) (cut_of C) s b rest).most ≤ (move (tree P) (plan_of P C) (cut_of C) s b rest).generated
  unfolding move
  move_most s b rest agree h = omega arith

  module _ (best : Option N) where
    reached_foreseen : {s : State N} → Reached (tree P) (plan_of P C) (cut_of C) capacity (start P best) s → Foreseen s
    unfolding start
    reached_foreseen r =
        reached_keeps (tree P) (plan_of P C) (cut_of C) capacity Foreseen
        (λ s b rest e goes h. move_foreseen s b rest e h) r (omega (arith, weighs P.root))

    -- at no time were more nodes active than are generated
    reached_most : {s : State N} → Reached (tree P) (plan_of P C) (cut_of C) capacity (start P best) s → s.most ≤ s.generated
    unfolding start
    reached_most here = omega arith
    reached_most (then {s'} {s''} r e) =
        let m : Moved (tree P) (plan_of P C) (cut_of C) capacity s' s'' = onward_moved (tree P) (plan_of P C) (cut_of C) capacity s' e in
        let a : Agree s'' = counts_agree (tree P) (plan_of P C) (cut_of C) (adds P) capacity best (then r e) in
        rw m.moves (move_most s' m.b m.rest (subst Agree m.moves a) (reached_most r))

    pub counts_bounded : C.selection ≤ 3 → {s : State N} → Steps P C capacity (start P best) s → Bounded (weight P.root) s
    counts_bounded known {s} steps =
        let r : Reached (tree P) (plan_of P C) (cut_of C) capacity (start P best) s = steps_reached P C capacity known steps in
        let a : Agree s = counts_agree (tree P) (plan_of P C) (cut_of C) (adds P) capacity best r in
        omega (arith, reached_foreseen r, reached_most r)
