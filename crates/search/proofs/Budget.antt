-- The budget of document 02, A.3. A step looks neither at the budget nor at the pool: these only say where a run breaks off. So runs that
-- differ in nothing else go through the same states, one of them at least as far as the other.
--   with_budget                       choices with another budget
--   stepped_adds                     a step branches one node
--   steps_within, halts_exactly      no state has more branchings than the budget; where the budget stops a run, there are exactly as many
--   best_never_dearer                once an order is known, one is known that costs no more
--   best_never_worse                 and where it costs the same, it is no larger (request A.8)
--   halts_active                     where the budget stops a run, a node is active
--   least_never_falls                the least bound among active nodes does not fall
--   larger_same                      a run that is not stopped ends the same under a larger budget
--   stopped_after                    the state at which a larger budget stops comes after every state of the run with the smaller one
use mathlib.Core.Path.{◌≡◌, refl, ap, sym, ◌∙◌, subst}
use mathlib.Core.Bool.{Bool, true, false}
use mathlib.Core.List.Memᴰ
use mathlib.Core.List.{List, [], ◌∷◌}
use mathlib.Core.Logic.{◌⊎◌, inl, inr}
use mathlib.Core.Option.{Option, some}
use Prim.Native.Nat.{ℕ, zero, suc, ◌≤◌, ◌<◌}
use native.Mathlib.Omega.{arith}
use lib.Dec.{T, ltb}
use lib.ListN.{length, length-append}
use Rattle.lists.specs.Lists.{In, least}
use Rattle.lists.proofs.Tests.{tests, ordered}
use Rattle.lists.proofs.Numbers.{least_le, least_in}
use Rattle.search.specs.Problem.{Problem, Choices, State, upper, start}
use Rattle.search.specs.Selection.{Choice, nothing, chosen, select, finishes}
use Rattle.search.specs.Step.{learn, children₁, best₂, over₃, children₃, rest₃, dominated₄, children₄, dominated₅, children₅, dominated₆, rest₆, active₇, step}
use Rattle.search.specs.Run.{Next, finish, halt, overflow, go, stopped, unless, if_allowed, fitting, decide, next, follow, run, Stepped, Steps, none, more, Halts}
use Rattle.search.proofs.General.{move}
use Rattle.search.proofs.Pick.{Picked, picked_of, picked_in, rest_in}
use Rattle.search.proofs.Verdict.{reached_keeps}
use Rattle.search.proofs.Laws.{Le, Ties}
use Rattle.search.proofs.Values.{better-cost, le_refl, le_trans}
use Rattle.search.proofs.Learn.{learn_keeps, learn_le}
use Rattle.search.proofs.Move.{next_active}
use Rattle.search.proofs.PlainSelection.{select_is_pick}
use Rattle.search.proofs.Plain.{tree, plan_of, cut_of}
use Rattle.search.proofs.Outcome.{steps_reached}

abbrev pub with_budget : {N : Type 0} → Choices N → ℕ → Choices N
with_budget C k = record { selection = C.selection; rules = C.rules; bound = C.bound; budget = k }

module _ {N : Type 0} (P : Problem N) (C : Choices N) (capacity : ℕ) where
  pub stepped_adds : {s s' : State N} → Stepped P C capacity s s' → length s'.branched ≡ suc (length s.branched)
  unfolding step
  stepped_adds {s} h = rw h.steps (omega (arith, length-append s.branched (h.b ∷ [])))

  steps_grow : {s e : State N} → Steps P C capacity s e → length s.branched ≤ length e.branched
  steps_grow none = omega arith
  steps_grow (more r h) = omega (arith, steps_grow r, stepped_adds h)

  pub steps_within : {s e : State N} → Steps P C capacity s e → length s.branched ≤ C.budget → length e.branched ≤ C.budget
  steps_within none low = low
  steps_within (more r h) low = omega (arith, stepped_adds h)

  pub halts_exactly :
      (best : Option N) {e : State N} → Steps P C capacity (start P best) e → Halts P C capacity e → length e.branched ≡ C.budget
  unfolding start
  halts_exactly best r h = omega (arith, steps_within r (omega arith))

  pub best_never_dearer :
      {s e : State N} → Steps P C capacity s e → (x : N) → s.best ≡ some x → (y : N) × (e.best ≡ some y) × (P.cost y ≤ P.cost x)
  unfolding step best₂ children₁
  best_never_dearer none x q = (x, q, omega arith)
  best_never_dearer (more {s'} r h) x q =
      rw h.steps
      (learn_keeps P (λ o. (y : N) × (o ≡ some y) × (P.cost y ≤ P.cost x)) s'.best (P.children h.b) (best_never_dearer r x q)
      (λ o c m whole first h.
      (let k : upper P o ≡ P.cost h.0 = ap (upper P) h.1 in (c, refl, omega (arith, better-cost P c o first)))))

  pub best_never_worse : Ties P → {s e : State N} → Steps P C capacity s e → Le P e.best s.best
  unfolding step best₂ children₁
  best_never_worse ties {s} none = le_refl ties s.best
  best_never_worse ties {s} (more {s'} r h) =
      rw h.steps
      (le_trans ties (learn P s'.best (P.children h.b)) s'.best s.best (learn_le ties s'.best (P.children h.b))
      (best_never_worse ties r))

  module _ (known : C.selection ≤ 3) where
    pub halts_active : {e : State N} (h : Halts P C capacity e) → In h.b e.active
    unfolding select
    halts_active {e} h =
        picked_in
        (picked_of (plan_of P C).rank (plan_of P C).late e.active h.b h.rest
        (sym (select_is_pick P C.bound C.selection known e.active) ∙ h.selects))

    module _ (grows : (b c : N) → In c (P.children b) → C.bound b ≤ C.bound c) where
      -- no active node's bound is below f
      abbrev Floor : ℕ → State N → Type 0
      Floor f s = (x : N) → In x s.active → f ≤ C.bound x

      -- after a step, an active node is one that was active, or a child of one
      move_keeps :
          (f : ℕ) (s : State N) (b : N) (rest : List N) → Picked (plan_of P C).rank s.active b rest → Floor f s
          → Floor f (move (tree P) (plan_of P C) (cut_of C) s b rest)
      move_keeps f s b rest p h x m = at (next_active (tree P) (plan_of P C) (cut_of C) s b rest x m)
        where
          at : In x rest ⊎ In x (P.children b) → f ≤ C.bound x
          at (inl i) = h x (rest_in p x i)
          at (inr i) = omega (arith, grows b x i, h b (picked_in p))

      floor_never_falls : (f : ℕ) {s e : State N} → Steps P C capacity s e → Floor f s → Floor f e
      floor_never_falls f r =
          reached_keeps (tree P) (plan_of P C) (cut_of C) capacity (Floor f)
          (λ s b rest e goes h. move_keeps f s b rest (picked_of (plan_of P C).rank (plan_of P C).late s.active b rest e) h)
          (steps_reached P C capacity known r)

      pub least_never_falls :
          {s e : State N} → Steps P C capacity s e → (x : N) → In x e.active
          → least C.bound s.active ≤ least C.bound e.active
      least_never_falls {s} {e} r x m = at e.active m (floor_never_falls f r (least_le C.bound s.active))
        where
          f : ℕ
          f = least C.bound s.active

          at : (xs : List N) → In x xs → ((y : N) → In y xs → f ≤ C.bound y) → f ≤ least C.bound xs
          at [] m low = absurd (Memᴰ.not-nil m)
          at (y ∷ ys) m low = let (z, i, q) = least_in C.bound y ys in omega (arith, low z i)

-- Two runs: one by C in a pool of `capacity` records, one by D, which is C with the budget k, in a pool of q.
module _ {N : Type 0} (P : Problem N) (C : Choices N) (capacity k : ℕ) where
  abbrev D : Choices N
  D = with_budget C k

  step_same : (s : State N) (b : N) (rest : List N) → step P D s b rest ≡ step P C s b rest
  unfolding step active₇ rest₆ dominated₆ children₅ dominated₅ children₄ dominated₄ rest₃ children₃ over₃ best₂ children₁
  step_same s b rest = refl

  -- Unless the budget of C is spent, the same comes next under a larger one.
  next-same : C.budget ≤ k → (s : State N) → (next P C capacity s ≡ halt) ⊎ (next P D capacity s ≡ next P C capacity s)
  unfolding next decide fitting select finishes
  next-same longer s = at (select P C s.active)
    where
      at : (c : Choice N) → (decide P C capacity s c ≡ halt) ⊎ (decide P D capacity s c ≡ decide P C capacity s c)
      at nothing = inr refl
      at (chosen b rest) =
          rw step_same
          (cases (finishes P b) (ltb (length s.branched) C.budget) (ltb (length s.branched) k) (λ h. omega (arith, tests)))
        where
          after : Next N
          after = fitting P C capacity (step P C s b rest)

          cases :
              (f a a' : Bool) → (T a → T a')
              → (unless f (if_allowed a after) ≡ halt) ⊎ (unless f (if_allowed a' after) ≡ unless f (if_allowed a after))
          cases true a a' h = inr refl
          cases false false a' h = inl refl
          cases false true true h = inr refl
          cases false true false h = absurd (h tt)

  pub larger_same :
      C.budget ≤ k → (fuel : ℕ) (s : State N) → ((e : State N) → run P C capacity fuel s ≡ stopped e → ⊥)
      → run P D capacity fuel s ≡ run P C capacity fuel s
  unfolding run
  larger_same longer zero s h = refl
  larger_same longer (suc fuel) s h = at (next-same longer s) (larger_same longer fuel)
    where
      Again : Type 0
      Again = (s' : State N) → ((e : State N) → run P C capacity fuel s' ≡ stopped e → ⊥) → run P D capacity fuel s' ≡ run P C capacity fuel s'

      cases :
          (n : Next N) → ((e : State N) → follow P C capacity (run P C capacity fuel) s n ≡ stopped e → ⊥) → Again
          → follow P D capacity (run P D capacity fuel) s n ≡ follow P C capacity (run P C capacity fuel) s n
      cases finish h again = refl
      cases halt h again = refl
      cases overflow h again = refl
      cases (go s') h again = again s' h

      at :
          (next P C capacity s ≡ halt) ⊎ (next P D capacity s ≡ next P C capacity s) → Again
          → run P D capacity (suc fuel) s ≡ run P C capacity (suc fuel) s
      at (inl e) again = absurd (h s (rw e))
      at (inr e) again = rw e (cases (next P C capacity s) h again)

  stepped_same : {q : ℕ} {s s' e f : State N} → s ≡ s' → Stepped P C capacity s e → Stepped P D q s' f → e ≡ f
  unfolding select
  stepped_same {s} e h h' = cc (step_same s h.b h.rest)

  steps_same :
      {q : ℕ} {s e f : State N} → Steps P C capacity s e → Steps P D q s f → length e.branched ≡ length f.branched → e ≡ f
  steps_same none none l = refl
  steps_same {q} none (more r h) l = absurd (omega (arith, steps_grow P D q r, stepped_adds P D q h))
  steps_same (more r h) none l = absurd (omega (arith, steps_grow P C capacity r, stepped_adds P C capacity h))
  steps_same {q} (more r h) (more r' h') l =
      stepped_same (steps_same r r' (omega (arith, stepped_adds P C capacity h, stepped_adds P D q h'))) h h'

  steps_after :
      {q : ℕ} {s e f : State N} → Steps P C capacity s e → Steps P D q s f → length e.branched ≤ length f.branched → Steps P D q e f
  steps_after {q} {e} r none l = subst (Steps P D q e) (steps_same {q = q} r none (omega (arith, steps_grow P C capacity r))) none
  steps_after {q} {e} {f} r (more {s'} r' h) l = at (ordered (length e.branched) (length s'.branched)) (steps_after r r')
    where
      at :
          (length e.branched ≤ length s'.branched) ⊎ (length s'.branched < length e.branched)
          → (length e.branched ≤ length s'.branched → Steps P D q e s') → Steps P D q e f
      at (inl low) again = more (again low) h
      at (inr high) again = subst (Steps P D q e) (steps_same r (more r' h) (omega (arith, stepped_adds P D q h))) none

  pub stopped_after :
      {q : ℕ} → C.budget ≤ k → (best : Option N) {e f : State N} → Steps P C capacity (start P best) e → Steps P D q (start P best) f
      → Halts P D q f → Steps P D q e f
  unfolding start
  stopped_after longer best r r' h = steps_after r r' (omega (arith, steps_within P C capacity r (omega arith)))
