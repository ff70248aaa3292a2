-- What the outcomes of a run mean.
--   Ended, search_ended             the general run: the state that stands is reached, and its verdict is the outcome's
--   next_stepped, next_halts, next_overflows    what comes next of a state, as a step, a budget that is spent or a step that does not fit
--   full_means, overflow_full       the pool is called full when, and only when, some steps come to a step that does not fit: the first
--   stopped_means, halt_stopped     the run is stopped when, and only when, some steps come to a state where the budget is spent
--   finished_means, finish_finished  the run is finished just at the state that the finish test ends
--   steps_reached                    what is proved of reached states is true of the states of the written run
use mathlib.Core.Path.{◌≡◌, refl, ap, ◌∙◌, subst}
use mathlib.Core.Bool.{Bool, true, false, not}
use mathlib.Core.List.{List}
use Prim.Native.Nat.{ℕ, zero, suc, ◌≤◌, ◌<◌}
use native.Mathlib.Omega.{arith}
use lib.Dec.{T, ltb, ltb→lt, lt→ltb, nltb→le, not_T}
use lib.ListN.{length}
use Rattle.lists.specs.Lists.{sum}
use Rattle.lists.proofs.Tests.{tests, to_true, to_false}
use Rattle.search.specs.Problem.{Problem, Choices, State}
use Rattle.search.specs.Selection.{Choice, nothing, chosen, select, finishes}
use Rattle.search.specs.Step.{step}
use Rattle.search.specs.Run.{held, Next, finish, halt, overflow, go, Outcome, finished, stopped, full, unfinished, unless, if_allowed, go_unless, fitting, decide, next, follow, run, Stepped, Steps, none, more, Halts, Overflows}
use Rattle.search.proofs.General.{Tree, Plan, Cut, Verdict, stop, pause, refuse, onward, Result, done, paused, overfull, stuck, verdict, obey, search, Reached, here, then}
use Rattle.search.proofs.Laws.{Weighs}
use Rattle.search.proofs.Plain.{tree, plan_of, cut_of, verdict_of, next_is_verdict}
use Rattle.search.proofs.Ends.{run_ends}

module _ {N : Type 0} (t : Tree N) (p : Plan N) (c : Cut N) (pool : ℕ) where
  -- what a result says of the state s that the run began at
  abbrev pub Ended : State N → Result N → Type 0
  Ended s (done e) = Reached t p c pool s e × (verdict t p c pool e ≡ stop)
  Ended s (paused e) = Reached t p c pool s e × (verdict t p c pool e ≡ pause)
  Ended s (overfull e) = Reached t p c pool s e × (verdict t p c pool e ≡ refuse)
  Ended s (stuck e) = Reached t p c pool s e

  search-from : (fuel : ℕ) {s s' : State N} → Reached t p c pool s s' → Ended s (search t p c pool fuel s')
  unfolding search
  search-from zero r = r
  search-from (suc fuel) {s} {s'} r = cases (verdict t p c pool s') refl (λ s'' k. search-from fuel k)
    where
      cases :
          (v : Verdict N) → verdict t p c pool s' ≡ v
          → ((s'' : State N) → Reached t p c pool s s'' → Ended s (search t p c pool fuel s''))
          → Ended s (obey t p c pool (search t p c pool fuel) s' v)
      cases stop e again = (r, e)
      cases pause e again = (r, e)
      cases refuse e again = (r, e)
      cases (onward s'') e again = again s'' (then r e)

  pub search_ended : (fuel : ℕ) (s : State N) (result : Result N) → search t p c pool fuel s ≡ result → Ended s result
  search_ended fuel s result e = subst (Ended s) e (search-from fuel here)

module _ {N : Type 0} (P : Problem N) (C : Choices N) (capacity : ℕ) where
  -- what comes next of a state says how it comes
  abbrev Says : State N → Next N → Type 0
  Says s finish = Unit {0}
  Says s halt = Halts P C capacity s
  Says s overflow = Overflows P C capacity s
  Says s (go s') = Stepped P C capacity s s'

  next_says : (s : State N) → Says s (next P C capacity s)
  unfolding next decide fitting
  next_says s = at (select P C s.active) refl
    where
      at : (c : Choice N) → select P C s.active ≡ c → Says s (decide P C capacity s c)
      at nothing e = tt
      at (chosen b rest) e =
          cases (finishes P b) (ltb made C.budget) (ltb capacity kept) (λ h. h) (ltb→lt made C.budget)
          (nltb→le made C.budget) (ltb→lt capacity kept) (nltb→le capacity kept)
        where
          made : ℕ
          made = length s.branched

          kept : ℕ
          kept = length (held C.rules (step P C s b rest))

          cases :
              (f a o : Bool) → (T (not f) → T (not (finishes P b))) → (T a → made < C.budget) → (T (not a) → C.budget ≤ made)
              → (T o → capacity < kept) → (T (not o) → kept ≤ capacity) → Says s (unless f (if_allowed a (go_unless o (step P C s b rest))))
          cases true a o goes allows spent over fits = tt
          cases false false o goes allows spent over fits = record { b = b; rest = rest; selects = e; goes = goes tt; spent = spent tt }
          cases false true true goes allows spent over fits =
              record { b = b; rest = rest; selects = e; goes = goes tt; allows = allows tt; outnumber = over tt }
          cases false true false goes allows spent over fits =
              record { b = b; rest = rest; selects = e; goes = goes tt; allows = allows tt; fits = fits tt; steps = refl }

  pub next_stepped : {s s' : State N} → next P C capacity s ≡ go s' → Stepped P C capacity s s'
  next_stepped {s} e = subst (Says s) e (next_says s)

  pub next_halts : {s : State N} → next P C capacity s ≡ halt → Halts P C capacity s
  next_halts {s} e = subst (Says s) e (next_says s)

  pub next_overflows : {s : State N} → next P C capacity s ≡ overflow → Overflows P C capacity s
  next_overflows {s} e = subst (Says s) e (next_says s)

  -- a step that the finish test lets through and the budget allows is put to the pool
  goes_next :
      (s : State N) (b : N) (rest : List N) → select P C s.active ≡ chosen b rest → T (not (finishes P b))
      → length s.branched < C.budget → next P C capacity s ≡ fitting P C capacity (step P C s b rest)
  unfolding next decide
  goes_next s b rest e h k =
      rw (
        e,
        to_false (finishes P b) h,
        to_true (ltb (length s.branched) C.budget) (lt→ltb (length s.branched) C.budget k),
      )

  halts_next : {s : State N} → Halts P C capacity s → next P C capacity s ≡ halt
  unfolding next decide
  halts_next {s} h =
      rw (
        h.selects,
        to_false (finishes P h.b) h.goes,
        to_false (ltb (length s.branched) C.budget) (not_T (ltb (length s.branched) C.budget) (λ o. omega (arith, tests, h.spent))),
      )

  stepped_next : {s s' : State N} → Stepped P C capacity s s' → next P C capacity s ≡ go s'
  unfolding fitting
  stepped_next {s} h =
      rw (
        goes_next s h.b h.rest h.selects h.goes h.allows,
        to_false (ltb capacity (length (held C.rules (step P C s h.b h.rest))))
            (not_T (ltb capacity (length (held C.rules (step P C s h.b h.rest)))) (λ o. omega (arith, tests))),
        h.steps,
      )

  overflows_next : {s : State N} → Overflows P C capacity s → next P C capacity s ≡ overflow
  unfolding fitting
  overflows_next {s} h =
      rw (
        goes_next s h.b h.rest h.selects h.goes h.allows,
        to_true (ltb capacity (length (held C.rules (step P C s h.b h.rest)))) (omega (arith, tests)),
      )

  -- What an outcome says of the state that the run began at.
  abbrev Means : State N → Outcome N → Type 0
  Means s (finished e) = Steps P C capacity s e × (next P C capacity e ≡ finish)
  Means s (stopped e) = Steps P C capacity s e × Halts P C capacity e
  Means s (full e) = Steps P C capacity s e × Overflows P C capacity e
  Means s (unfinished e) = Steps P C capacity s e

  run-from : (fuel : ℕ) {s s' : State N} → Steps P C capacity s s' → Means s (run P C capacity fuel s')
  unfolding run
  run-from zero r = r
  run-from (suc fuel) {s} {s'} r = cases (next P C capacity s') refl (next_says s') (λ s'' k. run-from fuel k)
    where
      cases :
          (n : Next N) → next P C capacity s' ≡ n → Says s' n → ((s'' : State N) → Steps P C capacity s s'' → Means s (run P C capacity fuel s''))
          → Means s (follow P C capacity (run P C capacity fuel) s' n)
      cases finish e h again = (r, e)
      cases halt e h again = (r, h)
      cases overflow e h again = (r, h)
      cases (go s'') e h again = again s'' (more r h)

  pub finished_means : (fuel : ℕ) (s e : State N) → run P C capacity fuel s ≡ finished e → Steps P C capacity s e × (next P C capacity e ≡ finish)
  finished_means fuel s e q = subst (Means s) q (run-from fuel none)

  pub stopped_means : (fuel : ℕ) (s e : State N) → run P C capacity fuel s ≡ stopped e → Steps P C capacity s e × Halts P C capacity e
  stopped_means fuel s e q = subst (Means s) q (run-from fuel none)

  pub full_means : (fuel : ℕ) (s e : State N) → run P C capacity fuel s ≡ full e → Steps P C capacity s e × Overflows P C capacity e
  full_means fuel s e q = subst (Means s) q (run-from fuel none)

  -- The converses. The run from s goes through the states that its steps come to, so with more fuel it ends as the run from any of
  -- them does; and a run that has ended ends the same with more fuel.
  abbrev EndsWith : ℕ → State N → Type 0
  EndsWith fuel s = (e : State N) → run P C capacity fuel s ≡ unfinished e → ⊥

  more_fuel : (f f' : ℕ) (s : State N) → f ≤ f' → EndsWith f s → run P C capacity f s ≡ run P C capacity f' s
  unfolding run
  more_fuel zero f' s h ends = absurd (ends s refl)
  more_fuel (suc f) zero s h ends = absurd (omega arith)
  more_fuel (suc f) (suc f') s h ends = cases (next P C capacity s) ends (λ s' k. more_fuel f f' s' (omega arith) k)
    where
      cases :
          (n : Next N) → ((e : State N) → follow P C capacity (run P C capacity f) s n ≡ unfinished e → ⊥)
          → ((s' : State N) → EndsWith f s' → run P C capacity f s' ≡ run P C capacity f' s')
          → follow P C capacity (run P C capacity f) s n ≡ follow P C capacity (run P C capacity f') s n
      cases finish ends again = refl
      cases halt ends again = refl
      cases overflow ends again = refl
      cases (go s') ends again = again s' ends

  steps_run : {s e : State N} → Steps P C capacity s e → (f : ℕ) → (f' : ℕ) × (f ≤ f') × (run P C capacity f' s ≡ run P C capacity f e)
  unfolding run
  steps_run none f = (f, omega arith, refl)
  steps_run (more {s'} r h) f =
      let (f', k, q) = steps_run r (suc f) in
      (f', omega arith, q ∙ ap (follow P C capacity (run P C capacity f) s') (stepped_next h))

  module _
      {weight : N → ℕ} (weighs : Weighs P weight) (fuel : ℕ) {s e : State N} (enough : sum weight s.active < fuel) (steps : Steps P C capacity s e)
    where
      stands : run P C capacity fuel s ≡ run P C capacity (suc fuel) e
      stands =
          let (f, k, q) = steps_run steps (suc fuel) in
          more_fuel fuel f s (omega arith) (run_ends P C capacity weighs fuel s enough) ∙ q

      pub finish_finished : next P C capacity e ≡ finish → run P C capacity fuel s ≡ finished e
      unfolding run
      finish_finished h = stands ∙ ap (follow P C capacity (run P C capacity fuel) e) h

      pub halt_stopped : Halts P C capacity e → run P C capacity fuel s ≡ stopped e
      unfolding run
      halt_stopped h = stands ∙ ap (follow P C capacity (run P C capacity fuel) e) (halts_next h)

      pub overflow_full : Overflows P C capacity e → run P C capacity fuel s ≡ full e
      unfolding run
      overflow_full h = stands ∙ ap (follow P C capacity (run P C capacity fuel) e) (overflows_next h)

  -- The steps of the written run are those of the general run.
  module _ (known : C.selection ≤ 3) where
    pub steps_reached : {s e : State N} → Steps P C capacity s e → Reached (tree P) (plan_of P C) (cut_of C) capacity s e
    steps_reached none = here
    steps_reached (more {s'} r h) = then (steps_reached r) (next_is_verdict P C capacity known s' ∙ ap verdict_of (stepped_next h))
