-- Runs commute with a map of nodes: where Q and D say of f x what P and C say of each valid x (`Maps`), what comes next of a state of Q and D
-- is what comes next of the state of P and C, mapped (`next_maps`). The states of a run of P and C are valid (`steps_valid`, `start_valid`).
use mathlib.Core.Path.{◌≡◌, refl, ap, sym, ◌∙◌, subst}
use mathlib.Core.Bool.{Bool, true, false}
use mathlib.Core.List.Memᴰ
use mathlib.Core.List.{◌++◌, map, map-append}
use mathlib.Core.Option.{Option}
use Prim.Native.Nat.{ℕ}
use lib.Dec.{ltb}
use lib.ListN.{length, length-map}
use Rattle.search.specs.Problem.{Problem, Choices, State, start}
use Rattle.search.specs.Selection.{Choice, nothing, chosen, select, finishes}
use Rattle.search.specs.Step.{on, step}
use Rattle.search.specs.Run.{with_branched, held, unless, if_allowed, go_unless, fitting, decide, next, Stepped, Steps, none, more}
use Rattle.search.proofs.Mapped.{Maps, map_choice, map_state, map_next, ValidChoice, ValidBest, ValidState, select_valid, select_maps, finishes_maps}
use Rattle.search.proofs.MappedStep.{step_valid, step_maps}

module _
    {N M : Type 0} {f : N → M} {Valid : N → Type 0} {P : Problem N} {Q : Problem M} {C : Choices N} {D : Choices M}
    (maps : Maps f Valid P Q C D)
  where
    module _ (capacity : ℕ) where
      held_maps : (s : State N) → length (held D.rules (map_state f s)) ≡ length (held C.rules s)
      unfolding held
      held_maps s = rw maps.rules (cases (on 4 C.rules))
        where
          cases :
              (b : Bool)
              → length (with_branched b (map f s.active) (map f s.branched)) ≡ length (with_branched b s.active s.branched)
          cases true = ap length (sym (map-append f s.active s.branched)) ∙ length-map (s.active ++ s.branched) f
          cases false = length-map s.active f

      decide_maps :
          (s : State N) (c : Choice N) → ValidState Valid P s → ValidChoice Valid c
          → decide Q D capacity (map_state f s) (map_choice f c) ≡ map_next f (decide P C capacity s c)
      unfolding decide fitting
      decide_maps s nothing valid picked = refl
      decide_maps s (chosen b rest) valid picked =
          rw (
            finishes_maps maps b picked.0,
            step_maps maps s b rest valid picked.0 picked.1,
            held_maps (step P C s b rest),
            length-map s.branched f,
            maps.budget,
          )
          (cases (finishes P b) (ltb (length s.branched) C.budget)
          (ltb capacity (length (held C.rules (step P C s b rest)))))
        where
          cases :
              (ends allowed over : Bool)
              → unless ends (if_allowed allowed (go_unless over (map_state f (step P C s b rest))))
              ≡ map_next f (unless ends (if_allowed allowed (go_unless over (step P C s b rest))))
          cases true allowed over = refl
          cases false false over = refl
          cases false true true = refl
          cases false true false = refl

      pub next_maps : (s : State N) → ValidState Valid P s → next Q D capacity (map_state f s) ≡ map_next f (next P C capacity s)
      unfolding next
      next_maps s valid =
          rw (select_maps maps s.active valid.active)
          (decide_maps s (select P C s.active) valid (select_valid Valid P C s.active valid.active))

      stepped_valid : {s s' : State N} → Stepped P C capacity s s' → ValidState Valid P s → ValidState Valid P s'
      stepped_valid {s} h valid = rw h.steps (step_valid maps s h.b h.rest valid picked.0 picked.1)
        where
          picked : ValidChoice Valid (chosen h.b h.rest)
          picked = subst (ValidChoice Valid) h.selects (select_valid Valid P C s.active valid.active)

      pub steps_valid : {s e : State N} → Steps P C capacity s e → ValidState Valid P s → ValidState Valid P e
      steps_valid none valid = valid
      steps_valid (more r h) valid = stepped_valid h (steps_valid r valid)

    pub start_valid : (best : Option N) → ValidBest Valid P best → ValidState Valid P (start P best)
    unfolding start
    start_valid best valid = record {
      active = λ x m. rw (Memᴰ.eq_of_singleton m) maps.root_valid;
      branched = λ x m. absurd (Memᴰ.not-nil m);
      best = valid;
    }
