-- Two problems whose choices say the same of every valid node run alike (`same-run`): it is `MappedRun` with the map that changes nothing. And the
-- state that such a run ends at is valid (`EndsValid`).
use mathlib.Core.Path.{◌≡◌, refl, ap, sym, ◌∙◌}
use mathlib.Core.List.{map-id}
use mathlib.Core.Option.{Option, none, some, map}
use Prim.Native.Nat.{ℕ, zero, suc}
use Rattle.search.specs.Problem.{Problem, Choices, State}
use Rattle.search.specs.Run.{Next, finish, halt, overflow, go, Outcome, finished, stopped, full, unfinished, next, follow, run, none as no_step, more}
use Rattle.search.proofs.Mapped.{Maps, map_state, map_next, ValidState}
use Rattle.search.proofs.MappedRun.{next_maps, steps_valid}
use Rattle.search.proofs.Outcome.{next_stepped}

module _ {N : Type 0} where
  unmapped_best : (b : Option N) → map (λ x. x) b ≡ b
  unmapped_best none = refl
  unmapped_best (some x) = refl

  unmapped : (s : State N) → map_state (λ x. x) s ≡ s
  unmapped s = λ i. record {
    active = map-id s.active i;
    branched = map-id s.branched i;
    best = unmapped_best s.best i;
    generated = s.generated;
    eliminated = s.eliminated;
    most = s.most;
  }

  unmapped_next : (k : Next N) → map_next (λ x. x) k ≡ k
  unmapped_next finish = refl
  unmapped_next halt = refl
  unmapped_next overflow = refl
  unmapped_next (go s) = ap go (unmapped s)

module _
    {N : Type 0} {Valid : N → Type 0} {P Q : Problem N} {C D : Choices N} (maps : Maps (λ x. x) Valid P Q C D) (capacity : ℕ)
  where
    same_next : (s : State N) → ValidState Valid P s → next Q D capacity s ≡ next P C capacity s
    same_next s valid =
        ap (next Q D capacity) (sym (unmapped s)) ∙ next_maps maps capacity s valid ∙ unmapped_next (next P C capacity s)

    abbrev pub EndsValid : Outcome N → Type 0
    EndsValid (finished s) = ValidState Valid P s
    EndsValid (stopped s) = ValidState Valid P s
    EndsValid (full s) = ValidState Valid P s
    EndsValid (unfinished s) = ValidState Valid P s

    pub same-run :
        (fuel : ℕ) (s : State N) → ValidState Valid P s
        → (run Q D capacity fuel s ≡ run P C capacity fuel s) × EndsValid (run P C capacity fuel s)
    unfolding run
    same-run zero s valid = (refl, valid)
    same-run (suc fuel) s valid =
        let (e, v) = cases (next P C capacity s) refl (λ s' h. same-run fuel s' h) in
        (ap (follow Q D capacity (run Q D capacity fuel) s) (same_next s valid) ∙ e, v)
      where
        cases :
            (k : Next N) → next P C capacity s ≡ k
            → ((s' : State N) → ValidState Valid P s'
            → (run Q D capacity fuel s' ≡ run P C capacity fuel s') × EndsValid (run P C capacity fuel s'))
            → (follow Q D capacity (run Q D capacity fuel) s k ≡ follow P C capacity (run P C capacity fuel) s k)
            × EndsValid (follow P C capacity (run P C capacity fuel) s k)
        cases finish e again = (refl, valid)
        cases halt e again = (refl, valid)
        cases overflow e again = (refl, valid)
        cases (go s') e again = again s' (steps_valid maps capacity (more no_step (next_stepped P C capacity e)) valid)
