-- Rule 1 and the upper cost U.
--   active_within    under rule 1 no active node's bound is above U, at every state of a run
--   rest_stays       so a step that leaves U as it was loses no active node to rule 1: the active nodes need be tested only when U fell
--   off_keeps        rule 1, if off, eliminates nothing
use mathlib.Core.Path.{◌≡◌, subst}
use mathlib.Core.Bool.{Bool, not}
use mathlib.Core.List.Memᴰ
use mathlib.Core.List.{List}
use mathlib.Core.Logic.{◌⊎◌, inl, inr}
use mathlib.Core.Option.{Option}
use Prim.Native.Nat.{ℕ, ◌≤◌}
use native.Mathlib.Omega.{arith}
use lib.Dec.{T, ltb, nltb→le, T_not, not_T}
use Rattle.lists.specs.Lists.{In}
use Rattle.lists.proofs.Tests.{tests, and_left, and_right, and_both}
use Rattle.lists.proofs.Members.{in_keep}
use Rattle.lists.proofs.Keep.{keep_all}
use Rattle.search.specs.Problem.{Problem, Choices, State, upper, start}
use Rattle.search.specs.Step.{on, children₁, best₂, over₃, children₃, rest₃, children₄, children₅, rest₆, active₇, step}
use Rattle.search.specs.Run.{Steps, none, more}

module _ {N : Type 0} (P : Problem N) (C : Choices N) where
  module _ (s : State N) (b : N) (rest : List N) where
    -- its bound is above U as part 2 left it
    abbrev above : N → Bool
    above x = ltb (upper P (best₂ P C s b rest)) (C.bound x)

    -- rule 1 spares a node that is within the upper cost, and every node if it is off
    spares : (x : N) → (T (on 1 C.rules) → C.bound x ≤ upper P (best₂ P C s b rest)) → T (not (over₃ P C s b rest x))
    unfolding over₃
    spares x within = not_T (over₃ P C s b rest x) go
      where
        go : T (over₃ P C s b rest x) → ⊥
        go over =
            let high : T (above x) = and_right (on 1 C.rules) (above x) over in
            let low : C.bound x ≤ upper P (best₂ P C s b rest) = within (and_left (on 1 C.rules) (above x) over) in
            omega (arith, tests)

    -- and, if it is on, no other
    spared_within : T (on 1 C.rules) → (x : N) → T (not (over₃ P C s b rest x)) → C.bound x ≤ upper P (best₂ P C s b rest)
    unfolding over₃
    spared_within rule x h =
        nltb→le (upper P (best₂ P C s b rest)) (C.bound x)
        (not_T (above x) (λ high. T_not (over₃ P C s b rest x) h (and_both (on 1 C.rules) (above x) rule high)))

    pub rest_stays :
        ((x : N) → In x rest → C.bound x ≤ upper P s.best) → upper P s.best ≤ upper P (best₂ P C s b rest)
        → rest₃ P C s b rest ≡ rest
    unfolding rest₃
    rest_stays within same =
        keep_all _ rest (λ x m. spares x (λ rule. let h : C.bound x ≤ upper P s.best = within x m in omega arith))

    pub off_keeps : T (not (on 1 C.rules)) → (rest₃ P C s b rest ≡ rest) × (children₃ P C s b rest ≡ children₁ P C s b rest)
    unfolding rest₃ children₃
    off_keeps off = (
      keep_all _ rest (λ x m. spares x (λ rule. absurd (T_not (on 1 C.rules) off rule))),
      keep_all _ (children₁ P C s b rest) (λ x m. spares x (λ rule. absurd (T_not (on 1 C.rules) off rule))),
    )

    step-within :
        T (on 1 C.rules) → (x : N) → In x (step P C s b rest).active → C.bound x ≤ upper P (step P C s b rest).best
    unfolding step active₇ rest₆ children₅ children₄ rest₃ children₃
    step-within rule x m = cases (Memᴰ.append_cases (rest₆ P C s b rest) m)
      where
        cases : In x (rest₆ P C s b rest) ⊎ In x (children₅ P C s b rest) → C.bound x ≤ upper P (best₂ P C s b rest)
        cases (inl k) = spared_within rule x (in_keep _ rest x (in_keep _ (rest₃ P C s b rest) x k).0).1
        cases (inr k) =
            spared_within rule x
            (in_keep _ (children₁ P C s b rest) x
            (in_keep _ (children₃ P C s b rest) x (in_keep _ (children₄ P C s b rest) x k).0).0).1

  pub active_within :
      (capacity : ℕ) (best : Option N) → C.bound P.root ≤ upper P best → T (on 1 C.rules)
      → {s : State N} → Steps P C capacity (start P best) s → (x : N) → In x s.active → C.bound x ≤ upper P s.best
  unfolding start
  active_within capacity best low rule none x m = rw (Memᴰ.eq_of_singleton m) low
  active_within capacity best low rule (more {s'} r h) x m =
      rw h.steps (step-within s' h.b h.rest rule x (subst (λ (z : State N). In x z.active) h.steps m))
