-- The order of what is known (`Le` of `Laws`; request A.8), where orders are compared as `Ties` asks.
--   le_refl, le_trans, le_total    it is a total preorder
--   le_upper, cheaper_le           what comes first is no dearer, and what is cheaper comes first
--   better_le, not_better_le       the written test of a complete child (`better`) tells which of the two comes first
--   better-cost                    what passes that test is no dearer
use mathlib.Core.Path.{sym}
use mathlib.Core.Bool.{not}
use mathlib.Core.Logic.{◌⊎◌, inl, inr}
use mathlib.Core.Option.{Option, none, some}
use Prim.Native.Nat.{◌≤◌, ◌<◌}
use native.Mathlib.Omega.{arith}
use lib.Dec.{T, ltb, nltb→le, T_not}
use Rattle.lists.proofs.Tests.{tests, not_either, either, ordered, Tied, tied_cases, cases_tied}
use Rattle.search.specs.Problem.{Problem, upper}
use Rattle.search.specs.Step.{better}
use Rattle.search.proofs.Laws.{Le, Ties}

module _ {N : Type 0} (P : Problem N) where
  pub le_upper : (u v : Option N) → Le P u v → upper P u ≤ upper P v
  le_upper none none h = omega arith
  le_upper none (some y) h = h
  le_upper (some x) none h = omega arith
  le_upper (some x) (some y) h = h.0

  pub cheaper_le : (x : N) (v : Option N) → P.cost x < upper P v → Le P (some x) v
  cheaper_le x none h = h
  cheaper_le x (some y) h = (omega arith, λ e s. omega arith)

  -- the two parts of the test against a known order
  abbrev Less : N → N → Type 0
  Less c x = Tied (P.cost c) (P.cost x) (P.smaller c x)

  better_cases : (c x : N) → T (better P c (some x)) → Less c x
  better_cases c x h = tied_cases (P.cost c) (P.cost x) (P.smaller c x) h

  pub better-cost : (c : N) (v : Option N) → T (better P c v) → P.cost c ≤ upper P v
  better-cost c none h = omega (arith, tests)
  better-cost c (some x) h = go (better_cases c x h)
    where
      go : Less c x → P.cost c ≤ P.cost x
      go (inl k) = omega arith
      go (inr k) = omega (arith, k.0)

  pub not_better_le : (c : N) (v : Option N) → T (not (better P c v)) → Le P v (some c)
  not_better_le c none h = omega (arith, tests)
  not_better_le c (some x) h =
      let high : P.cost x ≤ P.cost c = nltb→le (P.cost c) (P.cost x) (not_either (ltb (P.cost c) (P.cost x)) _ h).0 in
      (high, λ e s. T_not (better P c (some x)) h (cases_tied (P.cost c) (P.cost x) (P.smaller c x) (inr (sym e, s))))

module _ {N : Type 0} {P : Problem N} (ties : Ties P) where
  pub better_le : (c : N) (v : Option N) → T (better P c v) → Le P (some c) v
  better_le c none h = omega (arith, tests)
  better_le c (some x) h = go (better_cases P c x h)
    where
      go : Less P c x → Le P (some c) (some x)
      go (inl k) = cheaper_le P c (some x) k
      go (inr (e, s)) = (omega arith, λ f r. ties.one_way c x s r)

  pub le_refl : (u : Option N) → Le P u u
  le_refl none = tt
  le_refl (some x) = (omega arith, λ e s. ties.one_way x x s s)

  pub le_trans : (u v w : Option N) → Le P u v → Le P v w → Le P u w
  le_trans none none w h k = k
  le_trans none (some y) none h k = tt
  le_trans none (some y) (some z) h k = omega arith
  le_trans (some x) none none h k = h
  le_trans (some x) none (some z) h k = cheaper_le P x (some z) (omega arith)
  le_trans (some x) (some y) none h k = omega arith
  le_trans (some x) (some y) (some z) h k = (
    omega arith,
    λ e s. ties.through x y z (h.1 (omega arith)) (k.1 (omega arith)) s,
  )

  pub le_total : (u v : Option N) → Le P u v ⊎ Le P v u
  le_total none none = inl tt
  le_total none (some y) = ordered P.above (P.cost y)
  le_total (some x) v = go (either (better P x v))
    where
      go : T (better P x v) ⊎ T (not (better P x v)) → Le P (some x) v ⊎ Le P v (some x)
      go (inl h) = inl (better_le x v h)
      go (inr h) = inr (not_better_le P x v h)
