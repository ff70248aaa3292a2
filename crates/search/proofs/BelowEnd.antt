-- Where B's run ends, A's ends: the states of two jobs stand side by side (`Below`), and B stops at its state. Then A stops at its own.
use mathlib.Core.Path.{◌≡◌, refl}
use mathlib.Core.List.{List}
use mathlib.Core.Logic.{◌⊎◌, inl, inr}
use mathlib.Core.Option.{Option}
use Prim.Native.Nat.{ℕ, ◌<◌}
use native.Mathlib.Omega.{arith}
use lib.Dec.{T}
use Rattle.lists.specs.Lists.{In}
use Rattle.search.specs.Problem.{State, upper, start}
use Rattle.search.specs.Selection.{Choice, nothing, chosen}
use Rattle.search.proofs.General.{Tree, Plan, Cut, pick, verdict, stop, Reached}
use Rattle.search.proofs.Laws.{Sized, Manner}
use Rattle.search.proofs.Pick.{picked_of, picked_in}
use Rattle.search.proofs.Verdict.{stop_cases}
use Rattle.search.proofs.Queue.{all-complete}
use Rattle.search.proofs.Thin.{thin_in, Follows, neither, alone, both, thin_pick}
use Rattle.search.proofs.Below.{OutAt, Below, out_more}
use Rattle.search.proofs.Runs.{none-stops, end-stops}

module _ {N : Type 0} (t : Tree N) (p : Plan N) (c_a c_b : Cut N) (size : N → ℕ) (limit : ℕ) (sized : Sized t.problem size limit)
    (manner : Manner t p c_a.bound) (pool_a pool_b : ℕ) (best_b : Option N)
    (a b : State N) (below : Below t c_a a b) (reached : Reached t p c_b pool_b (start t.problem best_b) b) where
  -- B ends at the complete y, which A has thrown out, while A chooses x. Then x is complete, and A ends too; or its bound is above y's,
  -- which cannot be, for A would have thrown out x as well.
  own-stops :
      (y : N) (rest : List N) → pick p.late p.rank b.active ≡ chosen y rest → T (t.problem.complete y) → OutAt t c_a a y
      → (own : Choice N) → pick p.late p.rank a.active ≡ own → verdict t p c_a pool_a a ≡ stop
  own-stops y rest picks whole out nothing e = none-stops t p c_a pool_a a e
  own-stops y rest picks whole out (chosen x others) e =
      end-stops t p c_a pool_a a x others e
      (go (all-complete t p c_b pool_b size limit sized manner best_b b reached y rest picks whole x (thin_in below.active.thin x m)))
    where
      m : In x a.active
      m = picked_in (picked_of p.rank p.late a.active x others e)

      u : ℕ
      u = upper t.problem a.best

      go : T (t.problem.complete x) ⊎ (c_a.bound y < c_a.bound x) → T (t.problem.complete x)
      go (inl h) = h
      go (inr less) = absurd (below.active.clean x m (out_more c_a c_a u u y x (λ k. k) (omega arith) (omega arith) out))

  pub stop_follows : verdict t p c_b pool_b b ≡ stop → verdict t p c_a pool_a a ≡ stop
  stop_follows h = go (stop_cases t p c_b pool_b b h)
    where
      none : Follows (OutAt t c_a a) a.active (pick p.late p.rank a.active) nothing → verdict t p c_a pool_a a ≡ stop
      none (neither e) = none-stops t p c_a pool_a a e

      some :
          (y : N) (rest : List N) → pick p.late p.rank b.active ≡ chosen y rest → T (t.problem.complete y)
          → Follows (OutAt t c_a a) a.active (pick p.late p.rank a.active) (chosen y rest) → verdict t p c_a pool_a a ≡ stop
      some y rest picks whole (alone out th) = own-stops y rest picks whole out (pick p.late p.rank a.active) refl
      some y rest picks whole (both {rest = rest_a} e th) = end-stops t p c_a pool_a a y rest_a e whole

      go :
          (pick p.late p.rank b.active ≡ nothing)
          ⊎ ((y : N) × (rest : List N) × (pick p.late p.rank b.active ≡ chosen y rest) × T (t.problem.complete y))
          → verdict t p c_a pool_a a ≡ stop
      go (inl e) = none (thin_pick p.late p.rank below.active.thin e)
      go (inr (y, rest, e, whole)) = some y rest e whole (thin_pick p.late p.rank below.active.thin e)
