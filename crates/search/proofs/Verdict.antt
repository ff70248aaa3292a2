-- What a verdict says. Onward: a node was chosen, it is not complete, another step was allowed, it fits the pool, and the next state is
-- the step's. Stop: no node is active, or the chosen one is complete. What every step keeps, a run keeps.
use mathlib.Core.Path.{◌≡◌, refl, sym, subst}
use mathlib.Core.Bool.{Bool, true, false, not}
use mathlib.Core.List.{List}
use mathlib.Core.Logic.{◌⊎◌, inl, inr}
use Prim.Native.Nat.{ℕ, ◌≤◌}
use native.Mathlib.Omega.{arith}
use lib.Dec.{T, ltb, nltb→le}
use lib.ListN.{length}
use Rattle.search.specs.Problem.{State}
use Rattle.search.specs.Selection.{Choice, nothing, chosen}
use Rattle.search.proofs.General.{Tree, Plan, Cut, pick, move, kept, verdict, verdict_on, stop, onward, stop_if, allowed_if, refuse_if, Reached, here, then}

pub record Moved {N : Type 0} (t : Tree N) (p : Plan N) (c : Cut N) (pool : ℕ) (s s' : State N) : Type 0 where
  -- the branched node, and the other active nodes
  pub b : N
  pub rest : List N
  pub picks : pick p.late p.rank s.active ≡ chosen b rest
  pub goes : T (not (t.problem.complete b))
  pub allowed : T (c.allows (length s.branched))
  pub fits : length (kept t p c pool (move t p c s b rest)) ≤ pool
  pub moves : s' ≡ move t p c s b rest

module _ {N : Type 0} where
  onward_tests :
      (e a f : Bool) (s s' : State N) → stop_if e (allowed_if a (refuse_if f s)) ≡ onward s' → T (not e) × T a × T (not f) × (s' ≡ s)
  onward_tests true a f s s' h = absurd (let z : ◌≡◌ {A = ℕ} 0 1 = cc in omega arith)
  onward_tests false false f s s' h = absurd (let z : ◌≡◌ {A = ℕ} 0 1 = cc in omega arith)
  onward_tests false true true s s' h = absurd (let z : ◌≡◌ {A = ℕ} 0 1 = cc in omega arith)
  onward_tests false true false s s' h = (tt, tt, tt, cc)

  stop_test : (e a f : Bool) (s : State N) → stop_if e (allowed_if a (refuse_if f s)) ≡ stop → T e
  stop_test true a f s h = tt
  stop_test false false f s h = absurd (let z : ◌≡◌ {A = ℕ} 0 1 = cc in omega arith)
  stop_test false true true s h = absurd (let z : ◌≡◌ {A = ℕ} 0 1 = cc in omega arith)
  stop_test false true false s h = absurd (let z : ◌≡◌ {A = ℕ} 0 1 = cc in omega arith)

module _ {N : Type 0} (t : Tree N) (p : Plan N) (c : Cut N) (pool : ℕ) (s : State N) where
  pub onward_moved : {s' : State N} → verdict t p c pool s ≡ onward s' → Moved t p c pool s s'
  unfolding verdict verdict_on
  onward_moved {s'} h = go (pick p.late p.rank s.active) refl h
    where
      go : (ch : Choice N) → pick p.late p.rank s.active ≡ ch → verdict_on t p c pool s ch ≡ onward s' → Moved t p c pool s s'
      go nothing e h = absurd (let z : ◌≡◌ {A = ℕ} 0 1 = cc in omega arith)
      go (chosen b rest) e h = record {
        b = b;
        rest = rest;
        picks = e;
        goes = tests.0;
        allowed = tests.1;
        fits = nltb→le pool (length (kept t p c pool after)) tests.2;
        moves = tests.3;
      }
        where
          after : State N
          after = move t p c s b rest

          full : Bool
          full = ltb pool (length (kept t p c pool after))

          tests : T (not (t.problem.complete b)) × T (c.allows (length s.branched)) × T (not full) × (s' ≡ after)
          tests = onward_tests (t.problem.complete b) (c.allows (length s.branched)) full after s' h

  pub stop_cases :
      verdict t p c pool s ≡ stop
      → (pick p.late p.rank s.active ≡ nothing)
      ⊎ ((b : N) × (rest : List N) × (pick p.late p.rank s.active ≡ chosen b rest) × T (t.problem.complete b))
  unfolding verdict verdict_on
  stop_cases h = go (pick p.late p.rank s.active) refl h
    where
      go :
          (ch : Choice N) → pick p.late p.rank s.active ≡ ch → verdict_on t p c pool s ch ≡ stop
          → (pick p.late p.rank s.active ≡ nothing)
          ⊎ ((b : N) × (rest : List N) × (pick p.late p.rank s.active ≡ chosen b rest) × T (t.problem.complete b))
      go nothing e h = inl e
      go (chosen b rest) e h =
          let after : State N = move t p c s b rest in
          inr (
            b,
            rest,
            e,
            stop_test (t.problem.complete b) (c.allows (length s.branched)) (ltb pool (length (kept t p c pool after))) after h,
          )

module _ {N : Type 0} (t : Tree N) (p : Plan N) (c : Cut N) (pool : ℕ) where
  pub reached_keeps :
      (Q : State N → Type 0)
      → ((s : State N) (b : N) (rest : List N) → pick p.late p.rank s.active ≡ chosen b rest → T (not (t.problem.complete b)) → Q s
      → Q (move t p c s b rest))
      → {s s' : State N} → Reached t p c pool s s' → Q s → Q s'
  reached_keeps Q keeps here q = q
  reached_keeps Q keeps (then {s'} {s''} r e) q = go (onward_moved t p c pool s' e) (reached_keeps Q keeps r q)
    where
      go : Moved t p c pool s' s'' → Q s' → Q s''
      go m h = subst Q (sym m.moves) (keeps s' m.b m.rest m.picks m.goes h)
