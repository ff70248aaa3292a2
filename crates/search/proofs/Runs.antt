-- Laws of runs: when a state stops and when it goes on; a run that is done is done the same with more fuel; and the counts only grow
-- along a run. `Fewer s e` says that the counts of s are no more than those of e, `DoneWithin` that a run is done with such counts. The
-- other way round, what a verdict says, is in `Verdict`.
use mathlib.Core.Path.{◌≡◌}
use mathlib.Core.Bool.{false}
use mathlib.Core.List.{List, [], ◌∷◌}
use Prim.Native.Nat.{ℕ, zero, suc, ◌+◌, ◌≤◌}
use native.Mathlib.Omega.{arith}
use lib.Dec.{T, ltb, not_T}
use lib.ListN.{length, length-append}
use Rattle.lists.proofs.Tests.{tests, to_true, to_false}
use Rattle.search.specs.Problem.{State}
use Rattle.search.specs.Selection.{nothing, chosen}
use Rattle.search.proofs.General.{Tree, Plan, Cut, pick, kids, move, kept, Verdict, stop, pause, refuse, onward, verdict, verdict_on, done, obey, search, Reached}
use Rattle.search.proofs.Laws.{Adds}
use Rattle.search.proofs.Verdict.{Moved, reached_keeps}

pub record Fewer {N : Type 0} (s e : State N) : Type 0 where
  pub branched : length s.branched ≤ length e.branched
  pub generated : s.generated ≤ e.generated
  pub most : s.most ≤ e.most

pub fewer_trans : {N : Type 0} {r s e : State N} → Fewer r s → Fewer s e → Fewer r e
fewer_trans h k = omega arith

-- the run from s is done, with counts no more than those of e
abbrev pub DoneWithin : {N : Type 0} → Tree N → Plan N → Cut N → ℕ → ℕ → State N → State N → Type 0
DoneWithin {N} t p c pool fuel s e = (d : State N) × (search t p c pool fuel s ≡ done d) × Fewer d e

fits_passes : (pool n : ℕ) → n ≤ pool → ltb pool n ≡ false
fits_passes pool n h = to_false (ltb pool n) (not_T (ltb pool n) (λ k. omega (arith, tests)))

module _ {N : Type 0} (t : Tree N) (p : Plan N) (c : Cut N) (pool : ℕ) where
  -- verdicts
  pub none-stops : (s : State N) → pick p.late p.rank s.active ≡ nothing → verdict t p c pool s ≡ stop
  unfolding verdict verdict_on
  none-stops s e = rw e

  pub end-stops :
      (s : State N) (b : N) (rest : List N) → pick p.late p.rank s.active ≡ chosen b rest → T (t.problem.complete b)
      → verdict t p c pool s ≡ stop
  unfolding verdict verdict_on
  end-stops s b rest e h = rw (e, to_true (t.problem.complete b) h)

  pub moved_onward : {s s' : State N} → Moved t p c pool s s' → verdict t p c pool s ≡ onward s'
  unfolding verdict verdict_on
  moved_onward {s} {s'} m =
      rw (
        m.picks,
        to_false (t.problem.complete m.b) m.goes,
        to_true (c.allows (length s.branched)) m.allowed,
        fits_passes pool (length (kept t p c pool (move t p c s m.b m.rest))) m.fits,
        m.moves,
      )

  -- fuel
  pub search-stops : (fuel : ℕ) (s : State N) → verdict t p c pool s ≡ stop → search t p c pool (suc fuel) s ≡ done s
  unfolding search
  search-stops fuel s e = rw e

  pub search-onward :
      (fuel : ℕ) (s s' : State N) → verdict t p c pool s ≡ onward s' → search t p c pool (suc fuel) s ≡ search t p c pool fuel s'
  unfolding search
  search-onward fuel s s' e = rw e

  pub search_more : (fuel : ℕ) (s d : State N) → search t p c pool fuel s ≡ done d → search t p c pool (suc fuel) s ≡ done d
  unfolding search
  search_more zero s d h = absurd (let z : ◌≡◌ {A = ℕ} 0 1 = cc in omega arith)
  search_more (suc fuel) s d h = go (verdict t p c pool s) (λ s' k. search_more fuel s' d k) h
    where
      go :
          (v : Verdict N) → ((s' : State N) → search t p c pool fuel s' ≡ done d → search t p c pool (suc fuel) s' ≡ done d)
          → obey t p c pool (search t p c pool fuel) s v ≡ done d → obey t p c pool (search t p c pool (suc fuel)) s v ≡ done d
      go stop again k = k
      go pause again k = k
      go refuse again k = k
      go (onward s') again k = again s' k

  -- counts
  module _ (adds : Adds t) where
    move_grows : (s : State N) (b : N) (rest : List N) → Fewer s (move t p c s b rest)
    unfolding move
    move_grows s b rest = record {
      branched = omega (arith, length-append s.branched (b ∷ []));
      generated = omega (arith, adds b (s.generated + length (kids t p c s b rest)));
      most = omega arith;
    }

    pub counts_grow : {s s' : State N} → Reached t p c pool s s' → Fewer s s'
    counts_grow {s} r = reached_keeps t p c pool (Fewer s) (λ s' b rest e goes h. fewer_trans h (move_grows s' b rest)) r (omega arith)
