-- The comparison of two jobs that differ in rule 1, the bound, the budget, the pool and the order that they start with. If B's run is
-- done, so is A's, the job with the closer bound, with the same fuel; A has branched and generated no more nodes, and has had no more
-- active at once. One simulation: A's state stays `Below` B's. B may branch nodes that A has thrown out, while A waits; else both
-- branch the same node, until one of them is done.
use mathlib.Core.Path.{◌≡◌, refl, ap, ◌∙◌}
use mathlib.Core.Bool.{Bool, true, false, not}
use mathlib.Core.List.Memᴰ
use mathlib.Core.List.{List}
use mathlib.Core.Logic.{◌⊎◌, inl, inr}
use mathlib.Core.Option.{Option}
use Prim.Native.Nat.{ℕ, zero, suc, ◌≤◌}
use native.Mathlib.Omega.{arith}
use lib.Dec.{T}
use lib.ListN.{length, length-append}
use Rattle.lists.proofs.Tests.{either}
use Rattle.search.specs.Problem.{State, upper, start}
use Rattle.search.specs.Selection.{chosen}
use Rattle.search.specs.Run.{with_branched}
use Rattle.search.proofs.General.{Tree, Plan, Cut, pick, move, kept, Verdict, stop, pause, refuse, onward, verdict, done, obey, search, Reached, here, then}
use Rattle.search.proofs.Laws.{Lawful, BoundLaws, Manner, Adds}
use Rattle.search.proofs.Verdict.{Moved, onward_moved}
use Rattle.search.proofs.Outcome.{search_ended}
use Rattle.search.proofs.Thin.{Thin, nil, same, thin_length, Follows, alone, both, thin_pick}
use Rattle.search.proofs.Below.{Closer, OutAt, Below, out_lt, both_step, alone_step}
use Rattle.search.proofs.Runs.{Fewer, fewer_trans, DoneWithin, end-stops, moved_onward, search-stops, search-onward, search_more, counts_grow}
use Rattle.search.proofs.BelowEnd.{stop_follows}

module _ {N : Type 0} (t : Tree N) (p : Plan N) (c_a c_b : Cut N) where
  below_fewer : {a b : State N} → Below t c_a a b → Fewer a b
  below_fewer below = record { branched = thin_length below.branched; generated = below.generated; most = below.most }

  below_kept : (pool_a pool_b : ℕ) {a b : State N} → Below t c_a a b → length (kept t p c_a pool_a a) ≤ length (kept t p c_b pool_b b)
  unfolding kept
  below_kept pool_a pool_b {a} {b} below = go p.rule4
    where
      go : (k : Bool) → length (with_branched k a.active a.branched) ≤ length (with_branched k b.active b.branched)
      go true =
          omega (
            arith,
            length-append a.active a.branched,
            length-append b.active b.branched,
            thin_length below.active.thin,
            thin_length below.branched,
          )
      go false = thin_length below.active.thin

  below_start :
      (best_a best_b : Option N) → upper t.problem best_a ≤ upper t.problem best_b → c_a.bound t.problem.root ≤ upper t.problem best_a
      → Below t c_a (start t.problem best_a) (start t.problem best_b)
  unfolding start
  below_start best_a best_b cost within = record {
    active = record {
      thin = same t.problem.root nil;
      clean =
          λ x m h.
          (let e : c_a.bound x ≡ c_a.bound t.problem.root = ap c_a.bound (Memᴰ.eq_of_singleton m) in
          omega (arith, out_lt c_a (upper t.problem best_a) x h));
    };
    branched = nil;
    cost = cost;
    generated = omega arith;
    most = omega arith;
  }

module _ {N : Type 0} (t : Tree N) (p : Plan N) (c_a c_b : Cut N) (size : N → ℕ) (limit : ℕ) (lawful : Lawful t size limit) (adds : Adds t)
    (bounds : BoundLaws t c_a.bound) (manner : Manner t p c_a.bound) (closer : Closer c_a c_b) where
  module _ (pool_a pool_b : ℕ) (pools : pool_b ≤ pool_a) where
    -- how A at a answers a step of B to b': it ends, it waits, or it makes a step of its own
    data Answer (a b' : State N) : Type 0 where
      ended : verdict t p c_a pool_a a ≡ stop → Answer a b'
      waits : Below t c_a a b' → Answer a b'
      steps : {a' : State N} → verdict t p c_a pool_a a ≡ onward a' → Below t c_a a' b' → Answer a b'

    -- A chooses the node of B's step. If A does not end there, its budget allows the step, for A has branched no more than B; and the
    -- step fits A's pool, for A then keeps no more nodes than B, whose step fitted a pool that is no larger.
    answer_both :
        {a b b' : State N} → Below t c_a a b → (m : Moved t p c_b pool_b b b') (rest : List N)
        → pick p.late p.rank a.active ≡ chosen m.b rest → Thin (OutAt t c_a a) rest m.rest → Answer a b'
    answer_both {a} {b} {b'} below m rest picks th = go (either (t.problem.complete m.b))
      where
        after : Below t c_a (move t p c_a a m.b rest) (move t p c_b b m.b m.rest)
        after = both_step t p c_a c_b lawful.ties adds bounds closer a b below m.b rest m.rest th

        moved : T (not (t.problem.complete m.b)) → Moved t p c_a pool_a a (move t p c_a a m.b rest)
        moved h = record {
          b = m.b;
          rest = rest;
          picks = picks;
          goes = h;
          allowed = closer.longer (length a.branched) (length b.branched) (thin_length below.branched) m.allowed;
          fits = omega (arith, pools, m.fits, below_kept t p c_a c_b pool_a pool_b after);
          moves = refl;
        }

        go : T (t.problem.complete m.b) ⊎ T (not (t.problem.complete m.b)) → Answer a b'
        go (inl h) = ended (end-stops t p c_a pool_a a m.b rest picks h)
        go (inr h) = steps (moved_onward t p c_a pool_a (moved h)) (rw m.moves after)

    answer : {a b b' : State N} → Below t c_a a b → Moved t p c_b pool_b b b' → Answer a b'
    answer {a} {b} {b'} below m = go (thin_pick p.late p.rank below.active.thin m.picks)
      where
        go : Follows (OutAt t c_a a) a.active (pick p.late p.rank a.active) (chosen m.b m.rest) → Answer a b'
        go (alone out th) =
            waits (rw m.moves (alone_step t p c_a c_b lawful.ties adds bounds closer a b below m.b m.rest out th))
        go (both {rest = rest} e th) = answer_both below m rest e th

    -- By recursion on the fuel. Where A has waited, one unit of fuel more changes nothing; where A ends first, B's counts only grow.
    run_follows :
        (best_b : Option N) (fuel : ℕ) (a b e : State N) → Below t c_a a b → Reached t p c_b pool_b (start t.problem best_b) b
        → search t p c_b pool_b fuel b ≡ done e → DoneWithin t p c_a pool_a fuel a e
    unfolding search
    run_follows best_b zero a b e below reached h = absurd (let z : ◌≡◌ {A = ℕ} 0 1 = cc in omega arith)
    run_follows best_b (suc fuel) a b e below reached h =
        go (verdict t p c_b pool_b b) refl (λ a' b' below' reached' k. run_follows best_b fuel a' b' e below' reached' k) h
      where
        ends_now : verdict t p c_a pool_a a ≡ stop → DoneWithin t p c_a pool_a (suc fuel) a e
        ends_now v =
            let later : Fewer b e = counts_grow t p c_b pool_b adds (search_ended t p c_b pool_b (suc fuel) b (done e) h).0 in
            (a, search-stops t p c_a pool_a fuel a v, fewer_trans (below_fewer t p c_a c_b below) later)

        answered :
            (b' : State N) → ((a' : State N) → Below t c_a a' b' → DoneWithin t p c_a pool_a fuel a' e) → Answer a b'
            → DoneWithin t p c_a pool_a (suc fuel) a e
        answered b' again (ended v) = ends_now v
        answered b' again (waits below') = let (d, k, few) = again a below' in (d, search_more t p c_a pool_a fuel a d k, few)
        answered b' again (steps {a'} v below') =
            let (d, k, few) = again a' below' in (d, search-onward t p c_a pool_a fuel a a' v ∙ k, few)

        go :
            (v : Verdict N) → verdict t p c_b pool_b b ≡ v
            → ((a' b' : State N) → Below t c_a a' b' → Reached t p c_b pool_b (start t.problem best_b) b'
            → search t p c_b pool_b fuel b' ≡ done e → DoneWithin t p c_a pool_a fuel a' e)
            → obey t p c_b pool_b (search t p c_b pool_b fuel) b v ≡ done e → DoneWithin t p c_a pool_a (suc fuel) a e
        go stop v again k =
            ends_now (stop_follows t p c_a c_b size limit lawful.sized manner pool_a pool_b best_b a b below reached v)
        go pause v again k = absurd (let z : ◌≡◌ {A = ℕ} 0 1 = cc in omega arith)
        go refuse v again k = absurd (let z : ◌≡◌ {A = ℕ} 0 1 = cc in omega arith)
        go (onward b') v again k =
            answered b' (λ a' below'. again a' b' below' (then reached v) k) (answer below (onward_moved t p c_b pool_b b v))

  pub compare_runs :
      (pool_a pool_b : ℕ) → pool_b ≤ pool_a → (best_a best_b : Option N) → upper t.problem best_a ≤ upper t.problem best_b
      → c_a.bound t.problem.root ≤ upper t.problem best_a
      → (fuel : ℕ) (e : State N) → search t p c_b pool_b fuel (start t.problem best_b) ≡ done e
      → (d : State N) × (search t p c_a pool_a fuel (start t.problem best_a) ≡ done d)
      × (length d.branched ≤ length e.branched) × (d.generated ≤ e.generated) × (d.most ≤ e.most)
  compare_runs pool_a pool_b pools best_a best_b cost within fuel e h =
      let a : State N = start t.problem best_a in
      let b : State N = start t.problem best_b in
      let (d, k, few) = run_follows pool_a pool_b pools best_b fuel a b e (below_start t p c_a c_b best_a best_b cost within) here h in
      (d, k, few.branched, few.generated, few.most)
