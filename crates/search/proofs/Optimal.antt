-- Optimality, of the run from `start`. At each of its states, if the root leads to an order as good as v, and v is what is known or goes
-- before it, then some active node leads to such an order (`reached_alive`, the paper's Lemma 1). Hence no order goes before what an ended
-- run knows: none is cheaper and, of those as cheap, none is smaller (`ended_least`; request A.8). Where the problem has an order, an ended
-- run knows one (`ended_known`), and no state is without active nodes (`active_some`). The bounds of the active nodes give the floor of
-- document 02, A.3 (`active_below`).
use mathlib.Core.Path.{◌≡◌, refl, subst}
use mathlib.Core.List.Memᴰ
use mathlib.Core.List.{List}
use mathlib.Core.Logic.{◌⊎◌, inl, inr}
use mathlib.Core.Option.{Option, some}
use Prim.Native.Nat.{ℕ, zero, suc, ◌+◌, ◌≤◌, ◌<◌}
use native.Mathlib.Omega.{arith}
use lib.Dec.{T}
use Rattle.lists.specs.Lists.{In}
use Rattle.lists.proofs.Members.{in_head}
use Rattle.search.specs.Problem.{State, start}
use Rattle.search.specs.Selection.{nothing, chosen}
use Rattle.search.proofs.General.{Tree, Plan, Cut, pick, verdict, stop, Reached}
use Rattle.search.proofs.Laws.{Le, Leads, stay, Good, Lawful, BoundLaws, Manner, KnownIn, unknown, known, Solvable}
use Rattle.search.proofs.Pick.{Picked, picked_of, picked_none, picked_in}
use Rattle.search.proofs.Verdict.{stop_cases, reached_keeps}
use Rattle.search.proofs.Queue.{all-complete}
use Rattle.search.proofs.Values.{le_upper, cheaper_le, le_refl, le_trans, le_total}
use Rattle.search.proofs.Cover.{Live, Cover, Covered, Sound, leads_on, leaf_good, root_good, good_cases, complete_good, covers_good, covers_size, good_bound}
use Rattle.search.proofs.CoverStep.{step_keeps_cover, step_keeps_sound}

-- From a live good node to an active one: a branched node is not complete, so its good leaf goes through a child; a live node covers
-- that child, is as good, and is of larger size. Sizes have a limit, so the climb ends, at an active node.
module _
    {N : Type 0} {t : Tree N} {size : N → ℕ} {limit : ℕ} (lawful : Lawful t size limit) (s : State N) (v : Option N)
    (within : Le t.problem v s.best) (covered : Covered t.problem v s) (sound : Sound t.problem s)
  where
    cover_good :
        (x : N) → Leads t.problem t.problem.root x → (k : Cover t.problem s x) → Good t.problem v x → Good t.problem v k.by
    cover_good x inside k = covers_good lawful v k.by x (sound.inside k.by k.live) inside k.covers

    climb :
        (m : ℕ) (z : N) → limit < size z + m → Live t.problem s z → Good t.problem v z
        → (x : N) × In x s.active × Good t.problem v x
    climb zero z high live g = absurd (omega (arith, lawful.sized.small z))
    climb (suc m) z high (inl i) g = (z, i, g)
    climb (suc m) z high (inr i) g = go (good_cases v z g) (λ w k. climb m w k)
      where
        go :
            (T (t.problem.complete z) × Le t.problem (some z) v) ⊎ ((x : N) × In x (t.problem.children z) × Good t.problem v x)
            → ((w : N) → limit < size w + m → Live t.problem s w → Good t.problem v w
            → (x : N) × In x s.active × Good t.problem v x)
            → (x : N) × In x s.active × Good t.problem v x
        go (inl h) again = absurd (sound.partial z i h.0)
        go (inr (x, below, good)) again =
            let k : Cover t.problem s x = covered.child within z x i below good in
            let larger : size x ≤ size k.by = covers_size lawful k.by x k.covers in
            again k.by (omega (arith, lawful.sized.child z x below)) k.live
            (cover_good x (leads_on (sound.inside z (inr i)) below) k good)

module _
    {N : Type 0} (t : Tree N) (p : Plan N) (c : Cut N) (pool : ℕ) (size : N → ℕ) (limit : ℕ) (lawful : Lawful t size limit)
    (bounds : BoundLaws t c.bound) (best₀ : Option N) (known₀ : KnownIn t.problem best₀)
  where
    start_sound : Sound t.problem (start t.problem best₀)
    unfolding start
    start_sound = record {
      partial = λ z m whole. Memᴰ.not-nil m;
      leaves = λ x m whole. absurd (lawful.unfinished (rw (← Memᴰ.eq_of_singleton m) whole));
      inside = inside;
      known = known₀;
    }
      where
        inside : (x : N) → Live t.problem (start t.problem best₀) x → Leads t.problem t.problem.root x
        inside x (inl m) = rw (Memᴰ.eq_of_singleton m) stay
        inside x (inr m) = absurd (Memᴰ.not-nil m)

    start_covered : (v : Option N) → Covered t.problem v (start t.problem best₀)
    unfolding start
    start_covered v = record {
      root_covered = λ within g. record { by = t.problem.root; live = inl in_head; covers = inl refl };
      child = λ within z x m i g. absurd (Memᴰ.not-nil m);
    }

    -- the covers are kept beside what else holds, for a step keeps them among nodes of the tree
    reached_both :
        (v : Option N) (s : State N) → Reached t p c pool (start t.problem best₀) s → Sound t.problem s × Covered t.problem v s
    reached_both v s r =
        reached_keeps t p c pool (λ s. Sound t.problem s × Covered t.problem v s)
        (λ s b rest e goes h.
        (let picked : Picked p.rank s.active b rest = picked_of p.rank p.late s.active b rest e in (
          step_keeps_sound t p c lawful.ties s b rest picked goes h.0,
          step_keeps_cover t p c lawful bounds s b rest picked h.0 v h.1,
        ))) r
        (start_sound, start_covered v)

    reached_sound : (s : State N) → Reached t p c pool (start t.problem best₀) s → Sound t.problem s
    reached_sound s r = (reached_both s.best s r).0

    pub reached_known : (s : State N) → Reached t p c pool (start t.problem best₀) s → KnownIn t.problem s.best
    reached_known s r = (reached_sound s r).known

    -- The paper's Lemma 1.
    pub reached_alive :
        (s : State N) → Reached t p c pool (start t.problem best₀) s → (v : Option N) → Le t.problem v s.best
        → Good t.problem v t.problem.root → (x : N) × In x s.active × Good t.problem v x
    reached_alive s r v within g =
        let (sound, covered) = reached_both v s r in
        let k : Cover t.problem s t.problem.root = covered.root_covered within g in
        climb lawful s v within covered sound (suc limit) k.by (omega arith) k.live
        (cover_good lawful s v within covered sound t.problem.root stay k g)

    -- In an ended run no v at which some active node x is good goes before what is known. By the way the run ended: there is no active
    -- node; or the chosen node b is complete. Then x is complete and was learnt from; or its bound, which is within the cost of v, is above
    -- that of b, which is the cost of b, and b was learnt from.
    stop_least :
        Manner t p c.bound → (s : State N) → Reached t p c pool (start t.problem best₀) s → verdict t p c pool s ≡ stop
        → (v : Option N) (x : N) → In x s.active → Good t.problem v x → Le t.problem s.best v
    stop_least manner s r e v x m g = go (stop_cases t p c pool s e)
      where
        -- nor does it where it goes behind some y that was learnt from
        learnt : (y : N) → In y s.active → T (t.problem.complete y) → Le t.problem (some y) v → Le t.problem s.best v
        learnt y i whole low = le_trans lawful.ties s.best (some y) v ((reached_sound s r).leaves y i whole) low

        at :
            (b : N) → In b s.active → T (t.problem.complete b) → T (t.problem.complete x) ⊎ (c.bound b < c.bound x)
            → Le t.problem s.best v
        at b i whole (inl all) = learnt x m all (complete_good size limit lawful.sized v x all g)
        at b i whole (inr less) =
            learnt b i whole (cheaper_le t.problem b v (omega (arith, bounds.exact b whole, good_bound bounds v x g)))

        go :
            (pick p.late p.rank s.active ≡ nothing)
            ⊎ ((b : N) × (rest : List N) × (pick p.late p.rank s.active ≡ chosen b rest) × T (t.problem.complete b))
            → Le t.problem s.best v
        go (inl q) = absurd (Memᴰ.not-nil (subst (λ (l : List N). In x l) (picked_none p.rank p.late s.active q) m))
        go (inr (b, rest, q, whole)) =
            at b (picked_in (picked_of p.rank p.late s.active b rest q)) whole
            (all-complete t p c pool size limit lawful.sized manner best₀ s r b rest q whole x m)

    -- No order goes before what an ended run knows (request A.8).
    pub ended_least :
        Manner t p c.bound → (s : State N) → Reached t p c pool (start t.problem best₀) s → verdict t p c pool s ≡ stop
        → (y : N) → T (t.problem.complete y) → Leads t.problem t.problem.root y → Le t.problem s.best (some y)
    ended_least manner s r e y whole leads = go (le_total lawful.ties s.best (some y))
      where
        go : Le t.problem s.best (some y) ⊎ Le t.problem (some y) s.best → Le t.problem s.best (some y)
        go (inl h) = h
        go (inr within) =
            let (x, m, g) = reached_alive s r (some y) within (leaf_good lawful t.problem.root y whole leads) in
            stop_least manner s r e (some y) x m g

    -- What follows is of problems with an order.
    module _ (solvable : Solvable t.problem) where
      -- an ended run knows an order
      pub ended_known :
          Manner t p c.bound → (s : State N) → Reached t p c pool (start t.problem best₀) s → verdict t p c pool s ≡ stop
          → (x : N) × (s.best ≡ some x) × T (t.problem.complete x) × Leads t.problem t.problem.root x
      ended_known manner s r e =
          go s.best (reached_known s r) (ended_least manner s r e solvable.0 solvable.1 solvable.2)
        where
          go :
              (best : Option N) → KnownIn t.problem best → Le t.problem best (some solvable.0)
              → (x : N) × (best ≡ some x) × T (t.problem.complete x) × Leads t.problem t.problem.root x
          go best unknown h = absurd (omega (arith, solvable.3))
          go best (known x whole leads) h = (x, refl, whole, leads)

      -- some active node leads to an order as good as the known one
      live_some :
          (s : State N) → Reached t p c pool (start t.problem best₀) s → (x : N) × In x s.active × Good t.problem s.best x
      live_some s r =
          reached_alive s r s.best (le_refl lawful.ties s.best) (root_good lawful solvable s.best (reached_known s r))

      -- the active set is never empty
      pub active_some : (s : State N) → Reached t p c pool (start t.problem best₀) s → (x : N) × In x s.active
      active_some s r = let (x, m, g) = live_some s r in (x, m)

      -- The floor: some active node's bound is at most the cost of any order. Of an order that goes behind what is known it is, for some
      -- active node's is at most the upper cost.
      pub active_below :
          (s : State N) → Reached t p c pool (start t.problem best₀) s → (y : N) → T (t.problem.complete y)
          → Leads t.problem t.problem.root y → (x : N) × In x s.active × (c.bound x ≤ t.problem.cost y)
      active_below s r y whole leads = at (le_total lawful.ties (some y) s.best)
        where
          at :
              Le t.problem (some y) s.best ⊎ Le t.problem s.best (some y)
              → (x : N) × In x s.active × (c.bound x ≤ t.problem.cost y)
          at (inl within) =
              let (x, m, g) = reached_alive s r (some y) within (leaf_good lawful t.problem.root y whole leads) in
              (x, m, good_bound bounds (some y) x g)
          at (inr behind) =
              let (x, m, g) = live_some s r in
              (x, m, omega (arith, good_bound bounds s.best x g, le_upper t.problem s.best (some y) behind))
