-- A step keeps the covers and the rest of what holds of a run's states (`Covered` and `Sound` of `Cover`).
-- Rule 4 needs no care of its own, since a branched node covers as well as an active one.
use mathlib.Core.Path.{◌≡◌, refl}
use mathlib.Core.Bool.{Bool, not}
use mathlib.Core.List.{List}
use mathlib.Core.Logic.{◌⊎◌, inl, inr}
use mathlib.Core.Option.{Option, some}
use Prim.Native.Nat.{ℕ}
use native.Mathlib.Omega.{arith}
use lib.Dec.{T, ltb, ltb→lt, T_not, not_T}
use Rattle.lists.specs.Lists.{In, any}
use Rattle.lists.proofs.Tests.{and_right, either}
use Rattle.lists.proofs.Members.{keep_in, any_in}
use Rattle.search.specs.Problem.{Problem, State, upper}
use Rattle.search.proofs.General.{Tree, Plan, Cut, taken, over, kids, learnt, kids₃, others₃, kids₄, kids₅, others₆, move}
use Rattle.search.proofs.Laws.{Le, Ties, Leads, stay, Good, Lawful, BoundLaws}
use Rattle.search.proofs.Pick.{Picked, picked_in, rest_in, in_rest}
use Rattle.search.proofs.Values.{le_upper, le_trans}
use Rattle.search.proofs.Learn.{learn-least, learn_known}
use Rattle.search.proofs.Move.{learnt_le, branched_next, next_branched, active_next, next_active}
use Rattle.search.proofs.Cover.{Covers, Live, Cover, Covered, Sound, leads_on, covers_good, covers_trans, good_bound}

-- a dominance rule leaves x, or some dominator of x is at hand
taken_cases :
    {N : Type 0} (P : Problem N) (rule : Bool) (ws : List N) (x : N)
    → T (not (taken P rule ws x)) ⊎ ((w : N) × In w ws × T (P.dominates w x))
unfolding taken
taken_cases {N} P rule ws x = go (either (taken P rule ws x))
  where
    go : T (taken P rule ws x) ⊎ T (not (taken P rule ws x)) → T (not (taken P rule ws x)) ⊎ ((w : N) × In w ws × T (P.dominates w x))
    go (inl h) = inr (any_in (λ w. P.dominates w x) ws (and_right rule (any (λ w. P.dominates w x) ws) h))
    go (inr h) = inl h

-- A step keeps the covers. Let v be what is known after the step, or go before it.
-- A good node's bound is within the upper cost, so rule 1 leaves it. What a node that rule 1 leaves covers stays covered: rule 8 leaves
-- the node, or a child dominates it and covers as much. So a good child is covered: rule 2 takes it for such a node, rule 4 for a
-- branched one, or it is active. And an old cover stays: a branched node is still branched, b is branched now, and another active one is
-- good with what it covers, both being nodes of the tree, so rule 1 leaves it.
module _
    {N : Type 0} (t : Tree N) (p : Plan N) (c : Cut N) {size : N → ℕ} {limit : ℕ} (lawful : Lawful t size limit)
    (bounds : BoundLaws t c.bound) (s : State N) (b : N) (rest : List N) (picked : Picked p.rank s.active b rest)
    (sound : Sound t.problem s)
  where
    module _ (v : Option N) (within : Le t.problem v (learnt t p c s b rest)) where
      good_stays : (x : N) → Good t.problem v x → T (not (over c (upper t.problem (learnt t p c s b rest)) x))
      unfolding over
      good_stays x g =
          not_T (over c u x)
          (λ h. omega (
            arith,
            le_upper t.problem v (learnt t p c s b rest) within,
            good_bound bounds v x g,
            ltb→lt u (c.bound x) (and_right c.rule1 (ltb u (c.bound x)) h),
          ))
        where
          u : ℕ
          u = upper t.problem (learnt t p c s b rest)

      others_cover : (w x : N) → In w (others₃ t p c s b rest) → Covers t.problem w x → Cover t.problem (move t p c s b rest) x
      unfolding others₆
      others_cover w x m k = go (taken_cases t.problem p.rule8 (kids₅ t p c s b rest) w)
        where
          go :
              T (not (taken t.problem p.rule8 (kids₅ t p c s b rest) w))
              ⊎ ((n : N) × In n (kids₅ t p c s b rest) × T (t.problem.dominates n w)) → Cover t.problem (move t p c s b rest) x
          go (inl free) = record {
            by = w;
            live = inl (active_next t p c s b rest w (inl (keep_in _ (others₃ t p c s b rest) w m free)));
            covers = k;
          }
          go (inr (n, new, d)) = record { by = n; live = inl (active_next t p c s b rest n (inr new)); covers = covers_trans lawful n w x d k }

      kids_cover : (x : N) → In x (t.problem.children b) → Good t.problem v x → Cover t.problem (move t p c s b rest) x
      unfolding kids₃ kids₄ kids₅ kids
      kids_cover x m g = two (taken_cases t.problem p.rule2 (others₃ t p c s b rest) x)
        where
          three : In x (kids₃ t p c s b rest)
          three = keep_in _ (kids t p c s b rest) x m (good_stays x g)

          four :
              In x (kids₄ t p c s b rest)
              → T (not (taken t.problem p.rule4 s.branched x)) ⊎ ((w : N) × In w s.branched × T (t.problem.dominates w x))
              → Cover t.problem (move t p c s b rest) x
          four i (inl free) = record {
            by = x;
            live = inl (active_next t p c s b rest x (inr (keep_in _ (kids₄ t p c s b rest) x i free)));
            covers = inl refl;
          }
          four i (inr (w, old, d)) = record { by = w; live = inr (branched_next t p c s b rest w (inl old)); covers = inr d }

          two :
              T (not (taken t.problem p.rule2 (others₃ t p c s b rest) x))
              ⊎ ((w : N) × In w (others₃ t p c s b rest) × T (t.problem.dominates w x)) → Cover t.problem (move t p c s b rest) x
          two (inl free) =
              four (keep_in _ (kids₃ t p c s b rest) x three free) (taken_cases t.problem p.rule4 s.branched x)
          two (inr (w, i, d)) = others_cover w x i (inr d)

      cover_stays :
          (x : N) → Leads t.problem t.problem.root x → Cover t.problem s x → Good t.problem v x
          → Cover t.problem (move t p c s b rest) x
      unfolding others₃
      cover_stays x inside k g = go k.live
        where
          good : Good t.problem v k.by
          good = covers_good lawful v k.by x (sound.inside k.by k.live) inside k.covers g

          at : (k.by ≡ b) ⊎ In k.by rest → Cover t.problem (move t p c s b rest) x
          at (inl e) = record { by = k.by; live = inr (branched_next t p c s b rest k.by (inr e)); covers = k.covers }
          at (inr m) = others_cover k.by x (keep_in _ rest k.by m (good_stays k.by good)) k.covers

          go : Live t.problem s k.by → Cover t.problem (move t p c s b rest) x
          go (inl m) = at (in_rest picked k.by m)
          go (inr m) = record { by = k.by; live = inr (branched_next t p c s b rest k.by (inl m)); covers = k.covers }

    pub step_keeps_cover : (v : Option N) → Covered t.problem v s → Covered t.problem v (move t p c s b rest)
    unfolding move
    step_keeps_cover v h = record {
      root_covered = λ within g. cover_stays v within t.problem.root stay (h.root_covered (earlier within) g) g;
      child = λ within z x m i g. go within x g z i (next_branched t p c s b rest z m);
    }
      where
        earlier : Le t.problem v (learnt t p c s b rest) → Le t.problem v s.best
        earlier within =
            le_trans lawful.ties v (learnt t p c s b rest) s.best within (learnt_le t p c s b rest lawful.ties)

        go :
            Le t.problem v (learnt t p c s b rest) → (x : N) → Good t.problem v x → (z : N) → In x (t.problem.children z)
            → In z s.branched ⊎ (z ≡ b) → Cover t.problem (move t p c s b rest) x
        go within x g z i (inl m) = cover_stays v within x (leads_on (sound.inside z (inr m)) i) (h.child (earlier within) z x m i g) g
        go within x g z i (inr e) = kids_cover v within x (rw (← e) i) g

-- A step keeps what else holds: b is not complete, or the run would have ended; a complete child has been learnt from; an active node
-- was active or is a child of one, and b was active.
module _
    {N : Type 0} (t : Tree N) (p : Plan N) (c : Cut N) (ties : Ties t.problem) (s : State N) (b : N) (rest : List N)
    (picked : Picked p.rank s.active b rest)
  where
    pub step_keeps_sound : T (not (t.problem.complete b)) → Sound t.problem s → Sound t.problem (move t p c s b rest)
    unfolding move learnt kids
    step_keeps_sound goes h = record {
      partial = λ z m whole. partial z whole (next_branched t p c s b rest z m);
      leaves = λ x m whole. leaves x whole (next_active t p c s b rest x m);
      inside = inside;
      known = learn_known t.problem s.best (t.problem.children b) h.known (λ x m. active x (inr m));
    }
      where
        partial : (z : N) → T (t.problem.complete z) → In z s.branched ⊎ (z ≡ b) → ⊥
        partial z whole (inl m) = h.partial z m whole
        partial z whole (inr e) = T_not (t.problem.complete b) goes (rw (← e) whole)

        leaves :
            (x : N) → T (t.problem.complete x) → In x rest ⊎ In x (t.problem.children b)
            → Le t.problem (learnt t p c s b rest) (some x)
        leaves x whole (inl m) =
            le_trans ties (learnt t p c s b rest) s.best (some x) (learnt_le t p c s b rest ties) (h.leaves x (rest_in picked x m) whole)
        leaves x whole (inr m) = learn-least ties s.best (t.problem.children b) x m whole

        inside_b : Leads t.problem t.problem.root b
        inside_b = h.inside b (inl (picked_in picked))

        active : (x : N) → In x rest ⊎ In x (t.problem.children b) → Leads t.problem t.problem.root x
        active x (inl m) = h.inside x (inl (rest_in picked x m))
        active x (inr m) = leads_on inside_b m

        branched : (x : N) → In x s.branched ⊎ (x ≡ b) → Leads t.problem t.problem.root x
        branched x (inl m) = h.inside x (inr m)
        branched x (inr e) = rw e inside_b

        inside : (x : N) → Live t.problem (move t p c s b rest) x → Leads t.problem t.problem.root x
        inside x (inl m) = active x (next_active t p c s b rest x m)
        inside x (inr m) = branched x (next_branched t p c s b rest x m)
