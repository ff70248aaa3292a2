-- Two states of two jobs, side by side, and the steps that keep them so. A is the job with the closer bound, B the other.
--   Closer       B's bound is at most A's, B has rule 1 only if A has, and B's budget ends no later than A's
--   Out, OutAt   what a job's rule 1 throws out at an upper cost; at the upper cost of a state
--   Below a b    a's lists are b's without nodes that A's rule 1 throws out, and a's upper cost and counts are no more than b's
-- Of what A and B know, only the costs are compared: that A's order is no dearer suffices, smaller or not.
-- Two such states stay so when both jobs branch one node (`both_step`), and when B alone branches a node that is Out (`alone_step`).
-- If A has no rule 1, nothing is Out, and the lists are equal.
use mathlib.Core.Bool.{Bool, not}
use mathlib.Core.List.Memᴰ
use mathlib.Core.List.{List, [], ◌∷◌}
use mathlib.Core.Logic.{◌⊎◌, inl, inr}
use mathlib.Core.Option.{Option, some}
use Prim.Native.Nat.{ℕ, ◌+◌, ◌≤◌, ◌<◌}
use native.Mathlib.Omega.{arith}
use lib.Dec.{T, ltb, ltb→lt, lt→ltb, T_not}
use lib.ListN.{length}
use Rattle.lists.specs.Lists.{In, any}
use Rattle.lists.proofs.Tests.{and_left, and_right, and_both}
use Rattle.lists.proofs.Members.{in_keep, any_in, in_any}
use Rattle.search.specs.Problem.{Problem, State, upper}
use Rattle.search.specs.Step.{survivors, learn}
use Rattle.search.proofs.General.{Tree, Plan, Cut, taken, over, kids, learnt, kids₃, others₃, kids₄, kids₅, others₆, move}
use Rattle.search.proofs.Laws.{Ties, BoundLaws, Adds}
use Rattle.search.proofs.Values.{le_upper}
use Rattle.search.proofs.Learn.{learn_keeps, learn-least}
use Rattle.search.proofs.Move.{learnt_le}
use Rattle.search.proofs.Thin.{Thin, nil, same, Trimmed, trimmed_append, thin_self, thin_weaken, thin_append, thin_more, thin_length, thin_in, thin_cases, thin_survivors, thin_right}

pub record Closer {N : Type 0} (c_a c_b : Cut N) : Type 0 where
  pub closer : (x : N) → c_b.bound x ≤ c_a.bound x
  pub stricter : T c_b.rule1 → T c_a.rule1
  pub longer : (j k : ℕ) → j ≤ k → T (c_b.allows k) → T (c_a.allows j)

-- what rule 1 throws out at the upper cost u
abbrev pub Out : {N : Type 0} → Cut N → ℕ → N → Type 0
Out c u x = T (over c u x)

-- what rule 1 throws out at the upper cost of the state
abbrev pub OutAt : {N : Type 0} → Tree N → Cut N → State N → N → Type 0
OutAt t c s x = Out c (upper t.problem s.best) x

pub record Below {N : Type 0} (t : Tree N) (c_a : Cut N) (a b : State N) : Type 0 where
  -- none of A's active nodes would be thrown out
  pub active : Trimmed (OutAt t c_a a) a.active b.active
  pub branched : Thin (OutAt t c_a a) a.branched b.branched
  pub cost : upper t.problem a.best ≤ upper t.problem b.best
  pub generated : a.generated ≤ b.generated
  pub most : a.most ≤ b.most

-- the upper cost after some nodes is no less than u, if it was not and the nodes' costs are not
learn_ge :
    {N : Type 0} (P : Problem N) (u : ℕ) (best : Option N) (cs : List N) → u ≤ upper P best
    → ((c : N) → In c cs → T (P.complete c) → u ≤ P.cost c) → u ≤ upper P (learn P best cs)
learn_ge P u best cs old new = learn_keeps P (λ o. u ≤ upper P o) best cs old (λ o c m whole first h. new c m whole)

module _ {N : Type 0} where
  pub out_lt : (c : Cut N) (u : ℕ) (x : N) → Out c u x → u < c.bound x
  unfolding over
  out_lt c u x h = ltb→lt u (c.bound x) (and_right c.rule1 (ltb u (c.bound x)) h)

  -- what is Out stays so under a cut that has rule 1 too, at a lower upper cost, and for a node with a greater bound
  pub out_more :
      (c c' : Cut N) (u u' : ℕ) (x x' : N) → (T c.rule1 → T c'.rule1) → u' ≤ u → c.bound x ≤ c'.bound x'
      → Out c u x → Out c' u' x'
  unfolding over
  out_more c c' u u' x x' rule1 le bound h =
      and_both c'.rule1 (ltb u' (c'.bound x')) (rule1 (and_left c.rule1 (ltb u (c.bound x)) h))
      (lt→ltb u' (c'.bound x') (omega (arith, out_lt c u x h)))

survivor_in : {N : Type 0} (test : N → Bool) (xs : List N) (x : N) → In x (survivors test xs) → In x xs × (T (test x) → ⊥)
survivor_in test xs x m = let (i, k) = in_keep (λ y. not (test y)) xs x m in (i, λ h. T_not (test x) k h)

module _ {N : Type 0} (P : Problem N) (rule : Bool) where
  taken_some : (ws : List N) (x : N) → T (taken P rule ws x) → (w : N) × In w ws × T (P.dominates w x)
  unfolding taken
  taken_some ws x h = any_in (λ w. P.dominates w x) ws (and_right rule (any (λ w. P.dominates w x) ws) h)

  taken_more :
      (ws vs : List N) (x : N) → ((w : N) → In w ws → T (P.dominates w x) → In w vs) → T (taken P rule ws x) → T (taken P rule vs x)
  unfolding taken
  taken_more ws vs x into h =
      let (w, m, d) = taken_some ws x h in
      and_both rule (any (λ v. P.dominates v x) vs) (and_left rule (any (λ v. P.dominates v x) ws) h)
      (in_any (λ v. P.dominates v x) vs w (into w m d) d)

module _ {N : Type 0} (t : Tree N) (c : Cut N) (bounds : BoundLaws t c.bound) where
  out_dominated : (u : ℕ) (w x : N) → T (t.problem.dominates w x) → Out c u w → Out c u x
  out_dominated u w x d h = out_more c c u u w x (λ k. k) (omega arith) (bounds.fair w x d) h

  -- One dominance rule, on both sides. The dominators ws of A are B's vs without nodes that are Out, and so are the nodes xs that
  -- are tested, none of which is Out. A node of xs that is free of ws is free of vs: a dominator in vs is in ws, or is Out, and
  -- then what it dominates is Out too, for A's bound is fair. What is not free of ws is not free of vs, for all of ws is in vs.
  free_trimmed :
      (u : ℕ) (rule : Bool) {ws vs xs ys : List N} → Thin (Out c u) ws vs → Trimmed (Out c u) xs ys
      → Trimmed (Out c u) (survivors (taken t.problem rule ws) xs) (survivors (taken t.problem rule vs) ys)
  free_trimmed u rule {ws} {vs} {xs} {ys} dominators tested = record {
    thin =
        thin_survivors (taken t.problem rule ws) (taken t.problem rule vs) tested.thin
        (λ x m h. taken_more t.problem rule vs ws x (λ w i d. go x m w d (thin_cases dominators w i)) h)
        (λ x m h. inr (taken_more t.problem rule ws vs x (λ w i d. thin_in dominators w i) h));
    clean = λ x m. tested.clean x (survivor_in (taken t.problem rule ws) xs x m).0;
  }
    where
      go : (x : N) → In x xs → (w : N) → T (t.problem.dominates w x) → In w ws ⊎ Out c u w → In w ws
      go x m w d (inl i) = i
      go x m w d (inr out) = absurd (tested.clean x m (out_dominated u w x d out))

module _ {N : Type 0} (t : Tree N) (p : Plan N) (c_a c_b : Cut N) (ties : Ties t.problem) (adds : Adds t)
    (bounds : BoundLaws t c_a.bound) (closer : Closer c_a c_b) where
  -- what B's rule 1 throws out, A's throws out
  closer_out : (u v : ℕ) (x : N) → u ≤ v → Out c_b v x → Out c_a u x
  closer_out u v x le h = out_more c_b c_a v u x x closer.stricter le (closer.closer x) h

  -- Both branch x. A's new upper cost is no more than its old one and B's new one. At it rule 1 and each dominance rule leave A's
  -- lists trimmed against B's.
  module _ (a b : State N) (below : Below t c_a a b) (x : N) (rest_a rest_b : List N) (rest : Thin (OutAt t c_a a) rest_a rest_b) where
    abbrev now : ℕ
    now = upper t.problem (learnt t p c_a a x rest_a)

    abbrev now_b : ℕ
    now_b = upper t.problem (learnt t p c_b b x rest_b)

    now_le : now ≤ upper t.problem a.best
    now_le = le_upper t.problem (learnt t p c_a a x rest_a) a.best (learnt_le t p c_a a x rest_a ties)

    now_below : now ≤ now_b
    unfolding learnt kids
    now_below =
        learn_ge t.problem now b.best (kids t p c_b b x rest_b) (omega (arith, now_le, below.cost))
        (λ c m whole.
        le_upper t.problem (learnt t p c_a a x rest_a) (some c) (learn-least ties a.best (kids t p c_a a x rest_a) c m whole))

    at_now : {xs ys : List N} → Thin (OutAt t c_a a) xs ys → Thin (Out c_a now) xs ys
    at_now th = thin_weaken (λ y h. out_more c_a c_a (upper t.problem a.best) now y y (λ k. k) now_le (omega arith) h) th

    rule1_trimmed :
        {xs ys : List N} → Thin (Out c_a now) xs ys
        → Trimmed (Out c_a now) (survivors (over c_a now) xs) (survivors (over c_b now_b) ys)
    rule1_trimmed {xs} th = record {
      thin =
          thin_survivors (over c_a now) (over c_b now_b) th (λ y m h. closer_out now now_b y now_below h) (λ y m h. inl h);
      clean = λ y m. (survivor_in (over c_a now) xs y m).1;
    }

    kids₃_trimmed : Trimmed (Out c_a now) (kids₃ t p c_a a x rest_a) (kids₃ t p c_b b x rest_b)
    unfolding kids₃ kids
    kids₃_trimmed = rule1_trimmed (thin_self (t.problem.children x))

    others₃_trimmed : Trimmed (Out c_a now) (others₃ t p c_a a x rest_a) (others₃ t p c_b b x rest_b)
    unfolding others₃
    others₃_trimmed = rule1_trimmed (at_now rest)

    kids₄_trimmed : Trimmed (Out c_a now) (kids₄ t p c_a a x rest_a) (kids₄ t p c_b b x rest_b)
    unfolding kids₄
    kids₄_trimmed = free_trimmed t c_a bounds now p.rule2 others₃_trimmed.thin kids₃_trimmed

    kids₅_trimmed : Trimmed (Out c_a now) (kids₅ t p c_a a x rest_a) (kids₅ t p c_b b x rest_b)
    unfolding kids₅
    kids₅_trimmed = free_trimmed t c_a bounds now p.rule4 (at_now below.branched) kids₄_trimmed

    others₆_trimmed : Trimmed (Out c_a now) (others₆ t p c_a a x rest_a) (others₆ t p c_b b x rest_b)
    unfolding others₆
    others₆_trimmed = free_trimmed t c_a bounds now p.rule8 kids₅_trimmed.thin others₃_trimmed

    pub both_step : Below t c_a (move t p c_a a x rest_a) (move t p c_b b x rest_b)
    unfolding move kids
    both_step = record {
      active = trimmed_append others₆_trimmed kids₅_trimmed;
      branched = thin_append (at_now below.branched) (same x nil);
      cost = now_below;
      generated =
          let more : ℕ = length (t.problem.children x) in
          omega (arith, below.generated, adds x (a.generated + more), adds x (b.generated + more));
      most = omega (arith, below.most, thin_length (thin_append others₆_trimmed.thin kids₅_trimmed.thin));
    }

  -- B alone branches x, which is Out, and A waits. The children of x are Out too, for A's bound grows; so B's new upper cost is still no
  -- less than A's, B's rule 1 throws out nothing that A has, and its rule 8 neither, for A's bound is fair.
  module _ (a b : State N) (below : Below t c_a a b) (x : N) (rest_b : List N) (out : OutAt t c_a a x)
      (rest : Thin (OutAt t c_a a) a.active rest_b) where
    abbrev still : ℕ
    still = upper t.problem a.best

    abbrev after : ℕ
    after = upper t.problem (learnt t p c_b b x rest_b)

    kids_out : (y : N) → In y (t.problem.children x) → OutAt t c_a a y
    kids_out y m = out_more c_a c_a still still x y (λ k. k) (omega arith) (bounds.grows x y m) out

    still_below : still ≤ after
    unfolding learnt kids
    still_below =
        learn_ge t.problem still b.best (kids t p c_b b x rest_b) below.cost
        (λ c m whole. omega (arith, out_lt c_a still c (kids_out c m), bounds.exact c whole))

    kids₅_out : (y : N) → In y (kids₅ t p c_b b x rest_b) → OutAt t c_a a y
    unfolding kids₅ kids₄ kids₃ kids
    kids₅_out y m =
        kids_out y
        (survivor_in (over c_b after) (t.problem.children x) y
        (survivor_in (taken t.problem p.rule2 (others₃ t p c_b b x rest_b)) (kids₃ t p c_b b x rest_b) y
        (survivor_in (taken t.problem p.rule4 b.branched) (kids₄ t p c_b b x rest_b) y m).0).0).0

    rule8_spares : (y : N) → In y a.active → T (taken t.problem p.rule8 (kids₅ t p c_b b x rest_b) y) → ⊥
    rule8_spares y m h =
        let (w, i, d) = taken_some t.problem p.rule8 (kids₅ t p c_b b x rest_b) y h in
        below.active.clean y m (out_dominated t c_a bounds still w y d (kids₅_out w i))

    others₆_thin : Thin (OutAt t c_a a) a.active (others₆ t p c_b b x rest_b)
    unfolding others₆ others₃
    others₆_thin =
        thin_right (taken t.problem p.rule8 (kids₅ t p c_b b x rest_b))
        (thin_right (over c_b after) rest (λ y m h. below.active.clean y m (closer_out still after y still_below h))) rule8_spares

    pub alone_step : Below t c_a a (move t p c_b b x rest_b)
    unfolding move
    alone_step = record {
      active = record {
        thin = thin_more others₆_thin (kids₅ t p c_b b x rest_b) kids₅_out;
        clean = below.active.clean;
      };
      branched = thin_more below.branched (x ∷ []) (λ y m. rw (Memᴰ.eq_of_singleton m) out);
      cost = still_below;
      generated = omega (arith, below.generated, adds x (b.generated + length (kids t p c_b b x rest_b)));
      most = omega (arith, below.most);
    }
