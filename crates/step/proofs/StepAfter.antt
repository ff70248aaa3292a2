-- What the pool and the counts show after a step (`stage_shown`): the nodes that stay and the children that survive, b in front of those at
-- the far end, and each count as the written step has it.
use mathlib.Core.Path.{◌≡◌, refl, sym, ◌∙◌, ap, ap₂, subst}
use mathlib.Core.Bool.{Bool, true, false, cond}
use mathlib.Core.List.{List, ◌∷◌, [], ◌++◌, reverse, reverse-append}
use Prim.Native.Nat.{ℕ, ◌+◌, max}
use native.Mathlib.Omega.{arith}
use lib.Dec.{T}
use lib.ListN.{length, length-append, length-reverse}
use borrow.Author.Tests.{ne_eqb}
use Rattle.search.specs.Problem.{State}
use Rattle.search.specs.Step.{on, children₁, best₂, active₇, step}
use Rattle.stops.specs.declared.node_record.Record.{Record}
use Rattle.records.specs.Code.{records}
use Rattle.lanes.specs.Code.{far_of}
use Rattle.lanes.specs.declared.layout.Layout.{Layout}
use Rattle.children.specs.Code.{Table, children_of, rec_problem}
use Rattle.children.specs.declared.setting.Setting.{Setting}
use Rattle.replacement.specs.Code.{Committed, far_with}
use Rattle.step.specs.Code.{held_of, Ready, Shown, Expansion, node_at, rest_at, far_in, change_of, step_of, run_after}
use Rattle.step.specs.declared.Expanded.{Expanded}
use Rattle.step.specs.declared.Run.{Run}
use Rattle.step.proofs.StepLaws.{Bounded, eliminated_are}
use Rattle.step.proofs.StepShown.{stage_active, stage_rest, active_count}

module _
    {d : Setting} {t : Table} {w index : List ℕ} {i : ℕ} {r : Run} {e : Expanded} {kids : List Record}
    (made : Expansion d t w (node_at w i) r e kids) (small : Bounded (records w)) (ready : Ready d t w index i r)
    (s : State Record) (shown : Shown d w index r s) (w' index' : List ℕ) (q : Layout)
    (put : Committed (records w) r.layout i (node_at w i) (change_of d r e) kids (records w') q index')
    (generated : ℕ) (all : generated ≡ length (children_of d t (node_at w i)))
  where
    abbrev b : Record
    b = node_at w i

    abbrev rest : List Record
    rest = rest_at w r i

    count_active : q.active ≡ length (step_of d t (node_at w i) (rest_at w r i) s).active
    count_active = put.counted ∙ sym (active_count made small ready s shown)

    shown-far : far_of q.far (records w') ≡ held_of (on 4 d.rules) (step_of d t (node_at w i) (rest_at w r i) s).branched
    unfolding step_of step
    shown-far = ap (λ (k : ℕ). far_of k (records w')) put.far-count ∙ put.far-end ∙ go (on 4 d.rules) shown.far
      where
        go :
            (rule : Bool) → far_in w r ≡ held_of rule s.branched
            → far_with (cond rule (r.layout.far + 1) 0) b (far_in w r) ≡ held_of rule (s.branched ++ (b ∷ []))
        go true f =
            ap (λ (none : Bool). cond none [] (b ∷ far_in w r)) (ne_eqb (r.layout.far + 1) 0 (λ z. omega arith))
            ∙ ap (λ (l : List Record). b ∷ l) f
            ∙ sym (reverse-append s.branched (b ∷ []))
        go false f = refl

    count-far : q.far ≡ length (held_of (on 4 d.rules) (step_of d t (node_at w i) (rest_at w r i) s).branched)
    unfolding step_of step
    count-far = put.far-count ∙ go (on 4 d.rules) shown.far-count
      where
        go :
            (rule : Bool) → r.layout.far ≡ length (held_of rule s.branched)
            → cond rule (r.layout.far + 1) 0 ≡ length (held_of rule (s.branched ++ (b ∷ [])))
        go true h =
            let g : length (reverse s.branched) ≡ length s.branched = length-reverse s.branched in
            let f : length (reverse (s.branched ++ (b ∷ []))) ≡ length (s.branched ++ (b ∷ [])) = length-reverse (s.branched ++ (b ∷ [])) in
            omega (arith, length-append s.branched (b ∷ []))
        go false h = refl

    pub stage_shown : Shown d w' index' (run_after r e.best generated q) (step_of d t (node_at w i) (rest_at w r i) s)
    unfolding run_after step_of step best₂ children₁ rec_problem active₇
    stage_shown = record {
      laid = put.laid;
      ranks = λ below. subst T (sym put.one_pool.ranked) (shown.ranks below);
      active = put.nodes ∙ sym (stage_active made small ready s shown);
      active_count = count_active;
      far = shown-far;
      far-count = count-far;
      best = made.learnt t s.best shown.best;
      branched = omega (arith, shown.branched, length-append s.branched (b ∷ []));
      generated = omega (arith, shown.generated, all);
      eliminated = omega (arith, eliminated_are d t s b rest, count_active, shown.eliminated, stage_rest made small ready, all);
      most = ap₂ max shown.most count_active;
    }
