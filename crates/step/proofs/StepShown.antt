-- From what the functions of a step give to what is active and kept afterwards.
--   stage_active    the active nodes afterwards are those of the written step
--   stage_kept      the nodes to keep are as many as the code counts
--   stage_rest, stage_few, stage_room    as many active nodes as there are beside b and one more, of which no more stay; all have places
--   stage_born, stage_generated    the stops that b leaves, and how many children there are
--   stage_changing  what parts 6 and 7 ask; where U did not fall under rule 1, no active node is above the limit
use mathlib.Core.Path.{◌≡◌, refl, sym, ◌∙◌, ap, ap₂}
use mathlib.Core.Bool.{Bool, true, false, ◌&&◌, cond}
use mathlib.Core.List.{List, [], ◌∷◌, ◌++◌, reverse}
use mathlib.Core.Logic.{◌⊎◌, inl, inr}
use Prim.Native.Nat.{ℕ, suc, ◌+◌, ◌^◌, ◌≤◌, ◌<◌}
use native.Mathlib.Omega.{arith}
use borrow.Author.Tests.{leb-true, le-leb, ltb-false}
use lib.Dec.{T, leb, ltb}
use lib.ListN.{length, get_or, length-append, length-reverse}
use Rattle.sizes.specs.Sizes.{most_stops}
use Rattle.lists.specs.Lists.{In, keep}
use Rattle.lists.proofs.Numbers.{keep_parts}
use Rattle.search.specs.Problem.{Problem, Choices, State, upper}
use Rattle.search.specs.Step.{on, learn, children₁, best₂, children₅, rest₆, active₇, step}
use Rattle.search.specs.Run.{held, with_branched}
use Rattle.stops.specs.declared.node_record.Record.{Record}
use Rattle.stops.specs.Code.{empty_record, stops_in}
use Rattle.stops.proofs.SetBits.{stops_in_few}
use Rattle.records.specs.Code.{records, slots, Slotted, Thinned}
use Rattle.records.proofs.SlotLaws.{slots-none, slots_length, in_slots, thinned_same}
use Rattle.lanes.specs.Code.{sized, is_within}
use Rattle.lanes.proofs.LiveLaws.{others_few, live_few}
use Rattle.chains.specs.Code.{Sized}
use Rattle.chains.proofs.LaneLaws.{free-others}
use Rattle.children.specs.Code.{Table, rec_problem, rec_choices, children_of, limit_of, survivors_of, survives}
use Rattle.children.specs.declared.setting.Setting.{Setting}
use Rattle.children.proofs.BestLaws.{upper_best}
use Rattle.children.proofs.FamilyLaws.{born_slots, born_slotted, born_sized, born_apart, sized_less}
use Rattle.children.proofs.KidLaws.{children_live, born_live}
use Rattle.children.proofs.SurvivorLaws.{limit_below, limit-same, limit-all, survivors-kept}
use Rattle.replacement.specs.Code.{is_staying, staying_of, Changing}
use Rattle.step.specs.Code.{held_of, Ready, Shown, Expansion, active_in, far_in, node_at, rest_at, change_of, far_after, step_of}
use Rattle.step.specs.declared.Expanded.{Expanded}
use Rattle.step.specs.declared.Run.{Run}
use Rattle.step.proofs.StepLaws.{Bounded, Live, survivors_are, staying_are}
use Rattle.step.proofs.NodeLaws.{node_live, others_in, far-bounded}

-- what stays of the active nodes, from what parts 1 to 5 gave
abbrev pub staying_after : Setting → List ℕ → ℕ → Run → Expanded → List Record → List Record
staying_after d w i r e kids = staying_of (records w) r.layout i (change_of d r e) kids

-- how many children survive
abbrev pub left_of : Expanded → List Record → ℕ
left_of e kids = length (slots e.alive kids)

module _
    {d : Setting} {t : Table} {w index : List ℕ} {i : ℕ} {r : Run} {e : Expanded} {kids : List Record}
    (made : Expansion d t w (node_at w i) r e kids) (small : Bounded (records w)) (ready : Ready d t w index i r)
  where
    abbrev Q : Problem Record
    Q = rec_problem d t

    abbrev D : Choices Record
    D = rec_choices d

    abbrev rules : ℕ
    rules = d.rules

    -- b, the other active nodes and the branched ones
    abbrev b : Record
    b = node_at w i

    abbrev rest : List Record
    rest = rest_at w r i

    abbrev far : List Record
    far = far_in w r

    abbrev used : ℕ
    used = r.layout.used

    abbrev staying : List Record
    staying = staying_after d w i r e kids

    within-records : used ≤ length (records w)
    within-records = omega (arith, ready.laid.whole, ready.laid.fits)

    rest-among : (x : Record) → In x (rest_at w r i) → In x (active_in w r)
    rest-among = others_in (records w) used i ready.inside within-records ready.live

    rest_live : Live (rest_at w r i)
    rest_live x m = node_live _ x (rest-among x m)

    -- b has another set than its children, so that these survive by the active nodes if they survive by the others
    surviving : Thinned (survives d.rules e.limit (rest_at w r i) (far_in w r)) kids e.born e.alive
    unfolding sized
    surviving = thinned_same made.surviving same
      where
        apart : (x : Record) → In x (slots e.born kids) → (get_or (records w) i empty_record).set ≡ x.set → ⊥
        apart x m q =
            let (s, k, there) = in_slots kids e.born x m in
            born_apart ready.rows ready.encoded made.children s k (ap (λ (y : Record). y.set) (sym there) ∙ sym q)

        same :
            (x : Record) → In x (slots e.born kids)
            → survives d.rules e.limit (active_in w r) (far_in w r) x ≡ survives d.rules e.limit (rest_at w r i) (far_in w r) x
        same x m = rw (free-others e.limit (records w) x used i ready.inside within-records (apart x m))

    module _ (s : State Record) (shown : Shown d w index r s) where
      same-limit : limit_of (on 1 rules) (upper Q (best₂ Q D s b rest)) ≡ e.limit
      unfolding best₂ children₁ rec_problem
      same-limit =
          ap (limit_of (on 1 rules)) (upper_best d t e.best (learn Q s.best (children_of d t b)) (made.learnt t s.best shown.best))
          ∙ sym made.limited

      same-survivors : children₅ Q D s b rest ≡ slots e.alive kids
      same-survivors =
          survivors_are d t s b rest far (children_live ready.rows ready.encoded) rest_live (far-bounded (records w) r.layout.far small)
          shown.far
          ∙ ap₂ (λ (u : ℕ) (xs : List Record). survivors_of rules u rest far xs) same-limit (sym (born_slots ready.rows ready.encoded made.children))
          ∙ survivors-kept rules e.limit rest far (slots e.born kids)
          ∙ sym surviving.same

      same-staying : rest₆ Q D s b rest ≡ staying
      unfolding staying_of
      same-staying =
          staying_are d t s b rest rest_live
          ∙ ap₂ (λ (u : ℕ) (ks : List Record). keep (is_staying u ks) rest) same-limit (go (on 8 rules))
        where
          go : (rule : Bool) → cond rule (children₅ Q D s b rest) [] ≡ slots (cond rule e.alive 0) kids
          go true = same-survivors
          go false = sym (slots-none kids)

      -- the active nodes afterwards
      pub stage_active : (step_of d t (node_at w i) (rest_at w r i) s).active ≡ staying_after d w i r e kids ++ slots e.alive kids
      unfolding step_of step active₇
      stage_active = ap₂ (λ (xs ys : List Record). xs ++ ys) same-staying same-survivors

      pub active_count : length (step_of d t (node_at w i) (rest_at w r i) s).active ≡ length (staying_after d w i r e kids) + left_of e kids
      active_count = ap length stage_active ∙ length-append staying (slots e.alive kids)

      -- the nodes to keep
      pub stage_kept :
          length (held d.rules (step_of d t (node_at w i) (rest_at w r i) s)) ≡ length (staying_after d w i r e kids) + left_of e kids + far_after d r
      unfolding held step_of step
      stage_kept = go (on 4 rules) shown.far-count
        where
          active : List Record
          active = (step_of d t b rest s).active

          go :
              (rule : Bool) → r.layout.far ≡ length (held_of rule s.branched)
              → length (with_branched rule active (s.branched ++ (b ∷ []))) ≡ length staying + left_of e kids + cond rule (r.layout.far + 1) 0
          go true h =
              length-append active (s.branched ++ (b ∷ []))
              ∙ (let q : length (s.branched ++ (b ∷ [])) ≡ length s.branched + 1 = length-append s.branched (b ∷ []) in
              let g : length (reverse s.branched) ≡ length s.branched = length-reverse s.branched in omega (arith, active_count))
          go false h = omega (arith, active_count)

    -- b is one of the active nodes, and no more stay than the others
    pub stage_rest : suc (length (rest_at w r i)) ≡ r.layout.active
    stage_rest = others_few (records w) used within-records i ready.inside ready.live ∙ sym ready.counted

    pub stage_few : suc (length (staying_after d w i r e kids)) ≤ r.layout.active
    unfolding staying_of
    stage_few = omega (arith, stage_rest, keep_parts (is_staying e.limit (slots (change_of d r e).taking kids)) rest)

    pub stage_room : r.layout.active ≤ length (records w)
    stage_room = omega (arith, ready.counted, live_few (records w) used, within-records)

    -- where U did not fall under rule 1, no active node is above the limit
    stage_right : (change_of d r e).fell ≡ false → (x : Record) → In x (rest_at w r i) → x.bound ≤ e.limit
    unfolding is_within
    stage_right fell x m =
        leb-true x.bound e.limit (ap (leb x.bound) made.limited ∙ go (on 1 rules) ready.tidy fell)
      where
        go :
            (rule : Bool) → (T rule → (y : Record) → In y (active_in w r) → y.bound ≤ r.best.upper)
            → (rule && ltb e.best.upper r.best.upper) ≡ false → leb x.bound (limit_of rule e.best.upper) ≡ true
        go true tidy f =
            let low : x.bound ≤ r.best.upper = tidy tt x (rest-among x m) in
            let kept : r.best.upper ≤ e.best.upper = ltb-false e.best.upper r.best.upper f in
            limit-same e.best.upper x (rest_live x m) ∙ le-leb x.bound e.best.upper (omega arith)
        go false tidy f = limit-all e.best.upper x (rest_live x m)

    -- the set of the stops that b leaves fits; there are as many children as such stops, and no fewer than survive
    pub stage_born : e.born < 2 ^ most_stops
    stage_born = made.children.small

    pub stage_generated :
        (m : ℕ) → m ≡ length (stops_in e.born)
        → (m ≡ length (children_of d t (node_at w i))) × (left_of e kids ≤ m) × (m ≤ most_stops)
    stage_generated m count = (
      count ∙ sym (slots_length kids e.born) ∙ ap length (born_slots ready.rows ready.encoded made.children),
      omega (arith, keep_parts (survives rules e.limit rest far) (slots e.born kids), ap length surviving.same, slots_length kids e.born),
      omega (arith, stops_in_few e.born stage_born),
    )

    -- the survivors stand in their slots, with their sizes
    survivors_stand : Slotted e.alive kids × Sized e.alive kids
    survivors_stand =
        sized_less
        (born_slotted ready.rows ready.encoded made.children, born_sized ready.rows ready.encoded made.children)
        made.surviving.small
        made.surviving.among

    pub stage_changing : Changing (records w) r.layout i (change_of d r e) kids
    stage_changing = record {
      whole = ready.laid.whole;
      front = ready.laid.fits;
      counted = ready.counted;
      inside = ready.inside;
      live = ready.live;
      limited = rw made.limited (limit_below (on 1 rules) e.best.upper);
      slotted = survivors_stand.0;
      sizes = survivors_stand.1;
      lives = λ s m. born_live ready.rows ready.encoded made.children s (made.surviving.among s m);
      takes = take (on 8 rules);
      right = stage_right;
      back = hold (on 4 rules) ready.unheld;
    }
      where
        take : (rule : Bool) → (cond rule e.alive 0 ≡ e.alive) ⊎ (cond rule e.alive 0 ≡ 0)
        take true = inl refl
        take false = inr refl

        hold :
            (rule : Bool) → (rule ≡ false → r.layout.far ≡ 0)
            → ((cond rule (r.layout.far + 1) 0 ≡ 0) × (r.layout.far ≡ 0)) ⊎ (cond rule (r.layout.far + 1) 0 ≡ r.layout.far + 1)
        hold true unheld = inr refl
        hold false unheld = inl (refl, unheld refl)
