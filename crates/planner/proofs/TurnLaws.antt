-- One turn of a run that goes on (`Running`): what comes next of its state is told by the records in the pool.
--   turn_chooses, turn_ready    what `choose` and `step` require; turn-counts: some place has an active node
--   turn_finishes, turn_stops, turn_full, turn_goes    each of the turn's answers is what comes next of the state
-- b is the node that the selection picks, and rest are the other active ones. P and C are the problem and the choices of the run, Q and D
-- the same on records, and S the state that the pool shows.
use mathlib.Core.Path.{◌≡◌, refl, sym, ◌∙◌, ap, subst}
use mathlib.Core.Bool.{Bool, true, false}
use mathlib.Core.List.{List, map}
use mathlib.Core.Logic.{◌≢◌}
use mathlib.Core.Option
use Prim.Native.Nat.{ℕ, ◌+◌, ◌*◌, ◌^◌, ◌≤◌, ◌<◌}
use native.Mathlib.Omega.{arith}
use lib.Dec.{T, ltb, eqb}
use lib.ListN.{length, length-map}
use borrow.Author.Tests.{eqb-false, lt-ltb, le-ltb}
use Rattle.std.specs.Prelude.{None, Some}
use Rattle.sizes.specs.Sizes.{most_stops}
use Rattle.lists.specs.Lists.{In}
use Rattle.lists.proofs.Members.{in_map}
use Rattle.lists.proofs.Empty.{in_nonempty}
use Rattle.search.specs.Problem.{Problem, Choices, State, upper}
use Rattle.search.specs.Selection.{chosen, select_by, select, finishes}
use Rattle.search.specs.Step.{on}
use Rattle.search.specs.Run.{Next, finish, halt, overflow, go, unless, if_allowed, fitting, decide, next}
use Rattle.search.proofs.Plain.{tree, plan_of, cut_of}
use Rattle.search.proofs.Outcome.{steps_reached}
use Rattle.search.proofs.Optimal.{active_some}
use Rattle.search.proofs.Within.{active_within}
use Rattle.search.proofs.Bounded.{Bounded}
use Rattle.search.proofs.Mapped.{Maps, map_state, map_next, ValidState, upper_maps}
use Rattle.search.proofs.MappedRun.{next_maps, steps_valid, start_valid}
use Rattle.orders.specs.Orders.{Node, Partial, size, nodes}
use Rattle.orders.proofs.Tree.{nodes_rise}
use Rattle.stops.specs.declared.node_record.Record.{Record}
use Rattle.records.specs.Code.{records}
use Rattle.lanes.specs.Sizes.{blocks}
use Rattle.lanes.proofs.LiveLaws.{in_live}
use Rattle.blocks.specs.Code.{Blocked}
use Rattle.selection.specs.Code.{Chosen}
use Rattle.answer.specs.Answer.{given}
use Rattle.children.specs.Code.{Table, problem_of, choices_of, encode_of, rec_problem, rec_choices, Encoded}
use Rattle.children.specs.declared.setting.Setting.{Setting}
use Rattle.children.proofs.BestLaws.{upper_best}
use Rattle.children.proofs.RecordRun.{record_maps}
use Rattle.children.proofs.SettingLaws.{setting_lawful, setting_bounds, setting_solvable, setting_counts, choice_selection, choice_rules, given_known, given_valid, encode-size}
use Rattle.step.specs.Code.{Ready, Shown, held_of, active_in, node_at, rest_at, step_of, Stepping}
use Rattle.step.specs.declared.Run.{Run}
use Rattle.planner.specs.Code.{records_of, Running, Turned}
use Rattle.planner.specs.declared.run.Turn.TheVariants.{Finish, Stop, Full, Go}
use Rattle.planner.proofs.StartLaws.{root_within}

-- what comes next of a state, from what comes next of its image
module _ {N M : Type 0} (f : N → M) where
  unmap_finish : (y : Next N) → map_next f y ≡ finish → y ≡ finish
  unmap_finish finish e = refl
  unmap_finish halt e = cc
  unmap_finish overflow e = cc
  unmap_finish (go s) e = cc

  unmap_halt : (y : Next N) → map_next f y ≡ halt → y ≡ halt
  unmap_halt finish e = cc
  unmap_halt halt e = refl
  unmap_halt overflow e = cc
  unmap_halt (go s) e = cc

  unmap_overflow : (y : Next N) → map_next f y ≡ overflow → y ≡ overflow
  unmap_overflow finish e = cc
  unmap_overflow halt e = cc
  unmap_overflow overflow e = refl
  unmap_overflow (go s) e = cc

  unmap_go : (y : Next N) (s' : State M) → map_next f y ≡ go s' → (s : State N) × (y ≡ go s) × (map_state f s ≡ s')
  unmap_go finish s' e = absurd (let z : ◌≡◌ {A = ℕ} 0 1 = cc in omega arith)
  unmap_go halt s' e = absurd (let z : ◌≡◌ {A = ℕ} 0 1 = cc in omega arith)
  unmap_go overflow s' e = absurd (let z : ◌≡◌ {A = ℕ} 0 1 = cc in omega arith)
  unmap_go (go s) s' e = (s, refl, cc)

module _
    {d : Setting} {t : Table} {first w index : List ℕ} {r : Run} {s : State Node} (running : Running d t first w index r s)
  where
    abbrev P : Problem Node
    P = problem_of d t

    abbrev C : Choices Node
    C = choices_of d t

    abbrev Q : Problem Record
    Q = rec_problem d t

    abbrev D : Choices Record
    D = rec_choices d

    abbrev f : Node → Record
    f = encode_of d t

    abbrev S : State Record
    S = records_of d t s

    abbrev capacity : ℕ
    capacity = length (records w)

    -- the active nodes
    abbrev actives : List Record
    actives = active_in w r

    abbrev used : ℕ
    used = r.layout.used

    maps : Maps f (Partial d.n) P Q C D
    maps = record_maps running.rows

    valid : ValidState (Partial d.n) P s
    valid = steps_valid maps capacity running.steps (start_valid maps (given first) (given_valid d t first running.starts))

    used_inside : used ≤ length (records w)
    used_inside = omega (arith, running.shows.laid.fits, running.shows.laid.whole)

    count_same : r.layout.active ≡ length actives
    count_same = running.shows.active_count ∙ ap length (sym running.shows.active)

    -- some node is active: one that leads to an order as cheap as U
    some_active : 0 < length actives
    unfolding records_of
    some_active =
        let (x, m) =
        active_some (tree P) (plan_of P C) (cut_of C) capacity (size d.n) d.n (setting_lawful running.rows)
        (setting_bounds running.rows) (given first) (given_known running.rows first running.starts)
        (setting_solvable running.rows) s
        (steps_reached P C capacity (rw (choice_selection d t) running.selects) running.steps) in
        let h : length actives ≡ length (map f s.active) = ap length running.shows.active in
        omega (arith, length-map s.active f, in_nonempty m)

    pub turn_counts : (used ≤ length (records w)) × (0 < length actives)
    turn_counts = (used_inside, some_active)

    pub turn_chooses :
        ((used ≤ length (records w)) × (0 < length actives))
        × (d.selection < 3 → Blocked (records w) used (2 ^ r.layout.shift) index × (blocks * 2 ^ r.layout.shift < 2 ^ 62))
    turn_chooses = (turn_counts, λ h. let ranked = running.shows.laid.ranks (running.shows.ranks h) in (ranked.minima, ranked.reach))

    -- an active one is a node's record
    shown_node : (x : Record) → In x actives → (y : Node) × In y s.active × (x ≡ f y)
    unfolding records_of
    shown_node x m = in_map f s.active x (subst (λ (xs : List Record). In x xs) running.shows.active m)

    -- under rule 1 no active bound is above U
    shown_tidy : T (on 1 d.rules) → (x : Record) → In x actives → x.bound ≤ r.best.upper
    unfolding records_of rec_choices
    shown_tidy rule x m =
        let (y, at, same) = shown_node x m in
        let low : C.bound y ≤ upper P s.best =
        active_within P C capacity (given first) (root_within running.rows first running.starts) (rw (choice_rules d t) rule)
        running.steps y at in
        let bound : x.bound ≡ C.bound y = ap (λ (z : Record). z.bound) same ∙ maps.bound y (valid.active y at) in
        omega (
          arith,
          upper_maps maps s.best valid.best,
          upper_best d t r.best (Option.map f s.best) running.shows.best,
        )

    -- the counts are far below 2 to the power 62: none is above that of all nodes
    shown_room : r.generated + r.eliminated + r.branched < 2 ^ 62
    unfolding records_of
    shown_room =
        let counts : Bounded (nodes d.n) s = setting_counts d t capacity (given first) running.selects running.steps in
        let few : nodes d.n ≤ nodes most_stops = nodes_rise d.n most_stops running.rows.few in
        let all : nodes most_stops ≡ 56874039553217 = refl in
        let branched : r.branched ≡ length (map f s.branched) = running.shows.branched in
        omega (arith, length-map s.branched f, running.shows.generated, running.shows.eliminated)

    -- What comes next of S under Q and D is what comes next of s under P and C, mapped (next-shown). So it is enough to follow the turn
    -- on records, as the code does: the selection picks b at place i (shown-selects), the finish test on b is the code's,
    -- and so is the budget's; then the step is `step_of`. Only what `step` requires asks for the nodes behind the records: b is a
    -- partial order's, no active bound is above U under rule 1, and the counts are small.
    next-shown : next Q D capacity S ≡ map_next f (next P C capacity s)
    unfolding records_of
    next-shown = next_maps maps capacity s valid

    module _ {i : ℕ} (picked : Chosen d.n (records w) r.layout.used d.selection i) where
      abbrev b : Record
      b = node_at w i

      abbrev rest : List Record
      rest = rest_at w r i

      chosen_encoded : Encoded d t b
      chosen_encoded =
          let (x, m, e) = shown_node b (in_live (records w) used used_inside i picked.inside picked.live) in
          record { node = x; partial = valid.active x m; same = e }

      chosen_small : b.size ≤ d.n
      chosen_small =
          let x = chosen_encoded.node in
          let e : b.size ≡ size d.n x = ap (λ (y : Record). y.size) chosen_encoded.same ∙ encode-size d t x in
          omega (arith, (setting_lawful running.rows).sized.small x)

      -- What comes next of the records: the selection, the finish test, the budget and the step, one after the other.
      shown_selects : select Q D S.active ≡ chosen b rest
      unfolding select rec_problem rec_choices
      shown_selects =
          subst (λ (xs : List Record). select_by Q (λ x. x.bound) d.selection xs ≡ chosen b rest) running.shows.active
          (picked.picks Q (λ x. refl))

      -- the finish test of the code on a record
      abbrev ends : Record → Bool
      ends x = eqb x.size d.n

      shown-next : next Q D capacity S ≡ unless (ends b) (if_allowed (ltb r.branched d.budget) (fitting Q D capacity (step_of d t b rest S)))
      unfolding next decide finishes step_of rec_problem rec_choices
      shown-next = rw (shown_selects, running.shows.branched)

      -- The four answers, by the finish test's result on the record that was loaded, the budget and what the step gave.
      module _ {x : Record} (at : x ≡ node_at w i) {q : Bool} (tested : q ≡ ends x) where
        tests : ends b ≡ q
        tests = ap ends (sym at) ∙ sym tested

        pub turn_finishes : q ≡ true → Turned d t w w index s Finish
        turn_finishes e = (unmap_finish f _ (sym next-shown ∙ shown-next ∙ rw (tests, e)), refl)

        module _ (goes : q ≡ false) where
          goes_on : ends b ≡ false
          goes_on = tests ∙ goes

          pub turn_stops : d.budget ≤ r.branched → Turned d t w w index s Stop
          turn_stops spent = (unmap_halt f _ (sym next-shown ∙ shown-next ∙ rw (goes_on, le-ltb r.branched d.budget spent)), refl)

          pub turn_ready : Ready d t w index i r
          turn_ready = record {
            rows = running.rows;
            laid = running.shows.laid;
            counted = count_same;
            inside = picked.inside;
            live = picked.live;
            encoded = chosen_encoded;
            partial =
                let unlike : b.size ≢ d.n = eqb-false b.size d.n goes_on in
                omega (arith, chosen_small);
            tidy = shown_tidy;
            unheld = λ off.
                running.shows.far-count ∙ ap (λ (rule : Bool). length (held_of rule S.branched)) off;
            room = shown_room;
          }

          module _ (allowed : r.branched < d.budget) where
            put_to_pool : next Q D capacity S ≡ fitting Q D capacity (step_of d t b rest S)
            put_to_pool = shown-next ∙ rw (goes_on, lt-ltb r.branched d.budget allowed)

            pub turn_full :
                {w' : List ℕ} → Stepping d t (node_at w i) (rest_at w r i) w w' index (records_of d t s) None → Turned d t w w' index s Full
            unfolding fitting rec_choices
            turn_full (over, same) = (unmap_overflow f _ (sym next-shown ∙ put_to_pool ∙ rw (lt-ltb _ _ over)), same)

            pub turn_goes :
                {w' index' : List ℕ} {r' : Run} → Stepping d t (node_at w i) (rest_at w r i) w w' index' (records_of d t s) (Some r')
                → Turned d t w w' index' s (Go r')
            unfolding fitting rec_choices records_of
            turn_goes {w'} {index'} {r'} (fits, shown) =
                let (s', e, same) =
                unmap_go f (next P C capacity s) (step_of d t b rest S) (sym next-shown ∙ put_to_pool ∙ rw (le-ltb _ _ fits)) in
                (s', e, subst (Shown d w' index' r') (sym same) shown)
