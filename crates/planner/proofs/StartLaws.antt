-- How a run starts.
--   root_within    the bound of e is at most the U of the start
--   hold_ready, rank_ready    what `hold` and `reranked` ask, in an empty layout
--   start_laid     once a record has joined the active lane, it is all that the layout has
--   start-shown    once e has joined, the pool shows the state at the start
use mathlib.Core.Path.{◌≡◌, refl, sym, ◌∙◌, ap, ap₂, subst}
use mathlib.Core.Bool.{Bool, true, false, ◌||◌}
use mathlib.Core.List.{List, [], ◌∷◌, map}
use mathlib.Core.Logic.{◌⊎◌}
use mathlib.Core.Option
use Prim.Native.Nat.{ℕ, ◌+◌, ◌-◌, ◌*◌, ◌^◌, ◌≤◌, ◌<◌}
use native.Mathlib.Omega.{arith}
use lib.Dec.{T, ltb, ltb→lt, lt→ltb}
use lib.ListN.{length, get_or, drop, set, length-set}
use lib.Seq.{take-suc-set, drop-length}
use Rattle.lists.proofs.Tests.{and_right, or_left, or_right}
use Rattle.search.specs.Problem.{upper, start}
use Rattle.search.specs.Step.{on}
use Rattle.search.proofs.Cover.{root_within as root-lawful}
use Rattle.orders.specs.Pairs.{Allowed}
use Rattle.stops.specs.declared.node_record.Record.{Record}
use Rattle.records.specs.Code.{records}
use Rattle.answer.specs.Answer.{given}
use Rattle.lanes.specs.Sizes.{blocks, first_shift, most_linked, heads, active_heads, far_heads}
use Rattle.lanes.specs.Code.{sized, live_in, live_of, far_of, place_of}
use Rattle.lanes.specs.Layouts.{active_lane, far_lane}
use Rattle.lanes.specs.declared.Lane.{Lane}
use Rattle.lanes.specs.declared.layout.Layout.{Layout}
use Rattle.lanes.proofs.LiveLaws.{live_more}
use Rattle.chains.specs.Code.{Chained, joined_of, index_with}
use Rattle.chains.proofs.ChainLaws.{alike_same, chained_like, chained_none, chained_set}
use Rattle.chains.proofs.JoinLaws.{sized_joined, bound_joined, only_with}
use Rattle.blocks.specs.Code.{Same}
use Rattle.blocks.proofs.SelectLaws.{below_live}
use Rattle.pool.specs.Code.{Laid, Ranked}
use Rattle.children.specs.Code.{Table, pairs_by, problem_of, choices_of, encode_of, root_of, rec_problem, IsBest, Rows}
use Rattle.children.specs.declared.best.Best.{Best}
use Rattle.children.specs.declared.setting.Setting.{Setting}
use Rattle.children.proofs.KidLaws.{root_live, root_sized}
use Rattle.children.proofs.RecordRun.{record_maps}
use Rattle.children.proofs.SettingLaws.{given_known, setting_lawful, setting_bounds, setting_solvable}
use Rattle.step.specs.Code.{held_of, Shown}
use Rattle.planner.specs.Code.{records_of, links, layout_of, Roomy}

-- what is linked has few enough records
links_few : (rule : Bool) (capacity : ℕ) → T (links rule capacity) → capacity < 2 ^ 32
unfolding links
links_few rule capacity h = omega (arith, ltb→lt capacity most_linked (and_right rule (ltb capacity most_linked) h))

-- a layout with one node in its active lane
abbrev with_one : Layout → Layout
with_one p = record {
  capacity = p.capacity;
  used = 1;
  active = 1;
  far = p.far;
  shift = p.shift;
  ranked = p.ranked;
  linked = p.linked;
  far_linked = p.far_linked;
}

module _
    (d : Setting) (w : List ℕ) {index : List ℕ} {p : Layout}
    (empty : p ≡ layout_of d (length (records w))) (roomy : Roomy p index) (room : 1 ≤ length (records w))
  where
    whole : p.capacity ≡ length (records w)
    unfolding layout_of
    whole = ap (λ (q : Layout). q.capacity) empty

    unused : p.used ≡ 0
    unfolding layout_of
    unused = ap (λ (q : Layout). q.used) empty

    none-far : p.far ≡ 0
    unfolding layout_of
    none-far = ap (λ (q : Layout). q.far) empty

    narrow : p.shift ≡ first_shift
    unfolding layout_of
    narrow = ap (λ (q : Layout). q.shift) empty

    few : T p.linked → p.capacity < 2 ^ 32
    unfolding layout_of
    few h =
        rw whole
        (links_few (on 2 d.rules || on 8 d.rules) (length (records w)) (subst T (ap (λ (q : Layout). q.linked) empty) h))

    far_few : T p.far_linked → p.capacity < 2 ^ 32
    unfolding layout_of
    far_few h =
        rw whole
        (links_few (on 4 d.rules) (length (records w)) (subst T (ap (λ (q : Layout). q.far_linked) empty) h))

    long : T p.linked → active_heads + heads ≤ length index
    long h = omega (arith, roomy.heads (or_left p.linked p.far_linked h))

    far_long : T p.far_linked → far_heads + heads ≤ length index
    far_long h = omega (arith, roomy.heads (or_right p.linked p.far_linked h))

    pub hold_ready :
        {lane : Lane} → lane ≡ active_lane p
        → (0 < lane.end → lane.count < lane.end)
        × ((place_of lane.end (lane.count + 1) < length (records w))
        × (T lane.linked → (lane.count + 1 < 2 ^ 32) × (lane.heads + heads ≤ length index)))
    hold_ready same = rw (same, unused) ((λ h. absurd (omega arith)), (room, λ h. (omega arith, long h)))

    module _
        (x : Record) {lane : Lane} (same : lane ≡ active_lane p) (w' : List ℕ) {index' : List ℕ}
        (stored : records w' ≡ set (records w) (place_of lane.end (lane.count + 1)) (joined_of lane index x))
        (joined : index' ≡ index_with lane (lane.count + 1) index x)
      where
        put : records w' ≡ set (records w) 0 (joined_of (active_lane p) index x)
        put = stored ∙ rw (same, unused)

        put_index : index' ≡ index_with (active_lane p) 1 index x
        put_index = joined ∙ rw (same, unused)

        same-capacity : length (records w') ≡ length (records w)
        same-capacity = ap length put ∙ length-set (records w) 0 (joined_of (active_lane p) index x)

        same_index : length index' ≡ length index
        same_index = ap length put_index ∙ (only_with (active_lane p) 1 index x).same_length

        pub rank_ready :
            T p.ranked
            → (blocks ≤ length index') × ((1 ≤ length (records w')) × ((1 ≤ blocks * 2 ^ p.shift) × (blocks * 2 ^ p.shift < 2 ^ 62)))
        rank_ready h = rw narrow (omega (arith, same_index, same-capacity, roomy.minima h))

        module _
            (its_size : x ≡ sized x) {index'' : List ℕ} (ranked : T p.ranked → Ranked (records w') (with_one p) index'')
            (heads-stay : Same index' index'')
          where
            chained : T p.linked → Chained (records w') (active_lane (with_one p)) index''
            chained h =
                chained_like (records w') (records w') (active_lane (with_one p)) index' index''
                (λ j l. alike_same _ _ refl)
                (λ k l. heads-stay.behind (active_heads + k) (omega arith))
                (omega (arith, long h, same_index, heads-stay.same_length))
                (rw (put, put_index)
                (chained_set (active_lane p) 0 (records w) index x h its_size room (λ l. absurd (omega arith))
                (chained_none (records w) (active_lane p) index (long h) (λ k l. roomy.clear (active_heads + k)))))

            far_chained : T p.far_linked → Chained (records w') (far_lane (with_one p)) index''
            far_chained h =
                rw none-far
                (chained_none (records w') (far_lane (with_one p)) index'' (omega (arith, far_long h, same_index, heads-stay.same_length))
                (λ k l.
                heads-stay.behind (far_heads + k) (omega arith)
                ∙ ap (λ (i : List ℕ). get_or i (far_heads + k) 0) put_index
                ∙ (only_with (active_lane p) 1 index x).behind (far_heads + k) (omega arith)
                ∙ roomy.clear (far_heads + k)))

            pub start_laid : Laid (records w') (with_one p) index''
            start_laid = record {
              whole = whole ∙ sym same-capacity;
              some = omega (arith, whole);
              fits = omega (arith, whole, none-far);
              lane = record {
                lies = record { inside = λ j h. omega (arith, same-capacity); apart = λ h. absurd (omega arith) };
                chains = chained;
              };
              far_lane_lem = record {
                lies = record { inside = λ j h. absurd (omega (arith, none-far)); apart = λ h. omega (arith, none-far) };
                chains = far_chained;
              };
              few = few;
              far_few = far_few;
              ranks = ranked;
            }

module _ {d : Setting} {t : Table} (rows : Rows d t) (first : List ℕ) where
  -- the bound grows along the way to an order and is exact there
  pub root_within :
      (first ≡ []) ⊎ Allowed d.n (pairs_by d) first → (choices_of d t).bound (problem_of d t).root ≤ upper (problem_of d t) (given first)
  root_within starts =
      root-lawful (setting_lawful rows) (setting_bounds rows) (setting_solvable rows) (given first) (given_known rows first starts)

  its_size : root_of d t ≡ sized (root_of d t)
  unfolding sized
  its_size = let x = root_of d t in
      λ i. record { size = root_sized rows i; set = x.set; path = x.path; bound = x.bound; first = x.first; second = x.second }

  pub start-shown :
      (w w' : List ℕ) {index index' index'' : List ℕ} {p : Layout} {x : Record} {lane : Lane} {best : Best}
      → p ≡ layout_of d (length (records w)) → Roomy p index → 1 ≤ length (records w) → x ≡ root_of d t → lane ≡ active_lane p
      → (records w' ≡ set (records w) (place_of lane.end (lane.count + 1)) (joined_of lane index x))
      × (index' ≡ index_with lane (lane.count + 1) index x)
      → (T p.ranked → Ranked (records w') (with_one p) index'') × Same index' index''
      → IsBest best (Option.map (encode_of d t) (given first))
      → Shown d w' index'' (record { layout = with_one p; best = best; branched = 0; generated = 1; eliminated = 0; most = 1 })
      (records_of d t (start (problem_of d t) (given first)))
  unfolding records_of start rec_problem layout_of live_in
  start-shown w w' {index} {index'} {index''} {p} {x} {lane} {best} empty roomy room made same (stored, joined) (ranked, heads-stay) is-best = record {
    laid = start_laid d w empty roomy room x same w' stored joined (rw made its_size) ranked heads-stay;
    ranks = λ h. subst T (sym (is_ranked empty)) (lt→ltb d.selection 3 h);
    active =
        ap (live_of 1) (put d w empty roomy room x same w' stored joined)
        ∙ ap live_in (take-suc-set (records w) 0 node room)
        ∙ live_more node [] (below_live node (rw (bound_joined (active_lane p) index x, made) (root_live rows)))
        ∙ ap₂ (λ (y : Record) (ys : List Record). y ∷ ys)
        (sized_joined (active_lane p) index x ∙ ap sized made ∙ sym its_size ∙ (record_maps rows).root)
        none_live;
    active_count = refl;
    far = rw (none-far d w empty roomy room) (none-behind (records w') ∙ none-held (on 4 d.rules));
    far-count = none-far d w empty roomy room ∙ ap length (none-held (on 4 d.rules));
    best = is-best;
    branched = refl;
    generated = refl;
    eliminated = refl;
    most = refl;
  }
    where
      -- e as it has joined
      node : Record
      node = joined_of (active_lane p) index x

      is_ranked : p ≡ layout_of d (length (records w)) → p.ranked ≡ ltb d.selection 3
      is_ranked e = ap (λ (q : Layout). q.ranked) e

      none_live : live_in [] ≡ []
      none_live = refl

      none-behind : (recs : List Record) → far_of 0 recs ≡ []
      none-behind recs = ap (λ (j : ℕ). map sized (drop j recs)) (let e : length recs - 0 ≡ length recs = omega arith in e)
          ∙ ap (map sized) (drop-length recs)

      -- no node is branched
      none-held : (rule : Bool) → [] ≡ held_of rule []
      none-held true = refl
      none-held false = refl
