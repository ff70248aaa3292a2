-- What a change leaves as it was. The index has the minima, the active lane's heads and the branched lane's heads; the pool has the active
-- records, and those from there on.
--   inside_like                                 a lane lies in the pool still, if that has as many records
--   far-place                                   where the branched lane's records stand
--   far_walkable, far-same                      the branched lane and its nodes, where the records behind the active ones are as they were
--   active_walkable, active_same                the active lane and its nodes, where its records are as they were
--   active_minima                               and the minima
--   spliced_long, spliced-before, spliced-behind    records written over those behind the first k
--   one_pool_on                                 three layouts of one pool
use mathlib.Core.Path.{◌≡◌, refl, sym, ap, ◌∙◌}
use mathlib.Core.List.{List, ◌++◌}
use Prim.Native.Nat.{ℕ, suc, ◌+◌, ◌-◌, ◌≤◌, ◌<◌}
use native.Mathlib.Omega.{arith}
use borrow.Author.Tests.{ne_eqb}
use lib.ListN.{length, get_or, take, drop, length-append, length-drop, get_or-append}
use lib.Seq.{length-take-le, get_or-take, get_or-drop, get_or-append-add}
use Rattle.stops.specs.Code.{empty_record}
use Rattle.stops.specs.declared.node_record.Record.{Record}
use Rattle.lanes.specs.Sizes.{blocks, heads, active_heads, far_heads}
use Rattle.lanes.specs.Code.{sized, place_of, live_of, far_of}
use Rattle.lanes.specs.declared.Lane.{Lane}
use Rattle.lanes.specs.declared.layout.Layout.{Layout}
use Rattle.lanes.specs.Layouts.{active_lane, far_lane}
use Rattle.lanes.proofs.LiveLaws.{live_like, far_like}
use Rattle.chains.specs.Code.{Inside, Walkable}
use Rattle.chains.proofs.ChainLaws.{alike_same, place-front, chained_like}
use Rattle.blocks.specs.Code.{Blocked}
use Rattle.blocks.proofs.KeepLaws.{blocked_like}
use Rattle.pool.specs.Code.{OnePool}

pub inside_like : (recs recs' : List Record) (p : Lane) → length recs' ≡ length recs → Inside recs p → Inside recs' p
inside_like recs recs' p long lies = record { inside = λ j h. rw long (lies.inside j h); apart = lies.apart }

pub far-place : (end used far j : ℕ) → used + far ≤ end → j < far → (place_of end (suc j) ≡ end - suc j) × (used ≤ end - suc j)
far-place end used far j fits h = (rw (ne_eqb end 0 (λ e. omega arith)), omega arith)

module _
    (recs recs' : List Record) (index index' : List ℕ) (p : Layout) (long : length recs' ≡ length recs) (even : length index' ≡ length index)
    (whole : p.capacity ≡ length recs) (fits : p.used + p.far ≤ p.capacity)
  where
    module _ (same : (i : ℕ) → p.used ≤ i → get_or recs' i empty_record ≡ get_or recs i empty_record) where
      pub far_walkable :
          ((h : ℕ) → h < heads → get_or index' (far_heads + h) 0 ≡ get_or index (far_heads + h) 0)
          → Walkable recs (far_lane p) index → Walkable recs' (far_lane p) index'
      far_walkable tops w = record {
        lies = inside_like recs recs' (far_lane p) long w.lies;
        chains = λ t.
            chained_like recs recs' (far_lane p) index index'
            (λ j h.
            let (there, past) = far-place p.capacity p.used p.far j fits h in
            alike_same (get_or recs (place_of p.capacity (suc j)) empty_record) (get_or recs' (place_of p.capacity (suc j)) empty_record)
            (rw there (same (p.capacity - suc j) past)))
            tops (rw even (w.chains t).room) (w.chains t);
      }

      pub far-same : far_of p.far recs' ≡ far_of p.far recs
      far-same = sym (far_like recs recs' p.far (sym long) (λ i h k. ap sized (sym (same i (omega arith)))))

    module _ (same : (i : ℕ) → i < p.used → get_or recs' i empty_record ≡ get_or recs i empty_record) where
      pub active_walkable :
          ((h : ℕ) → h < heads → get_or index' (active_heads + h) 0 ≡ get_or index (active_heads + h) 0)
          → Walkable recs (active_lane p) index → Walkable recs' (active_lane p) index'
      active_walkable tops w = record {
        lies = inside_like recs recs' (active_lane p) long w.lies;
        chains = λ t.
            chained_like recs recs' (active_lane p) index index'
            (λ j h.
            alike_same (get_or recs (place_of 0 (suc j)) empty_record) (get_or recs' (place_of 0 (suc j)) empty_record)
            (rw (place-front 0 j refl) (same j h)))
            tops (rw even (w.chains t).room) (w.chains t);
      }

      pub active_same : live_of p.used recs' ≡ live_of p.used recs
      active_same =
          sym (live_like recs recs' p.used (omega arith) (omega arith) (λ i h. ap sized (sym (same i h))))

      pub active_minima :
          (width : ℕ) → ((k : ℕ) → k < blocks → get_or index' k 0 ≡ get_or index k 0)
          → Blocked recs p.used width index → Blocked recs' p.used width index'
      active_minima width minima b =
          blocked_like recs recs' p.used width index index' (λ i h. ap (λ (x : Record). x.bound) (sym (same i h))) (omega arith)
          (λ k h. sym (minima k h)) (rw even b.whole) b

-- xs written over the records from k on
module _ (recs xs : List Record) (k : ℕ) (fits : k + length xs ≤ length recs) where
  abbrev spliced : List Record
  spliced = take k recs ++ (xs ++ drop (k + length xs) recs)

  front : length (take k recs) ≡ k
  front = length-take-le k recs (omega arith)

  pub spliced_long : length (take k recs ++ (xs ++ drop (k + length xs) recs)) ≡ length recs
  spliced_long =
      omega
      (arith, front, length-append (take k recs) (xs ++ drop (k + length xs) recs), length-append xs (drop (k + length xs) recs), length-drop (k + length xs) recs)

  pub spliced-before : (i : ℕ) → i < k → get_or (take k recs ++ (xs ++ drop (k + length xs) recs)) i empty_record ≡ get_or recs i empty_record
  spliced-before i h =
      get_or-append (take k recs) (xs ++ drop (k + length xs) recs) empty_record i (omega (arith, front)) ∙ get_or-take k recs i empty_record h

  pub spliced-behind :
      (i : ℕ) → k + length xs ≤ i → get_or (take k recs ++ (xs ++ drop (k + length xs) recs)) i empty_record ≡ get_or recs i empty_record
  spliced-behind i h =
      let n : ℕ = i - (k + length xs) in
      let first : i ≡ length (take k recs) + (length xs + n) = omega (arith, front) in
      let last : k + length xs + n ≡ i = omega arith in
      ap (λ (m : ℕ). get_or spliced m empty_record) first
      ∙ get_or-append-add (take k recs) (xs ++ drop (k + length xs) recs) (length xs + n) empty_record
      ∙ get_or-append-add xs (drop (k + length xs) recs) n empty_record
      ∙ get_or-drop (k + length xs) recs n empty_record
      ∙ ap (λ (m : ℕ). get_or recs m empty_record) last

pub one_pool_on : (p q r : Layout) → OnePool p q → OnePool q r → OnePool p r
one_pool_on p q r a b = record {
  capacity = b.capacity ∙ a.capacity;
  ranked = b.ranked ∙ a.ranked;
  linked = b.linked ∙ a.linked;
  far_linked = b.far_linked ∙ a.far_linked;
}
