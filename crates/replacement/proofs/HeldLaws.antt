-- The branched node at the far end.
--   holding                              a layout with another number of branched records
--   held_laid, held-nodes, held-far      the pool with it
--   one_held                             where branched nodes are held, one more is
use mathlib.Core.Path.{◌≡◌, refl, sym, ap, ◌∙◌}
use mathlib.Core.List.{List, ◌∷◌}
use mathlib.Core.Logic.{◌⊎◌, inl, inr}
use Prim.Native.Nat.{ℕ, suc, ◌+◌, ◌-◌, ◌^◌, ◌≤◌, ◌<◌}
use native.Mathlib.Numerals.{add-one}
use native.Mathlib.Omega.{arith}
use borrow.Author.Tests.{ne_eqb}
use lib.Dec.{T}
use lib.ListN.{length, get_or, take, drop, set, length-set}
use lib.Seq.{length-take-le, set_split, drop_at, get_or-set_other}
use Rattle.stops.specs.Code.{empty_record}
use Rattle.stops.specs.declared.node_record.Record.{Record}
use Rattle.lanes.specs.Sizes.{active_heads, far_heads}
use Rattle.lanes.specs.Code.{sized, place_of, live_of, far_of}
use Rattle.lanes.specs.declared.layout.Layout.{Layout}
use Rattle.lanes.specs.Layouts.{far_lane}
use Rattle.chains.specs.Code.{Chained, joined_of, index_with, Only}
use Rattle.chains.proofs.ChainLaws.{chained_set}
use Rattle.chains.proofs.JoinLaws.{sized_joined, only_with}
use Rattle.pool.specs.Code.{Laid}
use Rattle.replacement.specs.Code.{far_with}
use Rattle.replacement.proofs.FrameLaws.{far-place, active_walkable, active_same, active_minima}

abbrev pub holding : Layout → ℕ → Layout
holding p far = record {
  capacity = p.capacity;
  used = p.used;
  active = p.active;
  far = far;
  shift = p.shift;
  ranked = p.ranked;
  linked = p.linked;
  far_linked = p.far_linked;
}

-- b joins as number far
module _
    (recs : List Record) (p : Layout) (index : List ℕ) (far : ℕ) (laid : Laid recs p index) (more : far ≡ p.far + 1)
    (room : p.used + far ≤ p.capacity)
  where
    place : place_of p.capacity (p.far + 1) ≡ p.capacity - far
    place = rw (more, add-one p.far) (far-place p.capacity p.used far p.far room (omega arith)).0

    module _
        (recs' : List Record) (index' : List ℕ) (b : Record)
        (stored : recs' ≡ set recs (place_of p.capacity (p.far + 1)) (joined_of (far_lane p) index b))
        (noted : index' ≡ index_with (far_lane p) (p.far + 1) index b)
        (whole : b ≡ sized b)
      where
        abbrev y : Record
        y = joined_of (far_lane p) index b

        here : recs' ≡ set recs (p.capacity - far) y
        here = stored ∙ ap (λ (i : ℕ). set recs i y) place

        long : length recs' ≡ length recs
        long = ap length here ∙ length-set recs (p.capacity - far) y

        only : Only far_heads index index'
        only = rw noted (only_with (far_lane p) (p.far + 1) index b)

        before : (i : ℕ) → i < p.used → get_or recs' i empty_record ≡ get_or recs i empty_record
        before i h =
            ap (λ (l : List Record). get_or l i empty_record) here
            ∙ get_or-set_other recs (p.capacity - far) i y empty_record (λ e. omega arith)

        inside : (j : ℕ) → j < far → place_of p.capacity (suc j) < length recs'
        inside j h =
            rw (far-place p.capacity p.used far j room h).0 (omega (arith, long, laid.some, laid.whole))

        chained : T p.far_linked → Chained recs' (far_lane (holding p far)) index'
        chained t =
            let there : place_of p.capacity (suc p.far) < length recs = omega (arith, inside p.far (omega arith), long) in
            rw (stored, noted, more, add-one p.far)
            (chained_set (far_lane p) p.far recs index b t whole there (λ h. omega arith) (laid.far_lane_lem.chains t))

        pub held_laid : Laid recs' (holding p far) index'
        held_laid = record {
          whole = laid.whole ∙ sym long;
          some = laid.some;
          fits = room;
          lane = active_walkable recs recs' index index' p long only.same_length laid.whole laid.fits before
              (λ h l. only.before (active_heads + h) (omega arith)) laid.lane;
          far_lane_lem = record { lies = record { inside = inside; apart = λ h. omega arith }; chains = chained };
          few = laid.few;
          far_few = laid.far_few;
          ranks = λ t.
              let r = laid.ranks t in
              record {
                minima = active_minima recs recs' index index' p long only.same_length laid.whole laid.fits before (2 ^ p.shift)
                    (λ k h. only.before k (omega arith)) r.minima;
                reach = r.reach;
              };
        }

        pub held-nodes : live_of p.used recs' ≡ live_of p.used recs
        held-nodes = active_same recs recs' index index p long refl laid.whole laid.fits before

        pub held-far : far_of far recs' ≡ far_with far b (far_of p.far recs)
        held-far =
            let i : ℕ = p.capacity - far in
            let less : i < length recs = omega (arith, laid.some, laid.whole) in
            let at : length recs' - far ≡ i = omega (arith, long, laid.whole) in
            let next : suc i ≡ length recs - p.far = omega (arith, laid.whole) in
            let split : drop i (set recs i y) ≡ y ∷ drop (suc i) recs =
            ap (drop i) (set_split recs i y less) ∙ drop_at (take i recs) (y ∷ drop (suc i) recs) i (length-take-le i recs (omega arith)) in
            let node : sized y ≡ b = sized_joined (far_lane p) index b ∙ sym whole in
            rw (ne_eqb far 0 (λ e. omega arith), at, here, split, node, ← next)

pub one_held : (p : Layout) (far : ℕ) → ((far ≡ 0) × (p.far ≡ 0)) ⊎ (far ≡ p.far + 1) → (far ≡ 0 → ⊥) → far ≡ p.far + 1
one_held p far (inl none) n = absurd (n none.0)
one_held p far (inr more) n = more
