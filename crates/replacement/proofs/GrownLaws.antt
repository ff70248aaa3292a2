-- The active lane with records that have joined it.
--   sized_whole                  a record with its size
--   writable                     there is room for the children
--   joined_grown, joined_kept    the pool with them, before and after the minima are right
use mathlib.Core.Path.{◌≡◌, refl, sym, ap, ◌∙◌}
use mathlib.Core.Bool.{true}
use mathlib.Core.List.{List, ◌++◌}
use Prim.Native.Nat.{ℕ, ◌+◌, ◌^◌, ◌≤◌, ◌<◌}
use native.Mathlib.Omega.{arith}
use borrow.Author.Tests.{lt-ltb}
use lib.Count.{ones}
use lib.Dec.{T}
use lib.ListN.{length, get_or, take, drop, length-append}
use Rattle.lists.specs.Lists.{In}
use Rattle.stops.specs.Code.{empty_record, stops_in}
use Rattle.stops.specs.declared.node_record.Record.{Record}
use Rattle.records.specs.Code.{in_slot, slots, Slotted}
use Rattle.records.proofs.SlotLaws.{slots_length, in_slots}
use Rattle.lanes.specs.Sizes.{gone, heads, active_heads, far_heads}
use Rattle.lanes.specs.Code.{sized, is_live, live_of}
use Rattle.lanes.specs.declared.layout.Layout.{Layout}
use Rattle.lanes.specs.Layouts.{active_lane}
use Rattle.lanes.proofs.LiveLaws.{live_joined, live_all}
use Rattle.chains.specs.Code.{Chained, Sized, joined_all, index_all, Only}
use Rattle.chains.proofs.ChainLaws.{place-front, chained_all}
use Rattle.chains.proofs.JoinLaws.{length_joined, nodes_joined, only_all}
use Rattle.pool.specs.Code.{Laid, LaidTo, OnePool}
use Rattle.replacement.specs.Code.{Kept}
use Rattle.replacement.proofs.FrameLaws.{far_walkable, far-same, active_minima, spliced_long, spliced-before, spliced-behind, one_pool_on}
use Rattle.replacement.proofs.TidyLaws.{numbered}

pub sized_whole : (x : Record) → x.size ≡ ones x.set → x ≡ sized x
unfolding sized
sized_whole x e = rw (← e)

-- the children by the stops of `alive` are written behind the active lane
module _
    (recs kids : List Record) (p : Layout) (alive : ℕ) (index : List ℕ) (laid : Laid recs p index) (slotted : Slotted alive kids)
    (room : p.used + length (stops_in alive) + p.far ≤ p.capacity)
  where
    abbrev xs : List Record
    xs = slots alive kids

    abbrev ys : List Record
    ys = joined_all (active_lane p) p.used index (slots alive kids)

    number : length xs ≡ length (stops_in alive)
    number = slots_length kids alive

    pub writable :
        (Slotted alive kids × (p.used + length (slots alive kids) ≤ length recs))
        × (T p.linked → (p.used + length (slots alive kids) < 2 ^ 32) × (active_heads + heads ≤ length index))
    writable = (
      (slotted, omega (arith, number, laid.whole)),
      λ t. (omega (arith, number, laid.few t), (laid.lane.chains t).room),
    )

    module _
        (sizes : Sized alive kids) (lives : (s : ℕ) → In s (stops_in alive) → (in_slot kids s).bound < gone) (recs' : List Record)
        (index' : List ℕ) (new : ℕ) (count : new ≡ length (slots alive kids))
        (stored : recs' ≡ take p.used recs ++ (joined_all (active_lane p) p.used index (slots alive kids) ++ drop (p.used + new) recs))
        (noted : index' ≡ index_all (active_lane p) p.used index (slots alive kids))
      where
        whole : (x : Record) → In x xs → x ≡ sized x
        whole x m =
            let (s, i, e) = in_slots kids alive x m in
            rw e (sized_whole (in_slot kids s) (sizes s i))

        live : (x : Record) → In x xs → is_live x ≡ true
        unfolding is_live
        live x m =
            let (s, i, e) = in_slots kids alive x m in
            rw e (lt-ltb (in_slot kids s).bound gone (lives s i))

        -- as many have joined
        even : length ys ≡ new
        even = length_joined (active_lane p) p.used index xs ∙ sym count

        fits : p.used + length ys ≤ length recs
        fits = omega (arith, even, count, number, laid.whole)

        here : recs' ≡ take p.used recs ++ (ys ++ drop (p.used + length ys) recs)
        here = stored ∙ ap (λ (n : ℕ). take p.used recs ++ (ys ++ drop (p.used + n) recs)) (sym even)

        long : length recs' ≡ length recs
        long = ap length here ∙ spliced_long recs ys p.used fits

        only : Only active_heads index index'
        only = rw noted (only_all (active_lane p) p.used index xs)

        before : (i : ℕ) → i < p.used → get_or recs' i empty_record ≡ get_or recs i empty_record
        before i h = ap (λ (l : List Record). get_or l i empty_record) here ∙ spliced-before recs ys p.used fits i h

        behind : (i : ℕ) → p.used + new ≤ i → get_or recs' i empty_record ≡ get_or recs i empty_record
        behind i h =
            ap (λ (l : List Record). get_or l i empty_record) here ∙ spliced-behind recs ys p.used fits i (omega (arith, even))

        abbrev q : Layout
        q = numbered p (p.used + new) (p.active + new)

        full : p.used + new + p.far ≤ p.capacity
        full = omega (arith, count, number)

        chained : T p.linked → Chained recs' (active_lane q) index'
        chained t =
            rw (stored, noted, count)
            (chained_all (active_lane p) recs index xs t refl (omega (arith, number, laid.whole)) whole (laid.lane.chains t))

        pub joined_grown : LaidTo recs' (numbered p (p.used + new) (p.active + new)) p.used index'
        joined_grown = record {
          whole = laid.whole ∙ sym long;
          some = laid.some;
          fits = full;
          lane = record {
            lies = record {
              inside = λ j h. rw (place-front 0 j refl) (omega (arith, full, long, laid.whole));
              apart = λ h. absurd (omega arith);
            };
            chains = chained;
          };
          far_lane_lem = far_walkable recs recs' index index' q long only.same_length laid.whole full behind
              (λ h l. only.behind (far_heads + h) (omega arith)) laid.far_lane_lem;
          few = laid.few;
          far_few = laid.far_few;
          ranks = λ t. record {
            minima =
                active_minima recs recs' index index' p long only.same_length laid.whole laid.fits before (2 ^ p.shift)
                (λ k h. only.before k (omega arith)) (laid.ranks t).minima;
            reach = (laid.ranks t).reach;
          };
        }

        nodes : live_of (p.used + new) recs' ≡ live_of p.used recs ++ xs
        nodes =
            rw (← even, here)
            (live_joined recs ys (drop (p.used + length ys) recs) p.used (omega (arith, laid.fits, laid.whole))
            ∙ ap (λ (l : List Record). live_of p.used recs ++ l)
            (live_all xs ys (nodes_joined (active_lane p) p.used index xs whole) live))

        pub joined_kept :
            (r : Layout) (index'' : List ℕ) → p.active ≡ length (live_of p.used recs)
            → (Laid recs' r index'' × OnePool (numbered p (p.used + new) (p.active + new)) r)
            × ((r.used ≡ p.used + new) × ((r.active ≡ p.active + new) × (r.far ≡ p.far)))
            → Kept recs p (live_of p.used recs ++ slots alive kids) recs' r index''
        joined_kept r index'' counted ((done, same-pool), (used, (active, far))) = record {
          laid = done;
          one_pool = one_pool_on p q r record { capacity = refl; ranked = refl; linked = refl; far_linked = refl } same-pool;
          nodes = ap (λ (n : ℕ). live_of n recs') used ∙ nodes;
          counted = omega (arith, active, counted, count, length-append (live_of p.used recs) xs);
          far-count = far;
          far-end = far-same recs recs' index index q long refl laid.whole full behind;
        }
