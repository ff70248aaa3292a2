-- The path cost of a record's stops, as the loop over them adds it up.
use mathlib.Core.Path.{◌≡◌, refl, ap, sym, ◌∙◌}
use mathlib.Core.List.{List}
use Prim.Native.Nat.{ℕ, ◌+◌, ◌*◌, ◌^◌, ◌≤◌, ◌<◌}
use native.Mathlib.Omega.{arith}
use lib.ListN.{length, take}
use lib.Seq.{take_all, length-take-le}
use Rattle.sizes.specs.Sizes.{most_stops, dearest}
use Rattle.orders.specs.Orders.{extend}
use Rattle.orders.proofs.Sets.{last-extend}
use Rattle.stops.specs.Stops.{day_on}
use Rattle.stops.specs.Code.{reckon_on, Cheap}
use Rattle.stops.specs.declared.node_record.Record.{Record}
use Rattle.stops.proofs.StopsWalk.{rows_walk, place-last, path_further, further_small, path_small}
use Rattle.records.proofs.OrderWords.{stop_range}
use Rattle.node_answers.specs.Nodes.{flown_stops}
use Rattle.node_answers.proofs.StopLaws.{stop_of, stops-length, stops-next}
use Rattle.inspection.specs.Code.{Flew}

-- the first k stops of a record are flown
pub record Along (t : List (List ℕ)) (x : Record) (count spent place k : ℕ) : Type 0 where
  pub up_to : k ≤ count
  pub few : count ≤ most_stops
  pub all : count ≡ length (flown_stops x)
  pub spent_is : (n : ℕ) → spent ≡ (day_on n t).path (take k (flown_stops x))
  pub place_is : place ≡ (reckon_on t).place (take k (flown_stops x))
  pub place_few : place ≤ most_stops

module _ {t : List (List ℕ)} {x : Record} {count : ℕ} where
  pub along_starts : count ≡ x.size → count ≤ most_stops → Along t x count 0 0 0
  along_starts e h =
      record {
        up_to =
            omega arith;
        few = h;
        all = omega (arith, stops-length x);
        spent_is = λ n. sym (rows_walk n t).path_root;
        place_is = sym (rows_walk 0 t).place_root;
        place_few = omega arith;
      }

  module _ {spent place k : ℕ} (a : Along t x count spent place k) where
    pub along_small : Cheap t → spent ≤ k * dearest
    along_small w =
        let e : length (take k (flown_stops x)) ≡ k = length-take-le k (flown_stops x) (omega (arith, a.up_to, a.all)) in
        omega (arith, a.spent_is 0, path_small t w 0 (take k (flown_stops x)))

    -- one leg more still fits a word
    pub along_fits : Cheap t → k < count → (s : ℕ) → spent + (reckon_on t).further place s < 2 ^ 32
    along_fits w h s = omega (arith, along_small w, a.few, further_small t w place s)

    pub along_more : {s : ℕ} → k < count → s ≡ stop_of x k → Along t x count (spent + (reckon_on t).further place s) s (k + 1)
    along_more {s} h e =
        let next : take (k + 1) (flown_stops x) ≡ extend (take k (flown_stops x)) (stop_of x k) = stops-next x k (omega (arith, a.all)) in
        record {
          up_to = omega arith;
          few = a.few;
          all = a.all;
          spent_is = λ n. rw (next, path_further n t (take k (flown_stops x)) (stop_of x k), a.spent_is n, a.place_is, e) refl;
          place_is = rw (place-last t (take (k + 1) (flown_stops x)), next, last-extend (take k (flown_stops x)) (stop_of x k)) e;
          place_few = omega (arith, stop_range x.first x.second k);
        }

    pub along_ends : Cheap t → count ≤ k → Flew t x spent place
    along_ends w h =
        let e : take k (flown_stops x) ≡ flown_stops x = take_all k (flown_stops x) (omega (arith, a.all)) in
        record {
          cost_is = λ n. a.spent_is n ∙ ap (day_on n t).path e;
          place_is = a.place_is ∙ ap (reckon_on t).place e;
          cost_small = omega (arith, along_small w, a.up_to, a.few);
          place_few = a.place_few;
        }
