-- A node put together again from its order, stop by stop, as `node::is_record` does. What is built from the first k stops is the record of
-- the node that they are, but for its path cost and bound: so the words of a record are a node's just when every stop can be added
-- and what is built has its set and its order.
use mathlib.Core.Path.{◌≡◌, ap, sym, ◌∙◌, subst}
use mathlib.Core.Bool.{Bool, true, false, not}
use mathlib.Core.List.Memᴰ
use mathlib.Core.List.{List, ◌∷◌, ◌++◌}
use mathlib.Core.Logic.{◌≢◌, ◌⊎◌, inl, inr}
use Prim.Native.Nat.{ℕ, suc, ◌+◌, ◌≤◌, ◌<◌}
use native.Mathlib.Omega.{arith}
use lib.Dec.{T, eqb, eqb→eq, eqb_refl}
use lib.ListN.{length, take, drop}
use lib.Seq.{take_all, split_at}
use Rattle.sizes.specs.Sizes.{most_stops, word_stops}
use Rattle.lists.specs.Lists.{In, Distinct}
use Rattle.lists.proofs.Tests.{same_tests}
use Rattle.lists.proofs.Members.{in_head, keep_in}
use Rattle.lists.proofs.Distinct.{append_apart}
use Rattle.orders.specs.Orders.{Node, stops, flown, set_of, left, Partial, mask}
use Rattle.orders.proofs.Sets.{stops_in_lem, in_set, in_flown, flown_in, left_in}
use Rattle.orders.proofs.Partial.{partial_root, partial_size, partial_extend}
use Rattle.stops.specs.Code.{stops_in, empty_record, extended, Wide}
use Rattle.stops.specs.declared.node_record.Record.{Record}
use Rattle.records.specs.Records.{order_word}
use Rattle.records.proofs.OrderWords.{stop_range}
use Rattle.records.proofs.Mask.{stops-set}
use Rattle.records.proofs.Encode.{built, built_none, built_words, built_wide, built_more}
use Rattle.node_answers.specs.Nodes.{flown_stops, is_node}
use Rattle.node_answers.proofs.StopLaws.{stop_of, stops-length, stops-next, stop_here}
use Rattle.node_answers.proofs.NodeLaws.{node_record, record_node, no_node}

-- the first k stops are a node, and what is built is its record
pub record Retraced (n : ℕ) (x w : Record) (k : ℕ) : Type 0 where
  pub some : 1 ≤ n
  pub few : n ≤ most_stops
  pub short : x.size ≤ n
  pub up_to : k ≤ x.size
  pub node : Partial n (take k (flown_stops x))
  pub same : w ≡ built n (take k (flown_stops x))

pub retraced_starts : {n : ℕ} {x : Record} → 1 ≤ n → n ≤ most_stops → x.size ≤ n → Retraced n x empty_record 0
retraced_starts {n} {x} some few short =
    record { some = some; few = few; short = short; up_to = omega arith; node = partial_root n; same = built_none n }

module _ {n : ℕ} {x w : Record} {k : ℕ} (r : Retraced n x w k) where
  y : Node
  y = flown_stops x

  z : Node
  z = take k y

  set_same : w.set ≡ mask (set_of n z)
  unfolding y z
  set_same = ap (λ (v : Record). v.set) r.same ∙ (built_words n (take k (flown_stops x))).0

  -- whether the set that is built holds a stop is whether it is flown
  flown-same : (s : ℕ) → 1 ≤ s → s ≤ n → flown (stops_in w.set) s ≡ flown z s
  unfolding set_of
  flown-same s h j =
      ap (λ (m : ℕ). flown (stops_in m) s) set_same ∙ ap (λ (l : List ℕ). flown l s) (stops-set n r.few z)
      ∙ same_tests (flown (set_of n z) s) (flown z s) (λ t. (in_set n z s (flown_in (set_of n z) s t)).2)
      (λ t. in_flown (set_of n z) s (keep_in (flown z) (stops n) s (stops_in_lem n s h j) t))

  module _ (more : k < x.size) where
    inside : k < length (flown_stops x)
    inside = omega (arith, stops-length x, r.short, r.few)

    parts : y ≡ z ++ stop_of x k ∷ drop (k + 1) y
    unfolding y z
    parts =
        let e : suc k ≡ k + 1 = omega arith in
        rw (← stop_here x k inside, ← e) (split_at (flown_stops x) k 0 inside)

    -- a stop above n: the record is no node's
    pub stop_above : n < stop_of x k → false ≡ is_node n x
    unfolding y z
    stop_above h =
        no_node n x (λ q. absurd (let j : (1 ≤ stop_of x k) × (stop_of x k ≤ n) = q.node.only (stop_of x k) member in omega arith))
      where
        member : In (stop_of x k) (flown_stops x)
        member = subst (λ (l : List ℕ). In (stop_of x k) l) (sym parts) (Memᴰ.append_right z in_head)

    module _ (small : stop_of x k ≤ n) where
      -- a stop that is flown already: the record is no node's
      pub stop_again : true ≡ flown (stops_in w.set) (stop_of x k) → false ≡ is_node n x
      unfolding y
      stop_again h =
          no_node n x (λ q. append_apart z (stop_of x k ∷ drop (k + 1) y) (subst Distinct parts q.node.once) (stop_of x k) member in_head)
        where
          member : In (stop_of x k) z
          member = flown_in z (stop_of x k) (subst T (h ∙ flown-same (stop_of x k) (stop_range x.first x.second k).0 small) tt)

      module _ (new : false ≡ flown (stops_in w.set) (stop_of x k)) where
        free_stop : In (stop_of x k) (left n z)
        free_stop =
            left_in n z (stop_of x k) (stop_range x.first x.second k).0 small
            (subst (λ (b : Bool). T (not b)) (new ∙ flown-same (stop_of x k) (stop_range x.first x.second k).0 small) tt)

        pub stop_fits : Wide w (stop_of x k) 0
        unfolding y z
        stop_fits = rw r.same (built_wide n r.few z r.node (stop_of x k) free_stop)

        pub stop_added : Retraced n x (extended w (stop_of x k) 0) (k + 1)
        unfolding y z
        stop_added = record {
          some = r.some;
          few = r.few;
          short = r.short;
          up_to = omega arith;
          node =
              subst (Partial n) (sym (stops-next x k inside)) (partial_extend n z (stop_of x k) r.node free_stop);
          same = rw (r.same, stops-next x k inside) (built_more n r.few z r.node (stop_of x k) free_stop);
        }

  module _ (whole : x.size ≤ k) where
    all-stops : take k (flown_stops x) ≡ flown_stops x
    all-stops = take_all k (flown_stops x) (omega (arith, stops-length x))

    -- what is built has the set and the order of the stops
    words_are :
        (w.set ≡ mask (set_of n (flown_stops x))) × (w.first ≡ order_word (take word_stops (flown_stops x)))
        × (w.second ≡ order_word (drop word_stops (flown_stops x)))
    words_are = rw (r.same, all-stops) (built_words n (flown_stops x))

    pub other-words : (x.set ≡ w.set × (x.first ≢ w.first)) ⊎ (x.set ≢ w.set) → false ≡ is_node n x
    other-words (inl (s, h)) = no_node n x (λ q. h (q.first_is ∙ sym words_are.1))
    other-words (inr h) = no_node n x (λ q. h (q.set_is ∙ sym words_are.0))

    pub same_record : x.set ≡ w.set → x.first ≡ w.first → eqb x.second w.second ≡ is_node n x
    same_record s f =
        same_tests (eqb x.second w.second) (is_node n x) to
        (λ t. let e : x.second ≡ w.second = (node_record n x t).second_is ∙ sym words_are.2 in rw e (eqb_refl w.second))
      where
        to : T (eqb x.second w.second) → T (is_node n x)
        to t =
            let p : Partial n (flown_stops x) = subst (Partial n) all-stops r.node in
            record_node n x (record {
              some = r.some;
              few = r.few;
              node = p;
              size_is = omega (arith, partial_size n (flown_stops x) p, stops-length x, r.short, r.few);
              set_is = s ∙ words_are.0;
              first_is = f ∙ words_are.1;
              second_is = eqb→eq x.second w.second t ∙ words_are.2;
            })
