-- The records that pass `is_node` are just those of nodes.
use mathlib.Core.Path.{◌≡◌, sym}
use mathlib.Core.Bool.{Bool, false, not, ◌&&◌}
use mathlib.Core.List.{[], ◌∷◌}
use Prim.Native.Nat.{ℕ, ◌≤◌}
use lib.Dec.{T, leb, eqb, leb→le, le→leb, eqb→eq, T_not, not_T}
use lib.ListN.{take, drop}
use Rattle.sizes.specs.Sizes.{most_stops, word_stops}
use Rattle.lists.specs.Lists.{all, Distinct, none, more}
use Rattle.lists.proofs.Tests.{and_left, and_right, and_both, to_false, equal_eqb}
use Rattle.lists.proofs.Members.{all_in, in_all}
use Rattle.orders.specs.Orders.{Node, stops, flown, set_of, size, Partial, mask}
use Rattle.orders.proofs.Sets.{in_stops, stops_in_lem, in_flown, flown_in}
use Rattle.stops.specs.declared.node_record.Record.{Record}
use Rattle.records.specs.Records.{order_word}
use Rattle.node_answers.specs.Nodes.{flown_stops, distinct, is_record_of, is_node}
use Rattle.node_answers.specs.Examples

-- the test for distinct stops
distinct_list : (x : Node) → T (distinct x) → Distinct x
distinct_list [] h = none
distinct_list (s ∷ x) h =
    more (λ m. T_not (flown x s) (and_left (not (flown x s)) (distinct x) h) (in_flown x s m))
    (distinct_list x (and_right (not (flown x s)) (distinct x) h))

list_distinct : {x : Node} → Distinct x → T (distinct x)
list_distinct none = tt
list_distinct (more {x = s} {xs = x} new d) =
    and_both (not (flown x s)) (distinct x) (not_T (flown x s) (λ f. new (flown_in x s f))) (list_distinct d)

-- what `is_node` says: the stops y of the order are a node for n stops, and the numbers are those of its record
pub record NodeRecord (n : ℕ) (x : Record) (y : Node) : Type 0 where
  pub some : 1 ≤ n
  pub few : n ≤ most_stops
  pub node : Partial n y
  pub size_is : x.size ≡ size n y
  pub set_is : x.set ≡ mask (set_of n y)
  pub first_is : x.first ≡ order_word (take word_stops y)
  pub second_is : x.second ≡ order_word (drop word_stops y)

module _ (a b c d e f : Bool) where
  six_parts : T (a && b && c && d && e && f) → T a × T b × T c × T d × T e × T f
  six_parts h =
      let five : T (a && b && c && d && e) = and_left (a && b && c && d && e) f h in
      let four : T (a && b && c && d) = and_left (a && b && c && d) e five in
      let three : T (a && b && c) = and_left (a && b && c) d four in
      let two : T (a && b) = and_left (a && b) c three in (
        and_left a b two,
        and_right a b two,
        and_right (a && b) c three,
        and_right (a && b && c) d four,
        and_right
            (a && b && c && d) e five,
        and_right (a && b && c && d && e) f h,
      )

  parts_six : T a → T b → T c → T d → T e → T f → T (a && b && c && d && e && f)
  parts_six ha hb hc hd he hf =
      and_both (a && b && c && d && e) f
      (and_both (a && b && c && d) e (and_both (a && b && c) d (and_both (a && b) c (and_both a b ha hb) hc) hd) he) hf

module _ (n : ℕ) (x : Record) (y : Node) where
  pub tests_record : T (leb 1 n && leb n most_stops && is_record_of n x y) → NodeRecord n x y
  unfolding is_record_of
  tests_record h =
      let r : T (leb 1 n && leb n most_stops) = and_left (leb 1 n && leb n most_stops) (is_record_of n x y) h in
      let (d, o, s, m, e, f) =
      six_parts (distinct y) (all (flown (stops n)) y) (eqb x.size (size n y)) (eqb x.set (mask (set_of n y)))
      (eqb x.first (order_word (take word_stops y))) (eqb x.second (order_word (drop word_stops y)))
      (and_right (leb 1 n && leb n most_stops) (is_record_of n x y) h) in
      record {
        some = leb→le 1 n (and_left (leb 1 n) (leb n most_stops) r);
        few = leb→le n most_stops (and_right (leb 1 n) (leb n most_stops) r);
        node = record { once = distinct_list y d; only = λ s i. in_stops n s (flown_in (stops n) s (all_in (flown (stops n)) y o s i)) };
        size_is = eqb→eq x.size (size n y) s;
        set_is = eqb→eq x.set (mask (set_of n y)) m;
        first_is = eqb→eq x.first (order_word (take word_stops y)) e;
        second_is = eqb→eq x.second (order_word (drop word_stops y)) f;
      }

  pub record_tests : NodeRecord n x y → T (leb 1 n && leb n most_stops && is_record_of n x y)
  unfolding is_record_of
  record_tests r =
      and_both (leb 1 n && leb n most_stops) (is_record_of n x y) (and_both (leb 1 n) (leb n most_stops) (le→leb 1 n r.some) (le→leb n most_stops r.few))
      (parts_six (distinct y) (all (flown (stops n)) y) (eqb x.size (size n y)) (eqb x.set (mask (set_of n y)))
      (eqb x.first (order_word (take word_stops y))) (eqb x.second (order_word (drop word_stops y)))
      (list_distinct r.node.once)
      (in_all (flown (stops n)) y (λ s i. let h = r.node.only s i in in_flown (stops n) s (stops_in_lem n s h.0 h.1)))
      (equal_eqb x.size (size n y) r.size_is) (equal_eqb x.set (mask (set_of n y)) r.set_is)
      (equal_eqb x.first (order_word (take word_stops y)) r.first_is) (equal_eqb x.second (order_word (drop word_stops y)) r.second_is))

module _ (n : ℕ) (x : Record) where
  pub node_record : T (is_node n x) → NodeRecord n x (flown_stops x)
  unfolding is_node
  node_record h = tests_record n x (flown_stops x) h

  pub record_node : NodeRecord n x (flown_stops x) → T (is_node n x)
  unfolding is_node
  record_node r = record_tests n x (flown_stops x) r

  pub no_node : (NodeRecord n x (flown_stops x) → ⊥) → false ≡ is_node n x
  no_node h = sym (to_false (is_node n x) (not_T (is_node n x) (λ t. h (node_record t))))
