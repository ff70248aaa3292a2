-- A stop and its leg on a record: what `extend::fits_on` tests is whether they fit, and what `extended` makes of a record that they fit on
-- is the longer one.
--   unfit, unfit_record, unfit_stop, unfit_flown   where they do not fit
--   fits_last                                      what is left to test
--   fits_wide, fits-extended                       where they fit
use mathlib.Core.Path.{◌≡◌, refl, ap, sym, ◌∙◌, subst}
use mathlib.Core.Bool.{Bool, true, false, not}
use mathlib.Core.List.{List}
use Prim.Native.Nat.{ℕ, ◌-◌, ◌^◌, ◌≤◌, ◌<◌}
use native.Mathlib.Omega.{arith}
use lib.Dec.{T, leb, leb→le, le→leb, T_not, not_T}
use lib.ListN.{length}
use Rattle.sizes.specs.Sizes.{most_stops, word_stops}
use Rattle.lists.proofs.Tests.{to_false, same_tests}
use Rattle.lists.proofs.Empty.{in_nonempty}
use Rattle.lists.proofs.Members.{keep_in}
use Rattle.orders.specs.Orders.{Node, stops, flown, set_of}
use Rattle.orders.proofs.Sets.{stops_in_lem, in_set, in_flown, flown_in, in_left, left_in, size-left}
use Rattle.orders.proofs.Partial.{partial_size}
use Rattle.stops.specs.Code.{stops_in, extended, Wide}
use Rattle.stops.specs.declared.node_record.Record.{Record}
use Rattle.records.proofs.Mask.{set_small, stops-set, mask-extend, ones-extend}
use Rattle.records.proofs.OrderWords.{Digits, first_below, second_below, first-extend, second_extend}
use Rattle.records.proofs.Encode.{partial_digits}
use Rattle.node_answers.specs.Nodes.{flown_stops, is_record_of, is_node}
use Rattle.node_answers.specs.Answers.{fits, longer}
use Rattle.node_answers.proofs.NodeLaws.{NodeRecord, node_record, record_node}
use Rattle.node_answers.proofs.LongerLaws.{Fits, fits_parts, parts_fit}
use Rattle.inspection.specs.Code.{of_four}

-- whether a record is a node's lies with its size, its set and its order alone
pub node_same : (n : ℕ) (x : Record) → is_node n (of_four x.size x.set x.first x.second) ≡ is_node n x
unfolding is_node is_record_of flown_stops of_four
node_same n x = refl

module _ (x : Record) (stop leg : ℕ) where
  pub unfit : (Fits x stop leg → ⊥) → false ≡ fits x stop leg
  unfit h = sym (to_false (fits x stop leg) (not_T (fits x stop leg) (λ t. h (fits_parts x stop leg t))))

  pub unfit_record : is_node most_stops x ≡ false → false ≡ fits x stop leg
  unfit_record e = unfit (λ f. subst T e (record_node most_stops x f.node))

  pub unfit_stop : (1 ≤ stop → stop ≤ most_stops → ⊥) → false ≡ fits x stop leg
  unfit_stop h = unfit (λ f. let m = in_left most_stops (flown_stops x) stop f.leaves in h m.0 m.1)

  -- a record that is a node's, and a stop of 1 to 16: its set holds the stop just when the node flies it
  module _ (node : is_node most_stops x ≡ true) (some : 1 ≤ stop) (few : stop ≤ most_stops) where
    abbrev y : Node
    y = flown_stops x

    q : NodeRecord most_stops x y
    q = node_record most_stops x (subst T (sym node) tt)

    flown-same : flown (stops_in x.set) stop ≡ flown y stop
    unfolding set_of
    flown-same =
        ap (λ (m : ℕ). flown (stops_in m) stop) q.set_is ∙ ap (λ (l : List ℕ). flown l stop) (stops-set most_stops q.few y)
        ∙ same_tests (flown (set_of most_stops y) stop) (flown y stop)
        (λ t. (in_set most_stops y stop (flown_in (set_of most_stops y) stop t)).2)
        (λ t. in_flown (set_of most_stops y) stop (keep_in (flown y) (stops most_stops) stop (stops_in_lem most_stops stop some few) t))

    pub unfit_flown : flown (stops_in x.set) stop ≡ true → false ≡ fits x stop leg
    unfit_flown e =
        unfit (λ f. T_not (flown y stop) (in_left most_stops y stop f.leaves).2 (subst T (sym (sym flown-same ∙ e)) tt))

    -- the path cost is left to test
    pub fits_last :
        flown (stops_in x.set) stop ≡ false → x.path < 2 ^ 32 → leb leg (4294967295 - x.path) ≡ fits x stop leg
    fits_last e small =
        same_tests (leb leg (4294967295 - x.path)) (fits x stop leg)
        (λ t. parts_fit x stop leg (record {
          node = q;
          leaves = left_in most_stops y stop some few (subst (λ (b : Bool). T (not b)) (sym (sym flown-same ∙ e)) tt);
          small = omega (arith, leb→le leg (4294967295 - x.path) t);
        }))
        (λ t. let f = fits_parts x stop leg t in le→leb leg (4294967295 - x.path) (omega (arith, f.small)))

-- what `extended` asks, and that it makes the longer record
module _ {x : Record} {stop leg : ℕ} (f : Fits x stop leg) where
  abbrev z : Node
  z = flown_stops x

  digits : Digits z
  digits = partial_digits most_stops f.node.few z f.node.node

  counted : x.size ≡ length z
  counted = f.node.size_is ∙ partial_size most_stops z f.node.node

  pub fits_wide : Wide x stop leg
  fits_wide = record {
    some = (in_left most_stops z stop f.leaves).0;
    few = (in_left most_stops z stop f.leaves).1;
    room = omega (arith, f.node.size_is, size-left most_stops z, in_nonempty f.leaves);
    set_small = rw f.node.set_is (set_small most_stops f.node.few z);
    path_small = f.small;
    first_small = λ low. rw f.node.first_is (first_below z digits x.size (omega (arith, counted)));
    second_small = λ high. rw f.node.second_is (second_below z digits (x.size - word_stops) (omega (arith, counted)));
  }

  pub fits-extended : extended x stop leg ≡ longer x stop leg
  unfolding extended longer
  fits-extended =
      rw (
        ← ones-extend most_stops f.node.few z stop f.leaves,
        mask-extend most_stops z stop f.leaves,
        first-extend z stop,
        second_extend z stop,
        ← counted,
        ← f.node.set_is,
        ← f.node.first_is,
        ← f.node.second_is,
      ) refl
