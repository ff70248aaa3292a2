-- What the code of `family` needs of a node's record, and of the loop that writes each child's record to its slot.
--   rest_sum, rest_of_left           the stops that it leaves, as a set that fits
--   encoded_sized                   its size is the number of its set's stops
--   children_encoded                its children are records of nodes too
--   born_slots, born_encoded, born_slotted, born_size, born_sized, born_apart    the children in their slots
--   sized_less                      some of them stand in their slots too
--   Placing, placing_starts, placing_again    the invariant of the loop
use mathlib.Core.Path.{◌≡◌, refl, ap, sym, subst, ◌∙◌}
use mathlib.Core.List.{List, map}
use mathlib.Core.Logic.{◌≢◌}
use Prim.Native.Nat.{ℕ, ◌+◌, ◌-◌, ◌^◌, ◌≤◌, ◌<◌}
use native.Mathlib.Omega.{arith}
use lib.Count.{ones}
use lib.ListN.{length, set, length-set}
use lib.Pow.{pow_pos, pow_mono}
use lib.Seq.{get_or-set_same, get_or-set_other}
use Rattle.sizes.specs.Sizes.{most_stops}
use Rattle.lists.specs.Lists.{In}
use Rattle.lists.proofs.Map.{map_same}
use Rattle.lists.proofs.Members.{in_map}
use Rattle.orders.specs.Orders.{left, extend}
use Rattle.orders.specs.Pairs.{ready}
use Rattle.orders.proofs.Partial.{partial_extend}
use Rattle.orders.proofs.Pairs.{in_ready}
use Rattle.stops.specs.Code.{empty_record, extended, stops_in, First}
use Rattle.stops.specs.declared.node_record.Record.{Record}
use Rattle.stops.proofs.SetBits.{stops_in_range}
use Rattle.stops.proofs.SetLoops.{Passed, passed_starts, passed_again}
use Rattle.records.specs.Code.{encode, in_slot, slots, Slotted}
use Rattle.records.proofs.Mask.{mask-stops, rest-left, ones-set}
use Rattle.records.proofs.SlotLaws.{slot_in, in_slots}
use Rattle.chains.specs.Code.{Sized}
use Rattle.children.specs.Code.{Table, Rows, Encoded, encode_of, rest_of, pairs_by, bounded, born_of, child_of, children_of, Born}
use Rattle.children.specs.declared.setting.Setting.{Setting}
use Rattle.children.proofs.RecordRun.{encode_kid}

module _ {d : Setting} {t : Table} {b : Record} (rows : Rows d t) (e : Encoded d t b) where
  -- the set, the stops left and 1 add up to 2 to the power n
  pub rest_sum : (b.set + rest_of d b + 1 ≡ 2 ^ d.n) × (2 ^ d.n ≤ 2 ^ most_stops)
  unfolding rest_of encode_of encode
  rest_sum =
      let same = ap (λ (r : Record). r.set) e.same in
      omega (arith, same, mask-stops d.n e.node, pow_pos d.n, pow_mono {i = d.n} {j = most_stops} rows.few)

  pub rest_of_left : stops_in (rest_of d b) ≡ left d.n e.node
  unfolding rest_of encode_of encode
  rest_of_left = rest-left d.n rows.few e.node b.set (ap (λ (r : Record). r.set) e.same)

  -- b's set, counted, is b's size
  pub encoded_sized : b.size ≡ ones b.set
  unfolding encode_of encode
  encoded_sized = rw (e.same, ones-set d.n rows.few e.node) refl

  -- b extended by a stop that it leaves is the record of a node too, and so is each of its children
  child_encoded : (s : ℕ) → In s (stops_in (rest_of d b)) → Encoded d t (child_of d t b s)
  child_encoded s i =
      let m : In s (left d.n e.node) = rw rest_of_left at i in
      record {
        node = extend e.node s;
        partial = partial_extend d.n e.node s e.partial m;
        same = ap (λ (r : Record). child_of d t r s) e.same ∙ encode_kid rows e.node e.partial s m;
      }

  pub children_encoded : (x : Record) → In x (children_of d t b) → Encoded d t x
  unfolding children_of
  children_encoded x i =
      let next : List ℕ = ready (pairs_by d) (stops_in (rest_of d b)) in
      let (s, m, same) = in_map (child_of d t b) next x i in
      subst (Encoded d t) (sym same) (child_encoded s (in_ready (pairs_by d) (stops_in (rest_of d b)) s m).0)

  module _ {born : ℕ} {kids : List Record} (k : Born d t b born kids) where
    pub born_slots : slots born kids ≡ children_of d t b
    unfolding slots children_of
    born_slots =
        map_same (in_slot kids) (child_of d t b) (stops_in born) k.each ∙ ap (map (child_of d t b)) k.stops

    pub born_encoded : (s : ℕ) → In s (stops_in born) → Encoded d t (in_slot kids s)
    born_encoded s i = children_encoded (in_slot kids s) (subst (λ (l : List Record). In (in_slot kids s) l) born_slots (slot_in kids born s i))

    pub born_slotted : Slotted born kids
    born_slotted = record { small = k.small; room = k.room }

    pub born_size : (x : Record) → In x (slots born kids) → x.size ≡ b.size + 1
    unfolding child_of born_of bounded extended
    born_size x i =
        let (s, m, same) = in_slots kids born x i in
        let counted : x.size ≡ ones b.set + 1 = ap (λ (y : Record). y.size) (same ∙ k.each s m) in
        omega (arith, counted, encoded_sized)

    -- each has one stop more than b
    pub born_apart : (s : ℕ) → In s (stops_in born) → (in_slot kids s).set ≢ b.set
    unfolding child_of born_of bounded extended
    born_apart s i same =
        let more : (in_slot kids s).set ≡ b.set + 2 ^ (s - 1) = ap (λ (y : Record). y.set) (k.each s i) in
        omega (arith, more, same, pow_pos (s - 1))

module _ {d : Setting} {t : Table} {b : Record} (rows : Rows d t) (e : Encoded d t b) {born : ℕ} {kids : List Record} (k : Born d t b born kids) where
  pub born_sized : Sized born kids
  born_sized s i = encoded_sized rows (born_encoded rows e k s i)

-- what holds of the children by the stops of a set holds of those by some of them
pub sized_less :
    {born alive : ℕ} {kids : List Record} → Slotted born kids × Sized born kids → alive < 2 ^ most_stops
    → ((s : ℕ) → In s (stops_in alive) → In s (stops_in born)) → Slotted alive kids × Sized alive kids
sized_less h small among = (record { small = small; room = h.0.room }, λ s i. h.1 s (among s i))

-- The children are written so: `left` has the stops to come, and the children by the others of `rest` stand in their slots.
pub record Placing (f : ℕ → Record) (rest : ℕ) (kids : List Record) (left : ℕ) : Type 0 where
  pub passed : Passed (λ s. in_slot kids s ≡ f s) rest left
  pub rest-fits : rest < 2 ^ most_stops
  pub room : most_stops ≤ length kids

pub placing_starts :
    {f : ℕ → Record} {rest left : ℕ} {kids : List Record} → left ≡ rest → rest < 2 ^ most_stops → most_stops ≤ length kids
    → Placing f rest kids left
placing_starts e h k = rw e record { passed = passed_starts h; rest-fits = h; room = k }

-- a record stored in its slot, and the others, which stay
slot_stored : (l : List Record) (r : ℕ) (x : Record) → r - 1 < length l → in_slot (set l (r - 1) x) r ≡ x
unfolding in_slot
slot_stored l r x h = get_or-set_same l (r - 1) x empty_record h

slot_other : (l : List Record) (r s : ℕ) (x : Record) → 1 ≤ r → 1 ≤ s → s ≢ r → in_slot (set l (r - 1) x) s ≡ in_slot l s
unfolding in_slot
slot_other l r s x h i n = get_or-set_other l (r - 1) (s - 1) x empty_record (λ q. n (omega arith))

pub placing_again :
    {f : ℕ → Record} {rest left left' r : ℕ} {kids kids' : List Record} {x : Record} → Placing f rest kids left → First left r
    → left' ≡ left - 2 ^ (r - 1) → x ≡ f r → kids' ≡ set kids (r - 1) x → Placing f rest kids' left'
placing_again {rest = rest} {r = r} {kids} {x = x} l o e i g = rw g record {
  passed =
      passed_again l.passed o e (slot_stored kids r x (omega (arith, o.some, o.few, l.room)) ∙ i)
      (λ s m n was. slot_other kids r s x o.some (stops_in_range rest l.rest-fits s m).0 n ∙ was);
  rest-fits = l.rest-fits;
  room = rw length-set l.room;
}
