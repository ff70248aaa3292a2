-- What the code of `family` and `root` needs: the words of a node's record have room for one stop more.
--   Kid, kid_bears          one of the stops that a record leaves: its words have room for it, and 32 bits hold the child's bound
--   kid_made                the record extended, with what the bound adds, is the child
--   root_made               e with the bound of the set of all stops is the root's record
--   encoded_live, born_live, children_live, root_live    no node's record has the bound of gone ones
--   root_sized              and e's has the size of its set
use mathlib.Core.Path.{◌≡◌, ap, ap₂, sym, subst, ◌∙◌}
use mathlib.Core.List.{List, []}
use Prim.Native.Nat.{ℕ, ◌+◌, ◌-◌, ◌*◌, ◌^◌, ◌%◌, ◌≤◌, ◌<◌}
use native.Mathlib.Nat.{mul-le-mul_right}
use native.Mathlib.Omega.{arith}
use lib.Count.{ones}
use lib.ListN.{length}
use Rattle.sizes.specs.Sizes.{most_stops, dearest}
use Rattle.lists.specs.Lists.{In}
use Rattle.orders.specs.Orders.{left}
use Rattle.orders.proofs.Partial.{partial_root, partial_size}
use Rattle.orders.proofs.Sets.{size-left}
use Rattle.stops.specs.Stops.{day_on}
use Rattle.stops.specs.Code.{empty_record, Wide, last_stop, stops_in, reckon_on}
use Rattle.stops.specs.declared.node_record.Record.{Record}
use Rattle.stops.proofs.SetBits.{stops_in_few, all_small}
use Rattle.stops.proofs.StopsWalk.{rows_walk, after_stop, further_small, path_small, ahead_small}
use Rattle.records.specs.Code.{encode, in_slot}
use Rattle.records.proofs.Mask.{rest_small}
use Rattle.records.proofs.Encode.{encode_wide}
use Rattle.lanes.specs.Sizes.{gone}
use Rattle.children.specs.Code.{Table, Rows, Encoded, Bears, Born, encode_of, rest_of, bounded, born_of, child_of, children_of, root_of}
use Rattle.children.specs.declared.setting.Setting.{Setting}
use Rattle.children.proofs.RecordRun.{encode_root}
use Rattle.children.proofs.FamilyLaws.{rest_of_left, encoded_sized, children_encoded, born_encoded}

-- the longest path: as many legs as there may be, each as dear as it may be
abbrev longest_path : ℕ
longest_path = most_stops * dearest

module _ {d : Setting} {t : Table} (rows : Rows d t) where
  path_most : {b : Record} (e : Encoded d t b) → (b.path ≡ (day_on d.n t).path e.node) × (b.path ≤ longest_path)
  unfolding encode_of encode
  path_most {b} e =
      let x = e.node in
      let same : b.path ≡ (day_on d.n t).path x = ap (λ (r : Record). r.path) e.same in
      let short : length x ≤ most_stops = omega (arith, partial_size d.n x e.partial, size-left d.n x, rows.few) in
      (same, omega (arith, path_small t rows.cheap d.n x, mul-le-mul_right dearest short))

  -- e with its bound, as the code puts it together
  pub root_made :
      (x : Record) (v : ℕ) → x ≡ empty_record → v ≡ (reckon_on t).ahead d.bound 0 (stops_in (1 * 2 ^ d.n % 2 ^ 32 - 1))
      → bounded v x ≡ root_of d t
  unfolding root_of
  root_made x v e f =
      let all : 1 * 2 ^ d.n % 2 ^ 32 - 1 ≡ 2 ^ d.n - 1 = omega (arith, all_small d.n rows.few) in
      ap₂ bounded (f ∙ ap (λ (m : ℕ). (reckon_on t).ahead d.bound 0 (stops_in m)) all) e

  -- a bound is at most the longest path and one leg more for each stop to come, and one home
  pub encoded_live : {b : Record} → Encoded d t b → b.bound < gone
  unfolding encode_of encode
  encoded_live {b} e =
      let x = e.node in
      let n = d.n in
      let place = (reckon_on t).place x in
      let same : b.bound ≡ (day_on n t).path x + (reckon_on t).ahead d.bound place (left n x) =
      ap (λ (r : Record). r.bound) e.same ∙ (rows_walk n t).bound_ahead d.bound rows.bound x in
      let short : length (left n x) ≤ most_stops = omega (arith, size-left n x, rows.few) in
      omega (arith, same, path_most e, ahead_small t rows.cheap most_stops d.bound place (left n x) short)

  root_encoded : Encoded d t (root_of d t)
  root_encoded = record { node = []; partial = partial_root d.n; same = encode_root rows }

  pub root_live : (root_of d t).bound < gone
  root_live = encoded_live root_encoded

  pub root_sized : (root_of d t).size ≡ ones (root_of d t).set
  root_sized = encoded_sized rows root_encoded

  module _ {b : Record} (e : Encoded d t b) where
    pub children_live : (x : Record) → In x (children_of d t b) → x.bound < gone
    children_live x i = encoded_live (children_encoded rows e x i)

    pub born_live : {born : ℕ} {kids : List Record} → Born d t b born kids → (s : ℕ) → In s (stops_in born) → (in_slot kids s).bound < gone
    born_live k s i = encoded_live (born_encoded rows e k s i)

-- s is one of the stops that b leaves, leg what flying there costs, and v what the bound adds to the child by s
pub record Kid (d : Setting) (t : Table) (b : Record) (s leg v : ℕ) : Type 0 where
  pub rows : Rows d t
  pub encoded : Encoded d t b
  pub stop : In s (stops_in (rest_of d b))
  pub flies : leg ≡ (reckon_on t).further (last_stop b) s
  pub adds : v ≡ (reckon_on t).ahead d.bound s (stops_in (rest_of d b - 2 ^ (s - 1)))

module _ {d : Setting} {t : Table} {b : Record} {s leg v : ℕ} (q : Kid d t b s leg v) where
  leg_most : leg ≤ dearest
  leg_most = omega (arith, q.flies, further_small t q.rows.cheap (last_stop b) s)

  kid_wide : Wide b s leg
  unfolding encode_of
  kid_wide =
      let e = q.encoded in
      let m : In s (left d.n e.node) = rw (rest_of_left q.rows e) at q.stop in
      let room : (day_on d.n t).path e.node + leg < 2 ^ 32 = omega (arith, path_most q.rows e, leg_most) in
      subst (λ (r : Record). Wide r s leg) (sym e.same)
      (encode_wide d.n q.rows.few (day_on d.n t) d.bound e.node e.partial s m leg room)

  pub kid_bears : Bears b s leg v
  unfolding rest_of
  kid_bears =
      let others = rest_of d b - 2 ^ (s - 1) in
      let small = rest_small d.n q.rows.few b.set in
      record {
        wide = kid_wide;
        fits =
            omega (
              arith,
              q.adds,
              path_most q.rows q.encoded,
              leg_most,
              ahead_small t q.rows.cheap most_stops d.bound s (stops_in others) (stops_in_few others (omega (arith, small))),
            );
      }

  pub kid_made : born_of b s leg v ≡ child_of d t b s
  unfolding child_of
  kid_made = rw (q.flies, q.adds, after_stop t (last_stop b) s)
