-- A record with a stop added: it is the record of the node one stop longer.
--   Fits, fits_parts, parts_fit    what `fits` says
--   longer-stops, longer_node      the stops of the longer record, and that it is a node's again
--   extension_node                 the record that the pool holds of a node, extended by a stop that the node leaves and by what the path
--                                  cost grows by, is the one that it would hold of the longer node, but for the bound
--   run_inside                     the run afterwards is the run with the answer in the place of record i
--   run_outside, run_unfit         past the end, and where the stop does not fit, it is as it was
use mathlib.Core.Path.{◌≡◌, refl, ap, sym, subst}
use mathlib.Core.Bool.{Bool, true, false, not, ◌&&◌, cond}
use mathlib.Core.List.{List}
use Prim.Native.Nat.{ℕ, zero, suc, ◌+◌, ◌^◌, ◌≤◌, ◌<◌}
use native.Mathlib.Omega.{arith}
use lib.Dec.{T, ltb, ltb→lt, lt→ltb, T_not, not_T}
use lib.ListN.{length, set}
use lib.Seq.{set-get_or}
use Rattle.sizes.specs.Sizes.{most_stops}
use Rattle.lists.specs.Lists.{In, put, keep, from}
use Rattle.lists.proofs.Tests.{and_left, and_right, and_both, to_true}
use Rattle.lists.proofs.Members.{in_keep, in_from}
use Rattle.lists.proofs.Empty.{no_members}
use Rattle.orders.specs.Orders.{Node, flown, set_of, left, size, extend, Partial}
use Rattle.orders.proofs.Sets.{in_flown, flown_in, in_left, left_in}
use Rattle.orders.proofs.Partial.{partial_extend}
use Rattle.days.specs.Days.{Day}
use Rattle.stops.specs.declared.node_record.Record.{Record}
use Rattle.records.specs.Code.{encode}
use Rattle.records.proofs.Encode.{unbounded}
use Rattle.node_answers.specs.Nodes.{flown_stops, is_node}
use Rattle.node_answers.specs.Answers.{is_inside, record_at, fits, longer, extension, extend_at}
use Rattle.node_answers.specs.Examples
use Rattle.node_answers.proofs.NodeLaws.{NodeRecord, node_record, record_node}
use Rattle.node_answers.proofs.NodesRead.{stops_record, record_passes}

-- what `fits` says
pub record Fits (x : Record) (stop leg : ℕ) : Type 0 where
  pub node : NodeRecord most_stops x (flown_stops x)
  pub leaves : In stop (left most_stops (flown_stops x))
  pub small : x.path + leg < 2 ^ 32

module _ (x : Record) (stop leg : ℕ) where
  -- the three tests
  abbrev is_one : Bool
  is_one = is_node most_stops x

  abbrev is_left : Bool
  is_left = flown (left most_stops (flown_stops x)) stop

  abbrev is_small : Bool
  is_small = ltb (x.path + leg) (2 ^ 32)

  pub fits_parts : T (fits x stop leg) → Fits x stop leg
  unfolding fits
  fits_parts h =
      let two : T (is_one && is_left) = and_left (is_one && is_left) is_small h in
      record {
        node = node_record most_stops x (and_left is_one is_left two);
        leaves = flown_in (left most_stops (flown_stops x)) stop (and_right is_one is_left two);
        small = ltb→lt (x.path + leg) (2 ^ 32) (and_right (is_one && is_left) is_small h);
      }

  pub parts_fit : Fits x stop leg → T (fits x stop leg)
  unfolding fits
  parts_fit f =
      and_both (is_one && is_left) is_small
      (and_both is_one is_left (record_node most_stops x f.node) (in_flown (left most_stops (flown_stops x)) stop f.leaves))
      (lt→ltb (x.path + leg) (2 ^ 32) f.small)

-- the longer record
module _ {x : Record} {stop leg : ℕ} (f : Fits x stop leg) where
  abbrev y : Node
  y = flown_stops x

  longer_partial : Partial most_stops (extend y stop)
  longer_partial = partial_extend most_stops y stop f.node.node f.leaves

  longer_record : NodeRecord most_stops (longer x stop leg) (extend y stop)
  unfolding longer
  longer_record = record {
    some = omega arith;
    few = omega arith;
    node = longer_partial;
    size_is = refl;
    set_is = refl;
    first_is = refl;
    second_is = refl;
  }

  pub longer-stops : flown_stops (longer x stop leg) ≡ extend (flown_stops x) stop
  longer-stops = stops_record longer_record

  pub longer_node : T (is_node most_stops (longer x stop leg))
  longer_node = record_passes longer_record

-- A node for n stops is one for more, with the same set.
keep_further :
    (test : ℕ → Bool) (a n m : ℕ) → n ≤ m → ((s : ℕ) → a + n ≤ s → T (not (test s))) → keep test (from a n) ≡ keep test (from a m)
keep_further test a zero m h none =
    sym (no_members (keep test (from a m)) (λ s i. let (j, t) = in_keep test (from a m) s i in
    T_not (test s) (none s (omega (arith, in_from a m s j))) t))
keep_further test a (suc n) zero h none = absurd (omega arith)
keep_further test a (suc n) (suc m) h none =
    ap (put (test a) a) (keep_further test (suc a) n m (omega arith) (λ s k. none s (omega arith)))

module _ (n : ℕ) (few : n ≤ most_stops) (y : Node) (p : Partial n y) where
  set_more : set_of n y ≡ set_of most_stops y
  unfolding set_of
  set_more =
      keep_further (flown y) 1 n most_stops few
      (λ s h. not_T (flown y s) (λ t. absurd (let k : (1 ≤ s) × (s ≤ n) = p.only s (flown_in y s t) in omega arith)))

  size_more : size n y ≡ size most_stops y
  unfolding size
  size_more = ap length set_more

  partial_more : Partial most_stops y
  partial_more = record { once = p.once; only = λ s m. let h : (1 ≤ s) × (s ≤ n) = p.only s m in (h.0, omega arith) }

module _
    (n : ℕ) (few : n ≤ most_stops) (D : Day) (k : ℕ) (y : Node) (p : Partial n y) (s : ℕ) (m : In s (left n y)) (leg : ℕ)
    (grows : D.path (extend y s) ≡ D.path y + leg)
  where
    abbrev x : Record
    x = encode n D k y

    node_more : NodeRecord most_stops x y
    unfolding encode
    node_more = record {
      some = omega arith;
      few = omega arith;
      node = partial_more n few y p;
      size_is = size_more n few y p;
      set_is = rw (set_more n few y p) refl;
      first_is = refl;
      second_is = refl;
    }

    same-stops : flown_stops x ≡ y
    same-stops = stops_record node_more

    -- its stop and the leg to it fit
    fits_node : D.path (extend y s) < 2 ^ 32 → Fits x s leg
    unfolding encode
    fits_node small = record {
      node = subst (NodeRecord most_stops x) (sym same-stops) node_more;
      leaves =
          let h = in_left n y s m in
          rw same-stops (left_in most_stops y s h.0 (omega (arith, h.1)) h.2);
      small = omega (arith, grows);
    }

    longer-encode : longer x s leg ≡ unbounded (encode n D k (extend y s))
    unfolding longer encode
    longer-encode =
        let q : Partial n (extend y s) = partial_extend n y s p m in
        rw (same-stops, grows, size_more n few (extend y s) q, set_more n few (extend y s) q) refl

    pub extension_node :
        D.path (extend y s) < 2 ^ 32
        → extension true (encode n D k y) s leg
        ≡ record { inside = true; fits = true; after = unbounded (encode n D k (extend y s)) }
    unfolding extension
    extension_node small = rw (to_true (fits x s leg) (parts_fit x s leg (fits_node small)), longer-encode) refl

-- the run afterwards
module _ (xs : List Record) (i stop leg : ℕ) where
  pub run_inside :
      is_inside xs i ≡ true → extend_at xs i stop leg ≡ set xs i (extension true (record_at xs i) stop leg).after
  unfolding extend_at extension record_at
  run_inside e = rw e (go (fits (record_at xs i) stop leg))
    where
      go :
          (b : Bool) → cond b (set xs i (longer (record_at xs i) stop leg)) xs ≡ set xs i (cond b (longer (record_at xs i) stop leg) (record_at xs i))
      go true = refl
      go false = sym (set-get_or xs i _)

  pub run_outside : is_inside xs i ≡ false → extend_at xs i stop leg ≡ xs
  unfolding extend_at
  run_outside e = rw e refl

  pub run_unfit : fits (record_at xs i) stop leg ≡ false → extend_at xs i stop leg ≡ xs
  unfolding extend_at
  run_unfit e = rw e (go (is_inside xs i))
    where
      go : (b : Bool) → cond (b && false) (set xs i (longer (record_at xs i) stop leg)) xs ≡ xs
      go true = refl
      go false = refl
