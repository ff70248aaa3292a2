-- Records that join a lane.
--   sized_twice, sized_joined, bound_joined    a link changes no node
--   length_joined, nodes_joined                those that have joined, as nodes
--   only_same, only_on, only_set               an index that changes in a lane's heads alone
--   only_with, only_all                        so it does where one joins, and where some do
--   Joining                                    children are written behind a lane, one after the other
--   lent_records, lent_back                    what a part of the pool's words that is lent on is as records
use mathlib.Core.Path.{◌≡◌, refl, ap, sym, ◌∙◌}
use mathlib.Core.Bool.{Bool, true, false}
use mathlib.Core.List.Memᴰ
use mathlib.Core.List.{List, [], ◌∷◌, ◌++◌, map, append_assoc, append-nil}
use Prim.Native.Nat.{ℕ, suc, ◌+◌, ◌*◌, ◌-◌, ◌^◌, ◌≤◌, ◌<◌}
use native.Mathlib.Numerals.{add-one}
use native.Mathlib.Omega.{arith}
use lib.ListN.{length, get_or, take, drop, set, length-set, length-drop, take-append-drop}
use lib.Seq.{take_all, take-suc-set, drop-length, drop-drop, drop-set-lt, get_or-set_other}
use borrow.Rule.Slice.PartMut.{mid_of, put_mid, Post-is}
use Rattle.sizes.specs.Sizes.{most_stops}
use Rattle.lists.specs.Lists.{In}
use Rattle.lists.proofs.Members.{in_head}
use Rattle.lists.proofs.Slices.{drop_further}
use Rattle.stops.specs.Code.{empty_record, First}
use Rattle.stops.specs.declared.node_record.Record.{Record}
use Rattle.records.specs.Code.{records, in_slot, slots}
use Rattle.records.proofs.ViewLaws.{length-records, records-drop, records_join}
use Rattle.records.proofs.SlotLaws.{slots-none, slots-first}
use Rattle.lanes.specs.Sizes.{heads}
use Rattle.lanes.specs.Code.{sized}
use Rattle.lanes.specs.declared.Lane.{Lane}
use Rattle.chains.specs.Code.{bucket_of, linked_to, joined_of, index_with, joined_all, index_all, Only}
use Rattle.chains.proofs.WalkLaws.{bucket_head}

-- a link changes no node
pub sized_twice : (x : Record) → sized (sized x) ≡ sized x
unfolding sized
sized_twice x = refl

sized_linked : (b : Bool) (p : Lane) (index : List ℕ) (x : Record) → p.linked ≡ b → sized (joined_of p index x) ≡ sized x
unfolding joined_of linked_to sized
sized_linked true p index x e = rw e
sized_linked false p index x e = rw e

pub sized_joined : (p : Lane) (index : List ℕ) (x : Record) → sized (joined_of p index x) ≡ sized x
sized_joined p index x = sized_linked p.linked p index x refl

bound_linked : (b : Bool) (p : Lane) (index : List ℕ) (x : Record) → p.linked ≡ b → (joined_of p index x).bound ≡ x.bound
unfolding joined_of linked_to
bound_linked true p index x e = rw e
bound_linked false p index x e = rw e

pub bound_joined : (p : Lane) (index : List ℕ) (x : Record) → (joined_of p index x).bound ≡ x.bound
bound_joined p index x = bound_linked p.linked p index x refl

pub length_joined : (p : Lane) (k : ℕ) (index : List ℕ) (xs : List Record) → length (joined_all p k index xs) ≡ length xs
unfolding joined_all
length_joined p k index [] = refl
length_joined p k index (x ∷ xs) = ap suc (length_joined p (suc k) (index_with p (suc k) index x) xs)

pub nodes_joined :
    (p : Lane) (k : ℕ) (index : List ℕ) (xs : List Record) → ((x : Record) → In x xs → x ≡ sized x)
    → map sized (joined_all p k index xs) ≡ xs
unfolding joined_all
nodes_joined p k index [] h = refl
nodes_joined p k index (x ∷ xs) h =
    let first : sized (joined_of p index x) ≡ x = sized_joined p index x ∙ sym (h x in_head) in
    let rest : map sized (joined_all p (suc k) (index_with p (suc k) index x) xs) ≡ xs =
    nodes_joined p (suc k) (index_with p (suc k) index x) xs (λ y i. h y (Memᴰ.tail i)) in
    rw (first, rest)

-- the index changes in the lane's heads alone
pub only_same : (from : ℕ) (index : List ℕ) → Only from index index
only_same from index = record { same_length = refl; before = λ j h. refl; behind = λ j h. refl }

pub only_on : (from : ℕ) (a b c : List ℕ) → Only from a b → Only from b c → Only from a c
only_on from a b c o n = record {
  same_length = n.same_length ∙ o.same_length;
  before = λ j h. n.before j h ∙ o.before j h;
  behind = λ j h. n.behind j h ∙ o.behind j h;
}

pub only_set : (from : ℕ) (index : List ℕ) (i c : ℕ) → from ≤ i → i < from + heads → Only from index (set index i c)
only_set from index i c low high = record {
  same_length = length-set index i c;
  before = λ j h. get_or-set_other index i j c 0 (λ e. omega arith);
  behind = λ j h. get_or-set_other index i j c 0 (λ e. omega arith);
}

only_linked : (b : Bool) (p : Lane) (c : ℕ) (index : List ℕ) (x : Record) → p.linked ≡ b → Only p.heads index (index_with p c index x)
unfolding index_with
only_linked true p c index x e =
    rw e (only_set p.heads index (p.heads + bucket_of x) c (omega arith) (omega (arith, bucket_head x)))
only_linked false p c index x e = rw e (only_same p.heads index)

pub only_with : (p : Lane) (c : ℕ) (index : List ℕ) (x : Record) → Only p.heads index (index_with p c index x)
only_with p c index x = only_linked p.linked p c index x refl

pub only_all : (p : Lane) (k : ℕ) (index : List ℕ) (xs : List Record) → Only p.heads index (index_all p k index xs)
unfolding index_all
only_all p k index [] = only_same p.heads index
only_all p k index (x ∷ xs) =
    let next = index_with p (suc k) index x in
    only_on p.heads index next (index_all p (suc k) next xs) (only_with p (suc k) index x) (only_all p (suc k) next xs)

-- The children by the stops of a set are written behind a lane so: the first k records of the part are those of the stops passed, each with
-- its link, `left` has the others, and what is behind is as it was.
pub record Joining (p : Lane) (part₀ kids : List Record) (alive : ℕ) (index₀ : List ℕ) (part : List Record) (index : List ℕ) (left k : ℕ) : Type 0
  where
    pub small : left < 2 ^ most_stops
    pub same : take k part ++ joined_all p (p.count + k) index (slots left kids) ≡ joined_all p p.count index₀ (slots alive kids)
    pub chains : index_all p (p.count + k) index (slots left kids) ≡ index_all p p.count index₀ (slots alive kids)
    pub number : k + length (slots left kids) ≡ length (slots alive kids)
    pub behind : drop k part ≡ drop k part₀
    pub long : length part ≡ length part₀

module _
    {p : Lane} {part₀ kids : List Record} {alive : ℕ} {index₀ : List ℕ} {part : List Record} {index : List ℕ} {left k : ℕ}
    (l : Joining p part₀ kids alive index₀ part index left k)
  where
    pub joining_room : {s : ℕ} → First left s → k < length (slots alive kids)
    joining_room o = omega (arith, ap length (slots-first kids o), l.number)

    pub joining_again :
        {part' : List Record} {index' : List ℕ} {left' s i : ℕ} {x y : Record} → First left s → length (slots alive kids) ≤ length part₀
        → left' ≡ left - 2 ^ (s - 1) → i ≡ s - 1 → x ≡ get_or kids i empty_record → y ≡ joined_of p index x → part' ≡ set part k y
        → index' ≡ index_with p (p.count + k + 1) index x → Joining p part₀ kids alive index₀ part' index' left' (k + 1)
    unfolding joined_all index_all in_slot
    joining_again {s = s} {i} {x} {y} o h e at read linked stored new =
        let here : x ≡ in_slot kids s = rw (← at) read in
        let room : k < length part = omega (arith, joining_room o, l.long) in
        let on : p.count + (k + 1) ≡ suc (p.count + k) = omega arith in
        rw (e, stored, linked, new) record {
          small = omega (arith, l.small, o.less);
          same = rw (on, add-one k, take-suc-set part k (joined_of p index x) room, append_assoc, add-one (p.count + k), here)
              (rw (slots-first kids o) at l.same);
          chains = rw (on, add-one (p.count + k), here) (rw (slots-first kids o) at l.chains);
          number = omega (arith, ap length (slots-first kids o), l.number);
          behind = drop-set-lt (k + 1) part k (joined_of p index x) (omega arith) ∙ drop_further k part part₀ l.behind (k + 1) (omega arith);
          long = length-set part k (joined_of p index x) ∙ l.long;
        }

    pub joining_ends :
        left ≡ 0 → (k ≡ length (slots alive kids))
        × ((part ≡ joined_all p p.count index₀ (slots alive kids) ++ drop k part₀)
        × (index ≡ index_all p p.count index₀ (slots alive kids)))
    unfolding joined_all index_all
    joining_ends e =
        let none : slots left kids ≡ [] = rw (e, slots-none) in (
          omega (arith, ap length none, l.number),
          (
            sym (take-append-drop k part)
                ∙ rw l.behind (rw (none, append-nil) at (ap (λ (xs : List Record). xs ++ drop k part₀) l.same)),
            rw none at l.chains,
          ),
        )

-- the words from 6 * at on are lent on: they are the records from `at` on, and come back as v
module _ (w : List ℕ) (at : ℕ) where
  pub lent_records : records (mid_of (6 * at) (length w - 6 * at) w) ≡ drop at (records w)
  lent_records =
      let whole : mid_of (6 * at) (length w - 6 * at) w ≡ drop (6 * at) w =
      take_all (length w - 6 * at) (drop (6 * at) w) (omega (arith, length-drop (6 * at) w)) in
      ap records whole ∙ records-drop at w

  pub lent_back :
      (front : List Record) (r : ℕ) (v : List ℕ) → at ≤ length (records w)
      → records v ≡ front ++ drop r (records (mid_of (6 * at) (length w - 6 * at) w))
      → records (put_mid (6 * at) (length w - 6 * at) w v) ≡ take at (records w) ++ (front ++ drop (at + r) (records w))
  lent_back front r v inside e =
      let within : 6 * at ≤ length w = omega (arith, length-records w) in
      rw (Post-is (6 * at) (length w) w within, drop-length w, append-nil)
      (rw (records_join at w v inside, e, lent_records, drop-drop r at (records w)))
