-- Laws of records that stand one for each stop (`in_slot`, `slots`), and of the passes over them.
--   slots-none, slots-first, slots_length, slot_in, in_slots    the records of a set, and of its first stop
--   thinned_all, thinned_twice, thinned_same     passes that keep all, one after the other, and by an equal test
--   Thinning, thinning_starts, thinning_adds, thinning_keeps, thinning_drops, thinning_tests, thinning_ends    the invariant of a pass
use mathlib.Core.Path.{◌≡◌, refl, ap, sym, ◌∙◌}
use mathlib.Core.Bool.{Bool, true, false, cond, ◌&&◌}
use mathlib.Core.List.Memᴰ
use mathlib.Core.List.{List, [], ◌∷◌, ◌++◌, map, map-append, append_assoc, append-nil}
use mathlib.Core.Logic.{◌⊎◌, inl, inr}
use Prim.Native.Nat.{ℕ, ◌+◌, ◌-◌, ◌^◌, ◌≤◌, ◌<◌}
use native.Mathlib.Omega.{arith}
use lib.Dec.{T}
use lib.ListN.{length, length-map}
use Rattle.sizes.specs.Sizes.{most_stops}
use Rattle.lists.specs.Lists.{In, keep}
use Rattle.lists.proofs.Members.{in_map, map_in}
use Rattle.lists.proofs.Keep.{keep_all, keep-keep, keep_same}
use Rattle.stops.specs.Code.{stops_in, First}
use Rattle.stops.specs.declared.node_record.Record.{Record}
use Rattle.stops.proofs.SetBits.{stops_in_zero}
use Rattle.stops.proofs.SetJoin.{stops_in_joined}
use Rattle.records.specs.Code.{in_slot, slots, Thinned}

pub slots-first : (l : List Record) {m s : ℕ} → First m s → slots m l ≡ in_slot l s ∷ slots (m - 2 ^ (s - 1)) l
unfolding slots
slots-first l o = ap (map (in_slot l)) o.others

pub slots-none : (l : List Record) → slots 0 l ≡ []
unfolding slots
slots-none l = ap (map (in_slot l)) stops_in_zero

pub slots_length : (l : List Record) (m : ℕ) → length (slots m l) ≡ length (stops_in m)
unfolding slots
slots_length l m = length-map (stops_in m) (in_slot l)

-- the record of a stop is one of the set's, and each of these is a stop's
pub slot_in : (l : List Record) (m s : ℕ) → In s (stops_in m) → In (in_slot l s) (slots m l)
unfolding slots
slot_in l m s i = map_in (in_slot l) i

pub in_slots : (l : List Record) (m : ℕ) (x : Record) → In x (slots m l) → (s : ℕ) × In s (stops_in m) × (x ≡ in_slot l s)
unfolding slots
in_slots l m x i = in_map (in_slot l) (stops_in m) x i

slots_more : (l : List Record) (m n s : ℕ) → stops_in n ≡ stops_in m ++ (s ∷ []) → slots n l ≡ slots m l ++ (in_slot l s ∷ [])
unfolding slots
slots_more l m n s e = ap (map (in_slot l)) e ∙ map-append (in_slot l) (stops_in m) (s ∷ [])

-- ---- passes

module _ (test : Record → Bool) (l : List Record) where
  pub thinned_all : (m : ℕ) → m < 2 ^ most_stops → ((x : Record) → In x (slots m l) → T (test x)) → Thinned test l m m
  thinned_all m small all = record { small = small; among = λ s i. i; same = sym (keep_all test (slots m l) all) }

module _ {f g : Record → Bool} {l : List Record} {a b : ℕ} (first : Thinned f l a b) where
  pub thinned_twice : {c : ℕ} → Thinned g l b c → Thinned (λ x. f x && g x) l a c
  thinned_twice second = record {
    small = second.small;
    among = λ s i. first.among s (second.among s i);
    same = second.same ∙ ap (keep g) first.same ∙ keep-keep g f (slots a l);
  }

  pub thinned_same : ((x : Record) → In x (slots a l) → f x ≡ g x) → Thinned g l a b
  thinned_same same = record {
    small = first.small;
    among = first.among;
    same = first.same ∙ keep_same f g (slots a l) same;
  }

-- A pass goes through the stops of a set so: `kept` has those passed whose records pass the test, `left` those to come, which are behind
-- them all.
pub record Thinning (test : Record → Bool) (l : List Record) (set kept left : ℕ) : Type 0 where
  pub small : left < 2 ^ most_stops
  pub kept_small : kept < 2 ^ most_stops
  pub among : (s : ℕ) → In s (stops_in left) → In s (stops_in set)
  pub kept-among : (s : ℕ) → In s (stops_in kept) → In s (stops_in set)
  pub behind : (r s : ℕ) → In r (stops_in kept) → In s (stops_in left) → r < s
  pub same : slots kept l ++ keep test (slots left l) ≡ keep test (slots set l)

pub thinning_starts :
    (test : Record → Bool) (l : List Record) (set : ℕ) → set < 2 ^ most_stops → Thinning test l set 0 set
thinning_starts test l set h = record {
  small = h;
  kept_small = omega arith;
  among = λ s i. i;
  kept-among = λ s i. absurd (Memᴰ.not-nil (rw stops_in_zero at i));
  behind = λ r s i j. absurd (Memᴰ.not-nil (rw stops_in_zero at i));
  same = rw (slots-none l);
}

module _ {test : Record → Bool} {l : List Record} {set kept left : ℕ} (w : Thinning test l set kept left) where
  pub thinning_ends : left ≡ 0 → Thinned test l set kept
  thinning_ends e = record {
    small = w.kept_small;
    among = w.kept-among;
    same = rw (e, slots-none l, append-nil) at w.same;
  }

  -- the first stop left is one that `kept` lacks, so that it can be added
  pub thinning_adds : {s : ℕ} → First left s → (kept < 2 ^ most_stops) × (((1 ≤ s) × (s ≤ most_stops)) × (In s (stops_in kept) → ⊥))
  thinning_adds {s} o = (w.kept_small, ((o.some, o.few), λ i. omega (arith, w.behind s s i o.member)))

  module _ {s left' : ℕ} (o : First left s) (later : left' ≡ left - 2 ^ (s - 1)) where
    later_in : (r : ℕ) → In r (stops_in left') → In r (stops_in left)
    later_in r i = rw o.others (Memᴰ.tail (rw later at i))

    pub thinning_drops : test (in_slot l s) ≡ false → Thinning test l set kept left'
    thinning_drops fails = record {
      small = omega (arith, o.less, w.small);
      kept_small = w.kept_small;
      among = λ r i. w.among r (later_in r i);
      kept-among = w.kept-among;
      behind = λ q r i j. w.behind q r i (later_in r j);
      same = rw later (rw (slots-first l o, fails) at w.same);
    }

    pub thinning_keeps :
        {kept' : ℕ} → kept' ≡ kept + 2 ^ (s - 1) → test (in_slot l s) ≡ true → Thinning test l set kept' left'
    thinning_keeps more passes =
        rw more record {
          small = omega (arith, o.less, w.small);
          kept_small = joined.1;
          among = λ r i. w.among r (later_in r i);
          kept-among = λ r i. kept-among r (cases r i);
          behind = λ q r i j. behind q r (cases q i) j;
          same =
              rw (later, slots_joined)
              (append_assoc (slots kept l) (in_slot l s ∷ []) (keep test (slots (left - 2 ^ (s - 1)) l)) ∙ (rw (slots-first l o, passes) at w.same));
        }
      where
        joined : (stops_in (kept + 2 ^ (s - 1)) ≡ stops_in kept ++ (s ∷ [])) × (kept + 2 ^ (s - 1) < 2 ^ most_stops)
        joined = stops_in_joined kept s w.kept_small o.some o.few (λ r i. w.behind r s i o.member)

        slots_joined : slots (kept + 2 ^ (s - 1)) l ≡ slots kept l ++ (in_slot l s ∷ [])
        slots_joined = slots_more l kept (kept + 2 ^ (s - 1)) s joined.0

        cases : (r : ℕ) → In r (stops_in (kept + 2 ^ (s - 1))) → In r (stops_in kept) ⊎ In r (s ∷ [])
        cases r i = Memᴰ.append_cases (stops_in kept) (rw joined.0 at i)

        kept-among : (r : ℕ) → In r (stops_in kept) ⊎ In r (s ∷ []) → In r (stops_in set)
        kept-among r (inl i) = w.kept-among r i
        kept-among r (inr i) = rw (Memᴰ.eq_of_singleton i) (w.among s o.member)

        behind : (q r : ℕ) → In q (stops_in kept) ⊎ In q (s ∷ []) → In r (stops_in left') → q < r
        behind q r (inl i) j = w.behind q r i (later_in r j)
        behind q r (inr i) j = rw (Memᴰ.eq_of_singleton i) (o.behind r (rw later at j))

    -- the first stop left is kept or dropped as its record's test says
    pub thinning_tests :
        {kept' : ℕ} → kept' ≡ cond (test (in_slot l s)) (kept + 2 ^ (s - 1)) kept → Thinning test l set kept' left'
    thinning_tests {kept'} e = go (test (in_slot l s)) refl e
      where
        go : (b : Bool) → test (in_slot l s) ≡ b → kept' ≡ cond b (kept + 2 ^ (s - 1)) kept → Thinning test l set kept' left'
        go true passes more = thinning_keeps more passes
        go false fails same = rw same (thinning_drops fails)
