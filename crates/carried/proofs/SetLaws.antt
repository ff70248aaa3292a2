-- What the code of this crate needs of the laws of what is carried, for sets of stops that are numbers.
--   several                   a set with stops behind its first one is one of several
--   others_some               each stop of several has another one beside it
--   total_most, shares_made    what the children share: its parts as the code finds them, and that their sum is small
--   carried-ahead             what the code adds for a child is what is carried to the child
--   gives_close, gives_plain, gives_none, gives_one    so it is document 01's bound: close, plain, where no stop is left, and of a complete child
use mathlib.Core.Path.{◌≡◌, refl, ap, sym, subst, ◌∙◌}
use mathlib.Core.Bool.{true, false}
use mathlib.Core.List.Memᴰ
use mathlib.Core.List.{List}
use mathlib.Core.Logic.{◌⊎◌, inl, inr, ◌≢◌}
use Prim.Native.Nat.{ℕ, ◌+◌, ◌-◌, ◌*◌, ◌^◌, ◌≤◌, ◌<◌}
use native.Mathlib.Nat.{mul-le-mul_right}
use native.Mathlib.Omega.{arith}
use lib.Count.{count_trailing_zeros}
use lib.Dec.{T, eqb}
use lib.ListN.{length, get_or, replicate, length-replicate, get_or-replicate}
use Rattle.sizes.specs.Sizes.{most_stops, places, dearest}
use Rattle.lists.specs.Lists.{In, sum, least, without, Distinct}
use Rattle.lists.proofs.Tests.{compared, to_false, ne_neqb}
use Rattle.lists.proofs.Members.{in_behind, without_in}
use Rattle.lists.proofs.Numbers.{sum_mono, sum_const, least_small}
use Rattle.stops.specs.Legs.{row_leg, legs}
use Rattle.stops.specs.Bounds.{is_close, cheapest_into, remainder}
use Rattle.stops.specs.Code.{stops_in, First, Cheap, reckoning, reckon_on}
use Rattle.stops.proofs.SetBits.{stops_in_zero, stops_in_range, stops_in-distinct, stops_in_few, stops_in-without}
use Rattle.stops.proofs.SetLoops.{first_out, ahead_none, ahead-plain, ahead-close}
use Rattle.carried.specs.Carried.{among, carried}
use Rattle.carried.specs.Code.{Table, Several, home_of, ahead_of, family_of, Shares, Gives}
use Rattle.carried.specs.declared.Family.{Family}
use Rattle.carried.proofs.CarriedLaws.{share_corrected, held_corrected, carried_home_lem, family_child, carried-sum, carried-remainder}

-- a family of which only the total counts: each stop has nothing of it
zero_at : (s : ℕ) → s ≤ most_stops → get_or {A = ℕ} (replicate places 0) s 0 ≡ 0
zero_at s h = get_or-replicate {A = ℕ} places s 0 0 (omega arith)

total_ahead : (total s : ℕ) → (1 ≤ s) × (s ≤ most_stops) → ahead_of (family_of total) (get_or (replicate places 0) s 0) s ≡ total
unfolding ahead_of family_of home_of
total_ahead total s h = rw (zero_at s h.1, to_false (eqb s 0) (ne_neqb s 0 (λ e. let z : s ≡ 0 = e in omega arith))) (omega arith)

-- a set with a stop in it is not empty
some_in : (m s : ℕ) → In s (stops_in m) → 0 < m
some_in m s i = go (compared m 0)
  where
    go : (m ≡ 0) ⊎ (m ≢ 0) → 0 < m
    go (inl e) = absurd (Memᴰ.not-nil (rw (e, stops_in_zero) at i))
    go (inr n) = omega arith

-- a set with stops behind its first one: each stop has others beside it
pub several :
    (rest behind : ℕ) → 0 < rest → rest < 2 ^ most_stops → ((s : ℕ) → First rest s → behind ≡ rest - 2 ^ (s - 1)) → 0 < behind → Several rest
several rest behind some small later more = record { small = small; beside = λ s i. go s i (compared s f) }
  where
    f : ℕ
    f = count_trailing_zeros 32 rest + 1

    o : First rest f
    o = first_out rest some small f refl

    go : (s : ℕ) → In s (stops_in rest) → (s ≡ f) ⊎ (s ≢ f) → 0 < rest - 2 ^ (s - 1)
    go s i (inl e) = rw e (omega (arith, later f o))
    go s i (inr n) =
        some_in (rest - 2 ^ (s - 1)) f
        (rw (stops_in-without rest small s i).1 (without_in s (stops_in rest) f o.member n))

module _ (t : Table) {rest : ℕ} (v : Several rest) where
  others_are : (s : ℕ) → In s (stops_in rest) → stops_in (rest - 2 ^ (s - 1)) ≡ without s (stops_in rest)
  others_are s i = (stops_in-without rest v.small s i).1

  once : Distinct (stops_in rest)
  once = stops_in-distinct rest v.small

  pub others_some : (s : ℕ) → In s (stops_in rest) → (r : ℕ) × In r (without s (stops_in rest))
  others_some s i =
      let m = rest - 2 ^ (s - 1) in
      let first = first_out m (v.beside s i) (omega (arith, v.small)) _ refl in
      (count_trailing_zeros 32 m + 1, subst (λ (xs : List ℕ). In (count_trailing_zeros 32 m + 1) xs) (others_are s i) first.member)

  module _ (cheap : Cheap t) where
    among_most : (s : ℕ) → among (legs t) (stops_in rest) s ≤ dearest
    unfolding among
    among_most s = least_small (λ r. (legs t).leg r s) dearest (λ r. cheap.leg r s) (without s (stops_in rest))

    pub total_most : sum (among (legs t) (stops_in rest)) (stops_in rest) ≤ most_stops * dearest
    total_most =
        omega (
          arith,
          sum_mono (among (legs t) (stops_in rest)) (λ s. dearest) (stops_in rest) (λ s i. among_most s),
          sum_const dearest (stops_in rest),
          mul-le-mul_right dearest (stops_in_few rest v.small),
        )

  -- what the code finds is what the children share
  pub shares_made :
      (x : Family) (into : List ℕ) → x.total ≡ sum (among (legs t) (stops_in rest)) (stops_in rest)
      → ((s : ℕ) → In s (stops_in rest) → get_or into s 0 ≡ among (legs t) (stops_in rest) s)
      → ((s : ℕ) → In s (stops_in rest) → home_of x.homes s ≡ least (legs t).home (without s (stops_in rest))) → length into ≡ places
      → Shares t rest x into
  shares_made x into e each h room = record {
    total = λ place. e ∙ sym (held_corrected (legs t) (stops_in rest) place others_some);
    own = λ place s i. each s i ∙ sym (share_corrected (legs t) (stops_in rest) place s (others_some s i).0 (others_some s i).1);
    home = λ s i. h s i ∙ sym (carried_home_lem (legs t) (stops_in rest) s i);
    room = room;
  }

  -- and what it then adds for the child by s is what is carried to it, whatever the place left behind is
  module _ {x : Family} {into : List ℕ} (z : Shares t rest x into) (s : ℕ) (i : In s (stops_in rest)) where
    abbrev others : List ℕ
    others = without s (stops_in rest)

    parts : x.total ≡ get_or into s 0 + sum (cheapest_into (legs t) s others) others
    parts =
        let (r, j) = others_some s i in
        z.total 0 ∙ held_corrected (legs t) (stops_in rest) 0 others_some ∙ family_child (legs t) (stops_in rest) once s i
        ∙ ap (λ (m : ℕ). m + sum (cheapest_into (legs t) s others) others)
        (sym (z.own 0 s i ∙ share_corrected (legs t) (stops_in rest) 0 s r j))

    pub carried-ahead : (place : ℕ) → ahead_of x (get_or into s 0) s ≡ carried (legs t) place (stops_in rest) s
    unfolding ahead_of carried
    carried-ahead place =
        let (r, j) = others_some s i in omega (arith, parts, z.home s i, carried-sum (legs t) (stops_in rest) once place s r i j)

  -- so it is document 01's close bound
  pub gives_close : (bound : ℕ) (x : Family) (into : List ℕ) → is_close bound ≡ true → Shares t rest x into → Gives t bound rest x into
  unfolding reckon_on reckoning
  gives_close bound x into close z = record {
    carries = λ c place s i h. carried-ahead z s i place;
    less = λ s i. omega (arith, parts z s i);
    ahead = λ s i.
        let (q, j) = others_some s i in
        carried-ahead z s i 0 ∙ carried-remainder (legs t) (stops_in rest) once 0 s q i j ∙ ap (remainder (legs t) s) (sym (others_are s i))
        ∙ ahead-close (legs t) s (rest - 2 ^ (s - 1)) (v.beside s i) (omega (arith, v.small)) bound close;
    room = z.room;
  }

  -- a plain bound adds nothing
  pub gives_plain : (bound : ℕ) → is_close bound ≡ false → Gives t bound rest (family_of 0) (replicate places 0)
  unfolding reckon_on reckoning
  gives_plain bound plain = record {
    carries = λ c place s i h. absurd (subst T (sym c ∙ plain) tt);
    less = λ s i. omega (arith, zero_at s (stops_in_range rest v.small s i).1);
    ahead = λ s i.
        total_ahead 0 s (stops_in_range rest v.small s i)
        ∙ ahead-plain (legs t) s (rest - 2 ^ (s - 1)) (v.beside s i) (omega (arith, v.small)) bound plain;
    room = length-replicate {A = ℕ} places 0;
  }

-- where no stop is left, there is no child
pub gives_none : (t : Table) (bound rest : ℕ) → rest ≡ 0 → Gives t bound rest (family_of 0) (replicate places 0)
gives_none t bound rest e = record {
  carries = λ c place s i h. absurd (none s i);
  less = λ s i. absurd (none s i);
  ahead = λ s i. absurd (none s i);
  room = length-replicate {A = ℕ} places 0;
}
  where
    none : (s : ℕ) → In s (stops_in rest) → ⊥
    none s i = Memᴰ.not-nil (rw (e, stops_in_zero) at i)

-- one child is complete and flies home
pub gives_one :
    (t : Table) (bound rest s v : ℕ) → First rest s → rest - 2 ^ (s - 1) ≡ 0 → v ≡ row_leg t s 0 → Gives t bound rest (family_of v) (replicate places 0)
unfolding reckon_on reckoning legs family_of
gives_one t bound rest s v o e h = record {
  carries = λ c place r i more. absurd (let z : rest - 2 ^ (r - 1) ≡ 0 = rw (only r i) e in omega arith);
  less = λ r i. subst (λ (q : ℕ). get_or (replicate places 0) q 0 ≤ v) (sym (only r i)) (omega (arith, zero_at s o.few));
  ahead = λ r i.
      subst (λ (q : ℕ). ahead_of (family_of v) (get_or (replicate places 0) q 0) q ≡ (reckon_on t).ahead bound q (stops_in (rest - 2 ^ (q - 1))))
      (sym (only r i)) flies;
  room = length-replicate {A = ℕ} places 0;
}
  where
    only : (r : ℕ) → In r (stops_in rest) → r ≡ s
    only r i = go (compared r s)
      where
        go : (r ≡ s) ⊎ (r ≢ s) → r ≡ s
        go (inl q) = q
        go (inr n) = absurd (Memᴰ.not-nil (rw (e, stops_in_zero) at (in_behind (rw o.others at i) n)))

    flies : ahead_of (family_of v) (get_or (replicate places 0) s 0) s ≡ (reckon_on t).ahead bound s (stops_in (rest - 2 ^ (s - 1)))
    flies = total_ahead v s (o.some, o.few) ∙ h ∙ ahead_none bound (legs t) s (rest - 2 ^ (s - 1)) e
