-- The walk over the legs home from the stops of a set (`noted`): what it holds for the stops passed, and that in the end each stop has the
-- cheapest leg home of the others.
--   Homed, homed_starts, homed_again    the invariant of the walk
--   homed_ends                          what it finds
use mathlib.Core.Path.{◌≡◌, refl, sym, subst, ◌∙◌}
use mathlib.Core.Logic.{◌⊎◌, inl, inr, ◌≢◌}
use Prim.Native.Nat.{ℕ, ◌-◌, ◌^◌, ◌≤◌, ◌<◌, min}
use native.Mathlib.Omega.{arith}
use borrow.Author.Tests.{lt-ltb, le-ltb}
use lib.Dec.{T, eqb, eqb_refl}
use Rattle.sizes.specs.Sizes.{most_stops, above_every_cost}
use Rattle.lists.specs.Lists.{In, least, without}
use Rattle.lists.proofs.Tests.{ordered, compared, to_true, to_false, ne_neqb}
use Rattle.lists.proofs.Members.{in_without, without_in}
use Rattle.lists.proofs.Numbers.{least_is}
use Rattle.stops.specs.Code.{stops_in, First}
use Rattle.stops.proofs.SetBits.{stops_in_range}
use Rattle.stops.proofs.SetLoops.{Passed, passed_starts, passed_again, passed_ends}
use Rattle.carried.specs.Code.{noted, home_of}
use Rattle.carried.specs.declared.Homes.{Homes}

-- h has the legs home, each below what stands for none. Of the stops passed the cheapest is known with its giver, which is before the stops
-- left, and so is the cheapest of the others.
pub record Homed (h : ℕ → ℕ) (rest : ℕ) (x : Homes) (left : ℕ) : Type 0 where
  pub lowest : Passed (λ s. x.cheapest ≤ h s) rest left
  pub others : Passed (λ s. (s ≡ x.giver) ⊎ (x.other ≤ h s)) rest left
  pub given : (x.cheapest ≡ above_every_cost) ⊎ (In x.giver (stops_in rest) × (x.cheapest ≡ h x.giver))
  pub second : (x.other ≡ above_every_cost) ⊎ ((q : ℕ) × In q (stops_in rest) × (q ≢ x.giver) × (x.other ≡ h q))
  pub before : (s : ℕ) → In s (stops_in left) → x.giver < s

abbrev no_homes : Homes
no_homes = record { cheapest = above_every_cost; giver = 0; other = above_every_cost }

pub homed_starts : (h : ℕ → ℕ) (rest : ℕ) → rest < 2 ^ most_stops → Homed h rest no_homes rest
homed_starts h rest small = record {
  lowest = passed_starts small;
  others = passed_starts small;
  given = inl refl;
  second = inl refl;
  before = λ s i. (stops_in_range rest small s i).0;
}

module _
    {h : ℕ → ℕ} {rest left left' r v : ℕ} {x : Homes} (l : Homed h rest x left) (o : First left r) (e : left' ≡ left - 2 ^ (r - 1)) (d : v ≡ h r)
  where
    behind : (s : ℕ) → In s (stops_in left') → r < s
    behind s i = o.behind s (rw e at i)

    lesser_now : v < x.cheapest → Homed h rest (record { cheapest = v; giver = r; other = x.cheapest }) left'
    lesser_now below = record {
      lowest = passed_again l.lowest o e (omega arith) (λ s i n was. omega arith);
      others = passed_again l.lowest o e (inl refl) (λ s i n was. inr was);
      given = inr (l.lowest.among r o.member, d);
      second = go l.given;
      before = behind;
    }
      where
        go :
            (x.cheapest ≡ above_every_cost) ⊎ (In x.giver (stops_in rest) × (x.cheapest ≡ h x.giver))
            → (x.cheapest ≡ above_every_cost) ⊎ ((q : ℕ) × In q (stops_in rest) × (q ≢ r) × (x.cheapest ≡ h q))
        go (inl none) = inl none
        go (inr (i, g)) = inr (x.giver, i, (λ q. omega (arith, l.before r o.member, q)), g)

    kept-now : x.cheapest ≤ v → Homed h rest (record { cheapest = x.cheapest; giver = x.giver; other = min x.other v }) left'
    kept-now above = record {
      lowest = passed_again l.lowest o e (omega arith) (λ s i n was. was);
      others = passed_again l.others o e (inr (omega arith)) (λ s i n was. still s was);
      given = l.given;
      second = go (ordered x.other v) l.second;
      before = λ s i. omega (arith, l.before r o.member, behind s i);
    }
      where
        still : (s : ℕ) → (s ≡ x.giver) ⊎ (x.other ≤ h s) → (s ≡ x.giver) ⊎ (min x.other v ≤ h s)
        still s (inl q) = inl q
        still s (inr k) = inr (omega arith)

        go :
            (x.other ≤ v) ⊎ (v < x.other) → (x.other ≡ above_every_cost) ⊎ ((q : ℕ) × In q (stops_in rest) × (q ≢ x.giver) × (x.other ≡ h q))
            → (min x.other v ≡ above_every_cost) ⊎ ((q : ℕ) × In q (stops_in rest) × (q ≢ x.giver) × (min x.other v ≡ h q))
        go (inr k) was = inr (r, l.lowest.among r o.member, (λ q. omega (arith, l.before r o.member, q)), omega arith)
        go (inl k) (inl none) = inl (omega arith)
        go (inl k) (inr (q, i, n, g)) = inr (q, i, n, omega arith)

    pub homed_again : Homed h rest (noted x r v) left'
    unfolding noted
    homed_again = go (ordered x.cheapest v)
      where
        go : (x.cheapest ≤ v) ⊎ (v < x.cheapest) → Homed h rest (noted x r v) left'
        go (inl k) = rw (le-ltb v x.cheapest k) (kept-now k)
        go (inr k) = rw (lt-ltb v x.cheapest k) (lesser_now k)

pub homed_ends :
    {h : ℕ → ℕ} {rest left : ℕ} {x : Homes} → Homed h rest x left → left ≡ 0 → ((s : ℕ) → h s < above_every_cost) → (k r : ℕ) → In k (stops_in rest)
    → In r (without k (stops_in rest)) → home_of x k ≡ least h (without k (stops_in rest))
unfolding home_of
homed_ends {h} {rest} {left} {x} l e dear k r i j = go (compared k x.giver)
  where
    rest_of : (s : ℕ) → In s (without k (stops_in rest)) → In s (stops_in rest) × (k ≢ s)
    rest_of s m = in_without k (stops_in rest) s m

    other_below : k ≡ x.giver → (s : ℕ) → In s (without k (stops_in rest)) → x.other ≤ h s
    other_below q s m = pick (passed_ends l.others e s (rest_of s m).0)
      where
        pick : (s ≡ x.giver) ⊎ (x.other ≤ h s) → x.other ≤ h s
        pick (inl g) = absurd ((rest_of s m).1 (q ∙ sym g))
        pick (inr b) = b

    other_is :
        k ≡ x.giver → (x.other ≡ above_every_cost) ⊎ ((q : ℕ) × In q (stops_in rest) × (q ≢ x.giver) × (x.other ≡ h q))
        → x.other ≡ least h (without k (stops_in rest))
    other_is q (inl none) = absurd (let b = other_below q r j in let c = dear r in omega arith)
    other_is q (inr (s, m, n, g)) =
        least_is h (without k (stops_in rest)) x.other s (without_in k (stops_in rest) s m (λ z. n (sym z ∙ q))) g (other_below q)

    cheapest_is :
        k ≢ x.giver → (x.cheapest ≡ above_every_cost) ⊎ (In x.giver (stops_in rest) × (x.cheapest ≡ h x.giver))
        → x.cheapest ≡ least h (without k (stops_in rest))
    cheapest_is n (inl none) = absurd (let b = passed_ends l.lowest e k i in let c = dear k in omega arith)
    cheapest_is n (inr (m, g)) =
        least_is h (without k (stops_in rest)) x.cheapest x.giver (without_in k (stops_in rest) x.giver m n) g
        (λ s z. passed_ends l.lowest e s (rest_of s z).0)

    go : (k ≡ x.giver) ⊎ (k ≢ x.giver) → home_of x k ≡ least h (without k (stops_in rest))
    go (inl q) = rw (to_true (eqb k x.giver) (subst (λ (g : ℕ). T (eqb k g)) q (eqb_refl k))) (other_is q l.second)
    go (inr n) = rw (to_false (eqb k x.giver) (ne_neqb k x.giver n)) (cheapest_is n l.given)
