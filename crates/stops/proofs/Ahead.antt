-- What a bound adds to the path cost of a node, as a function of the place where the node ends and of the stops that it leaves.
--   ahead_grows     flying a leg lowers it by at most that leg: the heart of both bounds
--   ahead_closer    close adds at least what plain adds
-- Nothing here knows of nodes or of sets; the stops left are any distinct numbers.
use mathlib.Core.Path.{◌≡◌, refl, sym, subst}
use mathlib.Core.Bool.{Bool, true, false, not}
use mathlib.Core.List.Memᴰ
use mathlib.Core.List.{List, [], ◌∷◌}
use mathlib.Core.Logic.{◌⊎◌, inl, inr}
use Prim.Native.Nat.{ℕ, ◌+◌, ◌≤◌}
use native.Mathlib.Omega.{arith}
use lib.Dec.{eqb}
use Rattle.lists.specs.Lists.{In, sum, without, Distinct}
use Rattle.lists.proofs.Tests.{neq, ne_neqb}
use Rattle.lists.proofs.Members.{in_head, in_keep, keep_in}
use Rattle.lists.proofs.Distinct.{sum-without}
use Rattle.lists.proofs.Numbers.{sum_mono, least_le, least_of_some}
use Rattle.days.specs.Days.{Closer}
use Rattle.stops.specs.Legs.{Legs}
use Rattle.stops.specs.Bounds.{is_close, cheapest_into, remainder}
use Rattle.stops.specs.Code.{ahead_by, ahead}
use Rattle.stops.specs.Examples

-- The stop s, one of the distinct stops `rest`, is flown to from a place. The remainder falls by at most that leg:
--   into each other stop r, the candidates afterwards are s and the others left, which were candidates before, so the cheapest leg
--   into r does not fall (`into_rises`);
--   into s itself, the leg that is flown was a candidate (`into_leg`);
--   the cheapest leg home is afterwards over some of the stops it was over before, so it does not fall; and where s was the last
--   one left, it was at most the leg home from s, which is then all that is added.
module _ (L : Legs) (place s : ℕ) (rest : List ℕ) (d : Distinct rest) (m : In s rest) where
  into_rises : (r : ℕ) → In r (without s rest) → cheapest_into L place rest r ≤ cheapest_into L s (without s rest) r
  unfolding cheapest_into
  into_rises r i =
      least_of_some (λ q. L.leg q r) (place ∷ without r rest) s (without r (without s rest))
      (λ z k. Memᴰ.tail (go z (Memᴰ.cases_cons k)))
    where
      go : (z : ℕ) → (z ≡ s) ⊎ In z (without r (without s rest)) → In z (without r rest)
      go z (inl e) =
          rw e (keep_in (λ q. not (eqb r q)) rest s m (ne_neqb r s (λ q. neq s r (in_keep (λ q. not (eqb s q)) rest r i).1 (sym q))))
      go z (inr k) =
          let (j, h) = in_keep (λ q. not (eqb r q)) (without s rest) z k in
          keep_in (λ q. not (eqb r q)) rest z (in_keep (λ q. not (eqb s q)) rest z j).0 h

  into_leg : cheapest_into L place rest s ≤ L.leg place s
  unfolding cheapest_into
  into_leg = least_le (λ q. L.leg q s) (place ∷ without s rest) place in_head

  legs_grow : sum (cheapest_into L place rest) rest ≤ L.leg place s + sum (cheapest_into L s (without s rest)) (without s rest)
  legs_grow =
      omega (
        arith,
        sum-without (cheapest_into L place rest) s d m,
        into_leg,
        sum_mono (cheapest_into L place rest) (cheapest_into L s (without s rest)) (without s rest) into_rises,
      )

  remainder_grows :
      (after : List ℕ) → without s rest ≡ after → remainder L place rest ≤ L.leg place s + ahead_by true L s after
  unfolding remainder
  remainder_grows [] e =
      let h : sum (cheapest_into L place rest) rest ≤ L.leg place s + 0 = rw e at legs_grow in
      omega (arith, least_le L.home rest s m)
  remainder_grows (q ∷ qs) e =
      let h : sum (cheapest_into L place rest) rest ≤ L.leg place s + sum (cheapest_into L s (q ∷ qs)) (q ∷ qs) = rw e at legs_grow in
      omega
      (arith, least_of_some L.home rest q qs (λ z i. (in_keep (λ r. not (eqb s r)) rest z (subst (λ (l : List ℕ). In z l) (sym e) i)).0))

pub ahead_grows :
    (k : ℕ) (L : Legs) (place s : ℕ) (rest : List ℕ) → Distinct rest → In s rest
    → ahead k L place rest ≤ L.leg place s + ahead k L s (without s rest)
unfolding ahead
ahead_grows k L place s rest d m = go (is_close k) rest d m
  where
    go :
        (b : Bool) (rest : List ℕ) → Distinct rest → In s rest
        → ahead_by b L place rest ≤ L.leg place s + ahead_by b L s (without s rest)
    go b [] d m = absurd (Memᴰ.not-nil m)
    go true (r ∷ rs) d m = remainder_grows L place s (r ∷ rs) d m (without s (r ∷ rs)) refl
    go false (r ∷ rs) d m = omega arith

pub ahead_closer : (j k : ℕ) → Closer j k → (L : Legs) (place : ℕ) (rest : List ℕ) → ahead k L place rest ≤ ahead j L place rest
unfolding ahead is_close
ahead_closer j k h L place [] = omega arith
ahead_closer j k (inl h) L place (r ∷ rs) = rw (h.0, h.1) (omega arith)
ahead_closer j k (inr h) L place (r ∷ rs) = rw (h.0, h.1) (omega arith)
