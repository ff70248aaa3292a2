-- The close bound of a node's children, carried along from the node (request A.7). The node ends at a place and leaves the stops of rest; k is one
-- of them, the child by k leaves the others, and r is one of these.
--   among_child          for the child, the cheapest leg into a stop that it leaves is the cheapest from another one that the node leaves,
--                        whatever k is
--   share_corrected      a share and its correction are that leg, where the node leaves another stop
--   another              if the child leaves a stop, the node leaves another one beside each of its own
--   held_corrected       so the sum that the node holds, with every correction, is the sum of these legs
--   home_kept            if k did not give the cheapest leg home, it is the child's too
--   carried_home_lem         so the leg home carried to the child is its own
--   family_child         the sum of these legs is the leg into k and the child's own sum
--   carried-sum          so the sum carried to the child is its own
--   carried-remainder    together: what is carried to the child is its remainder
--   carried_is_close     so every child has its close bound
--   carried_on_every_day    on the day of every table
use mathlib.Core.Path.{◌≡◌, refl, ap, sym, ◌∙◌, subst}
use mathlib.Core.Bool.{Bool, true, false, not, cond}
use mathlib.Core.List.Memᴰ
use mathlib.Core.List.{List, [], ◌∷◌}
use mathlib.Core.Logic.{◌⊎◌, inl, inr, ◌≢◌}
use Prim.Native.Nat.{ℕ, ◌+◌, ◌-◌, min}
use native.Mathlib.Omega.{arith}
use lib.Dec.{T, T_not, eqb}
use Rattle.lists.specs.Lists.{In, sum, least, without, Distinct}
use Rattle.lists.proofs.Tests.{either, to_true, to_false, neq, compared}
use Rattle.lists.proofs.Members.{in_head, in_without, without_in}
use Rattle.lists.proofs.Numbers.{sum_same, sum_adds, least_le, least-given, least_part, least_members}
use Rattle.lists.proofs.Distinct.{sum-without}
use Rattle.orders.specs.Orders.{left, last, complete, extend}
use Rattle.orders.proofs.Sets.{distinct-left, last-extend, left-extend}
use Rattle.orders.proofs.Pairs.{in_children, in_ready}
use Rattle.orders.proofs.Tree.{left-complete}
use Rattle.stops.specs.Tables.{rows}
use Rattle.stops.specs.Legs.{Legs, legs, path, cost}
use Rattle.stops.specs.Bounds.{cheapest_into, remainder, close, ends_away, bound_by}
use Rattle.stops.specs.Stops.{day, day_on}
use Rattle.carried.specs.Examples
use Rattle.carried.specs.Carried.{held_sum, among, from_place, correction, carried_sum, carried_home, carried, carried_bound, CarriedIsClose, CarriedOnEveryDay}

-- a choice of which the second, where it is taken, is the same as the first
either_way : (b : Bool) (a c : ℕ) → (T (not b) → a ≡ c) → cond b a c ≡ a
either_way true a c h = refl
either_way false a c h = sym (h tt)

-- the lesser of a and b and, if it is a, what a is short of b, make b
lesser_corrected : (a b : ℕ) → min a b + cond (eqb (min a b) a) (b - min a b) 0 ≡ b
lesser_corrected a b = go (either (eqb (min a b) a))
  where
    go : T (eqb (min a b) a) ⊎ T (not (eqb (min a b) a)) → min a b + cond (eqb (min a b) a) (b - min a b) 0 ≡ b
    go (inl h) = rw (to_true (eqb (min a b) a) h) (omega arith)
    go (inr h) = rw (to_false (eqb (min a b) a) h) (omega (arith, neq (min a b) a h))

module _ (f : ℕ → ℕ) where
  -- the least, corrected by what it is short of the others if p gave it, is the least of the others
  least_corrected :
      (p r : ℕ) (xs : List ℕ) → In r xs
      → least f (p ∷ xs) + cond (eqb (least f (p ∷ xs)) (f p)) (least f xs - least f (p ∷ xs)) 0 ≡ least f xs
  least_corrected p r [] m = absurd (Memᴰ.not-nil m)
  least_corrected p r (x ∷ xs) m = lesser_corrected (f p) (least f (x ∷ xs))

-- A share is the cheapest leg from the place or from another stop left; the child has k for its place, which was another stop left. So the
-- candidates of the child are those of the node but for the place, whichever k is, and one correction for each stop does for all children.
module _ (L : Legs) (rest : List ℕ) where
  pub among_child : (k s : ℕ) → In k rest → In s (without k rest) → cheapest_into L k (without k rest) s ≡ among L rest s
  unfolding cheapest_into among
  among_child k s m i = least_members (λ r. L.leg r s) (k ∷ without s (without k rest)) (without s rest) there back
    where
      there : (z : ℕ) → In z (k ∷ without s (without k rest)) → In z (without s rest)
      there z j = go (Memᴰ.cases_cons j)
        where
          go : (z ≡ k) ⊎ In z (without s (without k rest)) → In z (without s rest)
          go (inl e) = rw e (without_in s rest k m (λ q. (in_without k rest s i).1 (sym q)))
          go (inr h) =
              let (l, apart) = in_without s (without k rest) z h in
              without_in s rest z (in_without k rest z l).0 apart

      back : (z : ℕ) → In z (without s rest) → In z (k ∷ without s (without k rest))
      back z j = go (compared k z) (in_without s rest z j)
        where
          go : (k ≡ z) ⊎ (k ≢ z) → In z rest × (s ≢ z) → In z (k ∷ without s (without k rest))
          go (inl e) h = rw e in_head
          go (inr n) h = Memᴰ.tail (without_in s (without k rest) z (without_in k rest z h.0 n) h.1)

  pub share_corrected : (place s r : ℕ) → In r (without s rest) → cheapest_into L place rest s + correction L place rest s ≡ among L rest s
  unfolding cheapest_into correction from_place among
  share_corrected place s r m = least_corrected (λ q. L.leg q s) place r (without s rest) m

  pub another : (k r : ℕ) → In k rest → In r (without k rest) → (s : ℕ) → In s rest → (q : ℕ) × In q (without s rest)
  another k r m i s j = go (compared s k)
    where
      go : (s ≡ k) ⊎ (s ≢ k) → (q : ℕ) × In q (without s rest)
      go (inl e) = (r, rw e i)
      go (inr n) = (k, without_in s rest k m n)

  pub held_corrected :
      (place : ℕ) → ((s : ℕ) → In s rest → (r : ℕ) × In r (without s rest))
      → held_sum L place rest + sum (correction L place rest) rest ≡ sum (among L rest) rest
  unfolding held_sum
  held_corrected place others =
      sym
      (sum_adds (among L rest) (cheapest_into L place rest) (correction L place rest) rest
      (λ s m. let (r, i) = others s m in sym (share_corrected place s r i)))

  pub home_kept :
      (k : ℕ) → In k rest → L.home k ≢ least L.home rest → least L.home (without k rest) ≡ least L.home rest
  home_kept k m other =
      let (z, j, e) = least-given L.home rest k m in
      let i : In z (without k rest) = without_in k rest z j (λ q. other (rw q e)) in
      omega (
        arith,
        e,
        least_le L.home (without k rest) z i,
        least_part L.home rest (without k rest) z i (λ q h. (in_without k rest q h).0),
      )

  pub carried_home_lem : (k : ℕ) → In k rest → carried_home L rest k ≡ least L.home (without k rest)
  unfolding carried_home
  carried_home_lem k m =
      either_way (eqb (L.home k) (least L.home rest)) (least L.home (without k rest)) (least L.home rest)
      (λ h. home_kept k m (neq (L.home k) (least L.home rest) h))

  module _ (d : Distinct rest) where
    pub family_child :
        (k : ℕ) → In k rest → sum (among L rest) rest ≡ among L rest k + sum (cheapest_into L k (without k rest)) (without k rest)
    family_child k m =
        omega (
          arith,
          sum-without (among L rest) k d m,
          sum_same (cheapest_into L k (without k rest)) (among L rest) (without k rest) (λ s i. among_child k s m i),
        )

    pub carried-sum :
        (place k r : ℕ) → In k rest → In r (without k rest)
        → carried_sum L place rest k ≡ sum (cheapest_into L k (without k rest)) (without k rest)
    unfolding carried_sum held_sum
    carried-sum place k r m i =
        omega (
          arith,
          held_corrected place (another k r m i),
          family_child k m,
          sum-without (cheapest_into L place rest) k d m,
          sum-without (correction L place rest) k d m,
          share_corrected place k r i,
        )

    pub carried-remainder : (place k r : ℕ) → In k rest → In r (without k rest) → carried L place rest k ≡ remainder L k (without k rest)
    unfolding carried remainder
    carried-remainder place k r m i = omega (arith, carried-sum place k r m i, carried_home_lem k m)

pub carried_is_close : CarriedIsClose
unfolding close carried_bound
carried_is_close n pairs L x y m = by (either (complete n y))
  where
    carried-to :
        (k : ℕ) → In k (left n x) → y ≡ extend x k → (T (complete n y) → ⊥) → (after : List ℕ) → left n y ≡ after
        → remainder L (last y) (left n y) ≡ carried L (last x) (left n x) (last y)
    carried-to k l e partial [] none = absurd (partial (left-complete n y none))
    carried-to k l e partial (r ∷ rs) some =
        let ends : last y ≡ k = rw e (last-extend x k) in
        let leaves : left n y ≡ without k (left n x) = rw e (left-extend n x k) in
        let i : In r (without k (left n x)) = subst (λ (xs : List ℕ). In r xs) (sym some ∙ leaves) in_head in
        rw (ends, leaves) (sym (carried-remainder L (left n x) (distinct-left n x) (last x) k r l i))

    by :
        T (complete n y) ⊎ T (not (complete n y))
        → cond (complete n y) (cost L y) (path L y + remainder L (last y) (left n y))
        ≡ cond (complete n y) (cost L y) (path L y + carried L (last x) (left n x) (last y))
    by (inl h) = rw (to_true (complete n y) h) refl
    by (inr h) =
        let (k, i, e) = in_children n pairs x y m in
        let l : In k (left n x) = (in_ready pairs (left n x) k i).0 in
        rw (to_false (complete n y) h)
        (ap (λ (a : ℕ). path L y + a) (carried-to k l e (λ q. T_not (complete n y) h q) (left n y) refl))

pub carried_on_every_day : CarriedOnEveryDay
unfolding day_on day bound_by
carried_on_every_day n bound table pairs x y e m = rw e (carried_is_close n pairs (legs (rows n (ends_away bound) table)) x y m)
