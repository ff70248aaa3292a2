-- The loops that look for stops that need not wait.
--   Readying, readying_starts, readying_keeps, readying_passes, readying_ends    over the stops to come (`ready`)
--   Respecting, respecting_starts, respecting_left, respecting_fails, respecting_again    along a node (`respected`)
use mathlib.Core.Path.{◌≡◌, ap, sym, ◌∙◌, subst}
use mathlib.Core.Bool.{true, false, not}
use mathlib.Core.List.Memᴰ
use mathlib.Core.List.{List, [], ◌∷◌, ◌++◌, append-nil, append_assoc}
use mathlib.Core.Logic.{◌⊎◌, inl, inr}
use Prim.Native.Nat.{ℕ, suc, ◌+◌, ◌-◌, ◌^◌, ◌≤◌, ◌<◌}
use native.Mathlib.Numerals.{add-one}
use native.Mathlib.Omega.{arith}
use lib.Dec.{T, not_T}
use lib.ListN.{length, get_or, take, drop}
use lib.Seq.{take-suc, split_at}
use Rattle.sizes.specs.Sizes.{most_stops}
use Rattle.lists.specs.Lists.{In, keep}
use Rattle.lists.proofs.Tests.{to_false}
use Rattle.orders.specs.Orders.{Node, left, extend, Partial}
use Rattle.orders.specs.Pairs.{Pair, Pairing, respects, waits, ready}
use Rattle.orders.proofs.Sets.{left-extend}
use Rattle.orders.proofs.Partial.{next-left}
use Rattle.orders.proofs.Pairs.{respects_root, respects-front, ready-respects}
use Rattle.stops.specs.Code.{stops_in, First}
use Rattle.stops.proofs.SetBits.{stops_in_zero, stops_in-all, all_small, stops_in-without}
use Rattle.stops.proofs.SetJoin.{stops_in_joined}

-- The stops found, with those of what is left that need not wait behind them, are all that need not wait.
pub record Readying (pairs : List Pair) (rest found left : ℕ) : Type 0 where
  pub small : left < 2 ^ most_stops
  pub found_small : found < 2 ^ most_stops
  pub behind : (r s : ℕ) → In r (stops_in found) → In s (stops_in left) → r < s
  pub same : stops_in found ++ keep (λ s. not (waits pairs (stops_in rest) s)) (stops_in left) ≡ ready pairs (stops_in rest)

pub readying_starts : (pairs : List Pair) (rest : ℕ) → rest < 2 ^ most_stops → Readying pairs rest 0 rest
unfolding ready
readying_starts pairs rest h = record {
  small = h;
  found_small = omega arith;
  behind = λ r s i j. absurd (Memᴰ.not-nil (rw stops_in_zero at i));
  same = rw stops_in_zero;
}

module _ {pairs : List Pair} {rest found left s : ℕ} (l : Readying pairs rest found left) (o : First left s) where
  pub readying_keeps :
      {found' left' : ℕ} → waits pairs (stops_in rest) s ≡ false → found' ≡ found + 2 ^ (s - 1) → left' ≡ left - 2 ^ (s - 1)
      → Readying pairs rest found' left'
  readying_keeps w f e = rw (f, e) record {
    small = omega (arith, o.less, l.small);
    found_small = joined.1;
    behind = λ r t i j. go t j r (Memᴰ.append_cases (stops_in found) (rw joined.0 at i));
    same = rw (joined.0, append_assoc (stops_in found) (s ∷ [])) (rw (o.others, w) at l.same);
  }
    where
      joined : (stops_in (found + 2 ^ (s - 1)) ≡ stops_in found ++ (s ∷ [])) × (found + 2 ^ (s - 1) < 2 ^ most_stops)
      joined = stops_in_joined found s l.found_small o.some o.few (λ r i. l.behind r s i o.member)

      go : (t : ℕ) → In t (stops_in (left - 2 ^ (s - 1))) → (r : ℕ) → In r (stops_in found) ⊎ In r (s ∷ []) → r < t
      go t j r (inl i) = l.behind r t i (rw o.others (Memᴰ.tail j))
      go t j r (inr i) = rw (Memᴰ.eq_of_singleton i) (o.behind t j)

  pub readying_passes : {left' : ℕ} → waits pairs (stops_in rest) s ≡ true → left' ≡ left - 2 ^ (s - 1) → Readying pairs rest found left'
  readying_passes w e = rw e record {
    small = omega (arith, o.less, l.small);
    found_small = l.found_small;
    behind = λ r t i j. l.behind r t i (rw o.others (Memᴰ.tail j));
    same = rw (o.others, w) at l.same;
  }

pub readying_ends : {pairs : List Pair} {rest found left : ℕ} → Readying pairs rest found left → left ≡ 0 → stops_in found ≡ ready pairs (stops_in rest)
readying_ends {found = found} l e = sym (append-nil (stops_in found)) ∙ (rw (e, stops_in_zero) at l.same)

-- The first k stops of x respect the pairs, and `rest` is the set of the stops that they leave.
pub record Respecting (n : ℕ) (pairs : List Pair) (x : Node) (rest k : ℕ) : Type 0 where
  pub small : rest < 2 ^ most_stops
  pub leaves : stops_in rest ≡ left n (take k x)
  pub so_far : T (respects pairs (take k x))

pub respecting_starts : (n : ℕ) (pairs : List Pair) (x : Node) → n ≤ most_stops → Respecting n pairs x (2 ^ n - 1) 0
respecting_starts n pairs x h = record {
  small = omega (arith, all_small n h);
  leaves = stops_in-all n h;
  so_far = respects_root pairs;
}

-- s is the next of them
module _
    {n : ℕ} {pairs : List Pair} {x : Node} {rest k s : ℕ} (ok : Pairing n pairs) (p : Partial n x) (l : Respecting n pairs x rest k)
    (inside : k < length x) (next : s ≡ get_or x k 0)
  where
    split : x ≡ take k x ++ (s ∷ drop (suc k) x)
    split = rw next (split_at x k 0 inside)

    is_left_lem : In s (left n (take k x))
    is_left_lem = next-left n (take k x) s (drop (suc k) x) (subst (Partial n) split p)

    more : take (k + 1) x ≡ extend (take k x) s
    more = rw (add-one k, next) (take-suc x k 0 inside)

    pub respecting_left : In s (stops_in rest)
    respecting_left = rw l.leaves is_left_lem

    respected_next : respects pairs (extend (take k x) s) ≡ not (waits pairs (stops_in rest) s)
    respected_next = rw l.leaves (ready-respects ok (take k x) s l.so_far is_left_lem)

    pub respecting_fails : waits pairs (stops_in rest) s ≡ true → respects pairs x ≡ false
    respecting_fails w = to_false (respects pairs x) (not_T (respects pairs x) (λ h. subst T (respected_next ∙ ap not w) (front h)))
      where
        front : T (respects pairs x) → T (respects pairs (extend (take k x) s))
        front h =
            respects-front pairs (extend (take k x) s) (drop (suc k) x)
            (rw (append_assoc (take k x) (s ∷ []) (drop (suc k) x)) (subst (λ (y : Node). T (respects pairs y)) split h))

    pub respecting_again :
        {rest' : ℕ} → waits pairs (stops_in rest) s ≡ false → rest' ≡ rest - 2 ^ (s - 1) → Respecting n pairs x rest' (k + 1)
    respecting_again w e = rw e record {
      small = omega (arith, l.small);
      leaves = rw (more, left-extend n (take k x) s) ((stops_in-without rest l.small s respecting_left).1 ∙ rw l.leaves);
      so_far = rw more (subst T (sym (respected_next ∙ ap not w)) tt);
    }
