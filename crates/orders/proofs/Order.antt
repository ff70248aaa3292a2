-- Orders: an order is a complete partial order, and has length n; and the test `is_order` passes just for orders. Where each stop stands in one list as
-- often as in another, the two have the same stops, and the one is an order if the other is (`order_counts`); `count_set` says how often each stands
-- there once one stop is replaced by another.
use mathlib.Core.Path.{◌≡◌, sym, ◌∙◌, subst}
use mathlib.Core.Bool.{Bool, true, false, not}
use mathlib.Core.List.Memᴰ
use mathlib.Core.List.{List, [], ◌∷◌}
use Prim.Native.Nat.{ℕ, zero, suc, ◌+◌, ◌≤◌, ◌<◌}
use native.Mathlib.Omega.{arith}
use lib.Dec.{T, T_not, eqb, eqb→eq, eqb_refl}
use lib.ListN.{length, get_or, set}
use Rattle.lists.specs.Lists.{In, put, keep, all, sum, Distinct, none, more}
use Rattle.lists.proofs.Tests.{and_left, and_right, and_both, not_not, to_true}
use Rattle.lists.proofs.Members.{in_head, in_keep, keep_in, all_in, in_all, distinct_from}
use Rattle.lists.proofs.Empty.{in_nonempty, no_members}
use Rattle.lists.proofs.Numbers.{keep_parts}
use Rattle.lists.proofs.Distinct.{length_without, sum_members}
use Rattle.orders.specs.Orders.{Node, stops, flown, left, complete, Order, count, is_order, Partial}
use Rattle.orders.proofs.Sets.{in_stops, stops_in_lem, in_flown, flown_in, in_left, left_in}
use Rattle.orders.proofs.Tree.{complete-size, size-complete, complete-left, left-complete}
use Rattle.orders.proofs.Partial.{partial_size}

-- an order is a complete partial order
pub order_partial : (n : ℕ) (x : Node) → Order n x → Partial n x
order_partial n x o = record { once = o.once; only = o.only }

-- a sum over an order is one over all stops
pub order-sum : (n : ℕ) (f : ℕ → ℕ) (x : Node) → Order n x → sum f x ≡ sum f (stops n)
order-sum n f x o =
    sum_members f o.once (stops n) (distinct_from 1 n) (λ s m. let h = o.only s m in stops_in_lem n s h.0 h.1)
    (λ s m. let h = in_stops n s m in o.every s h.0 h.1)

pub order-complete : (n : ℕ) (x : Node) → Order n x → T (complete n x)
order-complete n x o = left-complete n x (no_members (left n x) go)
  where
    go : (s : ℕ) → In s (left n x) → ⊥
    go s m = let h = in_left n x s m in T_not (flown x s) h.2 (in_flown x s (o.every s h.0 h.1))

pub partial_order : (n : ℕ) (x : Node) → Partial n x → T (complete n x) → Order n x
partial_order n x p c = record { once = p.once; only = p.only; every = λ s h k. flown_in x s (not_not (flown x s) (go s h k)) }
  where
    go : (s : ℕ) → 1 ≤ s → s ≤ n → T (not (flown x s)) → ⊥
    go s h k f = Memᴰ.not-nil (subst (λ (l : List ℕ). In s l) (complete-left n x c) (left_in n x s h k f))

pub order-length : (n : ℕ) (x : Node) → Order n x → length x ≡ n
order-length n x o = sym (partial_size n x (order_partial n x o)) ∙ complete-size n x (order-complete n x o)

-- n stops of 1 to n, none twice, are an order
pub full_order : (n : ℕ) (x : Node) → Partial n x → length x ≡ n → Order n x
full_order n x p e = partial_order n x p (size-complete n x (partial_size n x p ∙ e))

-- how often a stop stands in a list
in_count : (x : Node) (s : ℕ) → In s x → 1 ≤ count s x
unfolding count
in_count x s m = in_nonempty (keep_in (eqb s) x s m (eqb_refl s))

count_in : (x : Node) (s : ℕ) → 1 ≤ count s x → In s x
unfolding count
count_in x s h = go (keep (eqb s) x) (λ r m. in_keep (eqb s) x r m) h
  where
    go : (l : List ℕ) → ((r : ℕ) → In r l → In r x × T (eqb s r)) → 1 ≤ length l → In s x
    go [] f h = absurd (omega arith)
    go (r ∷ l) f h = let (m, e) = f r in_head in subst (λ (k : ℕ). In k x) (sym (eqb→eq s r e)) m

pub distinct-count : (x : Node) (s : ℕ) → Distinct x → In s x → count s x ≡ 1
unfolding count
distinct-count x s d m = omega (arith, keep_parts (eqb s) x, length_without s d m)

pub count-distinct : (x : Node) → ((s : ℕ) → In s x → count s x ≤ 1) → Distinct x
unfolding count
count-distinct [] h = none
count-distinct (s ∷ x) h = more new (count-distinct x rest)
  where
    twice : count s (s ∷ x) ≤ 1 → suc (count s x) ≤ 1
    twice k = subst (λ (b : Bool). length (put b s (keep (eqb s) x)) ≤ 1) (to_true (eqb s s) (eqb_refl s)) k

    new : In s x → ⊥
    new m = omega (arith, in_count x s m, twice (h s in_head))

    rest : (r : ℕ) → In r x → count r x ≤ 1
    rest r m = go (eqb r s) (h r (Memᴰ.tail m))
      where
        go : (b : Bool) → length (put b s (keep (eqb r) x)) ≤ 1 → length (keep (eqb r) x) ≤ 1
        go true k = omega arith
        go false k = k

module _ (x y : Node) (same : (s : ℕ) → count s y ≡ count s x) where
  counts_in : (s : ℕ) → In s y → In s x
  counts_in s m = count_in x s (omega (arith, same s, in_count y s m))

  pub order_counts : (n : ℕ) → Order n x → Order n y
  order_counts n o = record {
    once = count-distinct y (λ s m. omega (arith, same s, distinct-count x s o.once (counts_in s m)));
    only = λ s m. o.only s (counts_in s m);
    every = λ s h k. count_in y s (omega (arith, same s, in_count x s (o.every s h k)));
  }

-- a stop stands in a list as often as in its first element and in the rest
count-first : (s r : ℕ) (x : Node) → count s (r ∷ x) ≡ count s (r ∷ []) + count s x
unfolding count
count-first s r x = go (eqb s r)
  where
    go : (b : Bool) → length (put b r (keep (eqb s) x)) ≡ length (put b r []) + length (keep (eqb s) x)
    go true = omega arith
    go false = omega arith

pub count_set :
    (s v : ℕ) (x : Node) (i : ℕ) → i < length x → count s (set x i v) + count s (get_or x i 0 ∷ []) ≡ count s x + count s (v ∷ [])
count_set s v [] i h = absurd (omega arith)
count_set s v (r ∷ x) zero h = omega (arith, count-first s r x, count-first s v x)
count_set s v (r ∷ x) (suc i) h = omega (arith, count-first s r x, count-first s r (set x i v), count_set s v x i (omega arith))

-- the test for orders
pub is_order_order : (n : ℕ) (x : Node) → T (is_order n x) → Order n x
unfolding is_order
is_order_order n x h = record {
  once = count-distinct x (λ s m. let k = only s m in let e : count s x ≡ 1 = once s k.0 k.1 in omega arith);
  only = only;
  every = λ s i j. count_in x s (let e : count s x ≡ 1 = once s i j in omega arith);
}
  where
    once : (s : ℕ) → 1 ≤ s → s ≤ n → count s x ≡ 1
    once s i j =
        eqb→eq (count s x) 1
        (all_in (λ r. eqb (count r x) 1) (stops n)
        (and_left (all (λ r. eqb (count r x) 1) (stops n)) (all (flown (stops n)) x) h) s (stops_in_lem n s i j))

    only : (s : ℕ) → In s x → (1 ≤ s) × (s ≤ n)
    only s m =
        in_stops n s
        (flown_in (stops n) s
        (all_in (flown (stops n)) x (and_right (all (λ r. eqb (count r x) 1) (stops n)) (all (flown (stops n)) x) h) s m))

pub order_is_order : (n : ℕ) (x : Node) → Order n x → T (is_order n x)
unfolding is_order
order_is_order n x o =
    and_both (all (λ r. eqb (count r x) 1) (stops n)) (all (flown (stops n)) x)
    (in_all (λ r. eqb (count r x) 1) (stops n) once)
    (in_all (flown (stops n)) x (λ s m. let h = o.only s m in in_flown (stops n) s (stops_in_lem n s h.0 h.1)))
  where
    once : (s : ℕ) → In s (stops n) → T (eqb (count s x) 1)
    once s m = let h = in_stops n s m in rw (distinct-count x s o.once (o.every s h.0 h.1)) tt
