-- What the nearest-stop order is.
--   to_nearest-next          a node flown on to the nearest of the stops that may be flown next is one of its extensions, and allowed
--   nearest-order           the nearest-stop order is an order, and allowed, where no allowed partial order that leaves a stop is without one that
--                           may be flown next
--   next_stops-ready         with pairs (request A.6), these are the stops that need not wait
--   nearest-allowed         so that there always is one, and the nearest-stop order is an order that respects them
use mathlib.Core.Path.{◌≡◌, refl, ap, sym, subst, ◌∙◌}
use mathlib.Core.Bool.{Bool, not}
use mathlib.Core.List.Memᴰ
use mathlib.Core.List.{List, [], ◌∷◌}
use mathlib.Core.Logic.{◌≢◌}
use Prim.Native.Nat.{ℕ, zero, suc, ◌+◌, ◌≤◌, ◌<◌}
use native.Mathlib.Omega.{arith}
use lib.Dec.{T}
use lib.ListN.{length, length-append}
use Rattle.lists.specs.Lists.{In}
use Rattle.lists.proofs.Members.{in_keep, in_head}
use Rattle.lists.proofs.Keep.{keep_same}
use Rattle.orders.specs.Orders.{Node, Partial, Order, left, last, extend, extensions}
use Rattle.orders.specs.Pairs.{Pair, Pairing, respects, Allowed, waits, ready}
use Rattle.orders.proofs.Sets.{size-left, extensions_in}
use Rattle.orders.proofs.Partial.{partial_root, partial_child, partial_size}
use Rattle.orders.proofs.Order.{full_order}
use Rattle.orders.proofs.Pairs.{respects_root, ready-respects, ready_some}
use Rattle.stops.specs.Legs.{Legs}
use Rattle.first_answer.specs.Nearest.{cheapest, to_nearest, next_stops, onward, nearest}
use Rattle.first_answer.proofs.Cheapest.{cheapest_in}

module _ (n : ℕ) (L : Legs) (allowed : Node → Bool) where
  -- a stop that may be flown behind x
  abbrev Next : Node → ℕ → Type 0
  Next x s = In s (left n x) × T (allowed (extend x s))

  next_stops-next : (x : Node) (s : ℕ) → In s (next_stops n allowed x) → Next x s
  unfolding next_stops
  next_stops-next x s m = in_keep (λ r. allowed (extend x r)) (left n x) s m

  to_nearest-next :
      (x : Node) (s : ℕ) (ss : List ℕ) → ((r : ℕ) → In r (s ∷ ss) → Next x r)
      → In (to_nearest L x (s ∷ ss)) (extensions n x) × T (allowed (to_nearest L x (s ∷ ss)))
  to_nearest-next x s ss h =
      let r : ℕ = cheapest (L.leg (last x)) s ss in
      let (l, a) = h r (cheapest_in (L.leg (last x)) s ss) in
      (extensions_in n x r l, a)

  -- from an allowed partial order that leaves a stop, some stop may be flown next
  abbrev Ways : Type 0
  Ways = (x : Node) → Partial n x → T (allowed x) → length x < n → next_stops n allowed x ≢ []

  -- what onward leads to from x, k stops more
  record Flown (x : Node) (k : ℕ) (y : Node) : Type 0 where
    partial : Partial n y
    passes : T (allowed y)
    long : length y ≡ length x + k

  module _ (ways : Ways) where
    onward-flown : (k : ℕ) (x : Node) → Partial n x → T (allowed x) → length x + k ≤ n → Flown x k (onward n L allowed k x)
    onward-flown zero x p a h = record { partial = p; passes = a; long = omega arith }
    onward-flown (suc k) x p a h = go (next_stops n allowed x) (next_stops-next x) (ways x p a (omega arith)) (λ y. onward-flown k y)
      where
        go :
            (stops : List ℕ) → ((r : ℕ) → In r stops → Next x r) → stops ≢ []
            → ((y : Node) → Partial n y → T (allowed y) → length y + k ≤ n → Flown y k (onward n L allowed k y))
            → Flown x (suc k) (onward n L allowed k (to_nearest L x stops))
        go [] among some again = absurd (some refl)
        go (s ∷ ss) among some again =
            let y : Node = to_nearest L x (s ∷ ss) in
            let one : length y ≡ length x + 1 = length-append x (cheapest (L.leg (last x)) s ss ∷ []) in
            let (child, passes) = to_nearest-next x s ss among in
            let f = again y (partial_child n x y p child) passes (omega arith) in
            record { partial = f.partial; passes = f.passes; long = omega (arith, f.long) }

    nearest-order : T (allowed []) → Order n (nearest n L allowed) × T (allowed (nearest n L allowed))
    unfolding nearest
    nearest-order first =
        let f = onward-flown n [] (partial_root n) first (omega arith) in
        (full_order n (onward n L allowed n []) f.partial (omega (arith, f.long)), f.passes)

module _ (n : ℕ) {pairs : List Pair} (ok : Pairing n pairs) where
  pub next_stops-ready : (x : Node) → T (respects pairs x) → next_stops n (respects pairs) x ≡ ready pairs (left n x)
  unfolding next_stops ready
  next_stops-ready x h = keep_same (λ s. respects pairs (extend x s)) (λ s. not (waits pairs (left n x) s)) (left n x) (λ s m. ready-respects ok x s h m)

  -- a partial order that is shorter than n leaves a stop, and then one that need not wait
  ready_ways : (L : Legs) → Ways n L (respects pairs)
  ready_ways L x p h short e = go (left n x) refl
    where
      go : (rest : List ℕ) → left n x ≡ rest → ⊥
      go [] none = omega (arith, size-left n x, partial_size n x p, ap length none)
      go (s ∷ rest) some =
          let (r, m) = ready_some ok (left n x) s (rw some in_head) in
          Memᴰ.not-nil (subst (λ (l : List ℕ). In r l) (sym (next_stops-ready x h) ∙ e) m)

  pub nearest-allowed : (L : Legs) → Allowed n pairs (nearest n L (respects pairs))
  nearest-allowed L =
      let (o, h) = nearest-order n L (respects pairs) (ready_ways L) (respects_root pairs) in
      record { order = o; respected = h }
