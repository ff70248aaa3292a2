-- Exchanges end, and what they lead to.
--   improved_settles, improved_only        every node settles, to `improved` and to nothing else
--   improved_stays, improved_goes_on       so it is the node itself where no exchange lowers the cost, else what the best exchange settles to
--   settles_few                            with each exchange the cost falls, by 1 or more
--   improved-cost, improved-least          it is no dearer than the node, and no allowed exchange of two of its stops is cheaper
--   improved-order, improved-allowed       it is an order if the node is, and allowed if the node is
use mathlib.Core.Path.{◌≡◌, refl, sym, subst}
use mathlib.Core.Bool.{Bool}
use mathlib.Core.Logic.{◌⊎◌, inl, inr}
use Prim.Native.Nat.{ℕ, zero, suc, ◌+◌, ◌≤◌, ◌<◌}
use native.Mathlib.Omega.{arith}
use lib.Dec.{T}
use lib.ListN.{length}
use Rattle.lists.specs.Lists.{keep}
use Rattle.lists.proofs.Tests.{ordered}
use Rattle.orders.specs.Orders.{Node, Order}
use Rattle.stops.specs.Legs.{Legs, cost}
use Rattle.first_answer.specs.Exchanges.{exchanged, exchanges, best_exchange, Settles, settled, lowered, repeated, improved}
use Rattle.first_answer.specs.Request.{exchanges_made}
use Rattle.first_answer.proofs.Cheapest.{cheapest_stays}
use Rattle.first_answer.proofs.Exchanges.{best_exchange-least, best_exchange-order, best_exchange-allowed}

module _ (L : Legs) (allowed : Node → Bool) where
  abbrev next : Node → Node
  next x = best_exchange L allowed x

  -- where the best exchange lowers nothing it is the node itself, however often it is made
  next_stays : (x : Node) → cost L x ≤ cost L (next x) → next x ≡ x
  unfolding best_exchange
  next_stays x h = cheapest_stays (cost L) x (keep allowed (exchanges x)) h

  repeated_stays : (k : ℕ) (x : Node) → next x ≡ x → repeated L allowed k x ≡ x
  repeated_stays zero x e = refl
  repeated_stays (suc k) x e = subst (λ (y : Node). repeated L allowed k y ≡ x) (sym e) (repeated_stays k x e)

  -- An exchange that is followed by another lowers the cost by 1 or more, so that no more than the cost are needed.
  repeated_settles : (k : ℕ) (x : Node) → cost L x ≤ k → Settles L allowed x (repeated L allowed k x)
  repeated_settles zero x h = settled {x = x} (omega arith)
  repeated_settles (suc k) x h = go (ordered (cost L x) (cost L (next x))) (λ i. repeated_settles k (next x) i)
    where
      go :
          (cost L x ≤ cost L (next x)) ⊎ (cost L (next x) < cost L x)
          → (cost L (next x) ≤ k → Settles L allowed (next x) (repeated L allowed k (next x))) → Settles L allowed x (repeated L allowed k (next x))
      go (inl stays) again = subst (Settles L allowed x) (sym (repeated_stays (suc k) x (next_stays x stays))) (settled stays)
      go (inr less) again = lowered less (again (omega arith))

  pub improved_settles : (x : Node) → Settles L allowed x (improved L allowed x)
  unfolding improved
  improved_settles x = repeated_settles (cost L x) x (omega arith)

  settles_once : {x y z : Node} → Settles L allowed x y → Settles L allowed x z → y ≡ z
  settles_once (settled h) (settled k) = refl
  settles_once (settled h) (lowered k b) = absurd (omega arith)
  settles_once (lowered h a) (settled k) = absurd (omega arith)
  settles_once (lowered h a) (lowered k b) = settles_once a b

  pub improved_only : (x y : Node) → Settles L allowed x y → y ≡ improved L allowed x
  improved_only x y s = settles_once s (improved_settles x)

  pub improved_stays : (x : Node) → cost L x ≤ cost L (next x) → improved L allowed x ≡ x
  improved_stays x h = sym (improved_only x x (settled h))

  pub improved_goes_on : (x : Node) → cost L (next x) < cost L x → improved L allowed x ≡ improved L allowed (next x)
  improved_goes_on x h = sym (improved_only x (improved L allowed (next x)) (lowered h (improved_settles (next x))))

  pub settles_few : {x y : Node} (s : Settles L allowed x y) → exchanges_made s + cost L y ≤ cost L x
  settles_few (settled h) = omega arith
  settles_few (lowered h s) = omega (arith, settles_few s)

  pub improved-cost : (x : Node) → cost L (improved L allowed x) ≤ cost L x
  improved-cost x = omega (arith, settles_few (improved_settles x))

  settles_least : {x y : Node} → Settles L allowed x y → cost L y ≤ cost L (next y)
  settles_least (settled h) = h
  settles_least (lowered h s) = settles_least s

  pub improved-least :
      (x : Node) (p q : ℕ) → p < q → q < length (improved L allowed x) → T (allowed (exchanged (improved L allowed x) p q))
      → cost L (improved L allowed x) ≤ cost L (exchanged (improved L allowed x) p q)
  improved-least x p q h k a =
      omega (arith, settles_least (improved_settles x), best_exchange-least L allowed (improved L allowed x) p q h k a)

  -- what holds of a node and, where it holds of one, of its best exchange
  settles_keeps : (P : Node → Type 0) → ((x : Node) → P x → P (next x)) → {x y : Node} → Settles L allowed x y → P x → P y
  settles_keeps P keeps (settled h) p = p
  settles_keeps P keeps (lowered {x} h s) p = settles_keeps P keeps s (keeps x p)

  pub improved-order : (n : ℕ) (x : Node) → Order n x → Order n (improved L allowed x)
  improved-order n x o = settles_keeps (Order n) (λ y. best_exchange-order L allowed y n) (improved_settles x) o

  pub improved-allowed : (x : Node) → T (allowed x) → T (allowed (improved L allowed x))
  improved-allowed x h = settles_keeps (λ y. T (allowed y)) (λ y. best_exchange-allowed L allowed y) (improved_settles x) h
