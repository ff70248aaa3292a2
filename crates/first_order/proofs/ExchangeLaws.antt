-- Laws of the loops that look for the best exchange of an order and make it.
--   swap-exchanged                             the library's `swap` is the exchange of two stops
--   reckonable                                 the cost of an order can be added up by the terms
--   Trying f x rest y e                        e is the best exchange tried so far; the cheapest by f of what it makes and of rest is y
--   behind_tried, behind-ends                  rest is what is made by the exchanges of one position: one less, none
--   exchanges_from x p                          what is made by the exchanges of each position from p on with the positions behind it
--   all_start, all_tried, all_end              rest is what is made by these: of all positions, of one less, of none
--   Improving d x₀ x own e                     x settles to what x₀ does, own is its cost and e its best exchange
--   improving_again, improving_ends            so it is with one more exchange made, and at last
--   improving_asks                             what is asked to look for the best exchange of the order that e makes
use mathlib.Core.Path.{◌≡◌, refl, sym, ◌∙◌}
use mathlib.Core.Bool.{Bool, true, false, cond}
use mathlib.Core.List.{List, [], ◌∷◌, ◌++◌}
use Prim.Native.Nat.{ℕ, suc, ◌+◌, ◌-◌, ◌≤◌, ◌<◌}
use native.Mathlib.Numerals.{add-one}
use native.Mathlib.Omega.{arith}
use lib.Dec.{ltb}
use lib.ListN.{length}
use Rattle.std.specs.List.{swap}
use Rattle.std.proofs.lemmas.List.Edits.{swap_is}
use Rattle.sizes.specs.Sizes.{dearest, above_every_cost}
use Rattle.lists.specs.Lists.{from, each}
use Rattle.lists.proofs.Tests.{to_true}
use Rattle.orders.specs.Orders.{Node, Order}
use Rattle.orders.proofs.Order.{order_partial, order-length}
use Rattle.stops.specs.Legs.{legs, cost}
use Rattle.stops.specs.Code.{Reckonable}
use Rattle.stops.proofs.Paths.{cost_small, partial_reckonable}
use Rattle.first_answer.specs.Nearest.{cheapest}
use Rattle.first_answer.specs.Exchanges.{exchanged, behind, exchanges, best_exchange, improved}
use Rattle.first_answer.proofs.Cheapest.{cheapest-append, cheapest-keep}
use Rattle.first_answer.proofs.Exchanged.{exchanged_self}
use Rattle.first_answer.proofs.Exchanges.{best_exchange-order, best_exchange-allowed}
use Rattle.first_answer.proofs.Settled.{improved_stays, improved_goes_on}
use Rattle.first_order.specs.Code.{AllowedBy, allowed_by, allowed_cost, made, Makes, better, best_behind}
use Rattle.first_order.specs.declared.exchange.Exchange.{Exchange}
use Rattle.first_order.specs.declared.terms.Terms.{Terms}

pub swap-exchanged : (x : Node) (p q : ℕ) → p < length x → q < length x → swap x p q ≡ exchanged x p q
unfolding exchanged
swap-exchanged x p q h k = sym (swap_is x p q 0 h k)

pub record Trying (f : Node → ℕ) (x : Node) (rest : List Node) (y : Node) (e : Exchange) : Type 0 where
  pub found : Makes f x e (made x e)
  pub best : cheapest f (made x e) rest ≡ y

unfoldable pub exchanges_from : Node → ℕ → List Node
exchanges_from x p = each (λ i. behind x i (suc i)) (from p (length x - p))

module _ (x : Node) where
  behind_more : (p q : ℕ) → q < length x → behind x p q ≡ exchanged x p q ∷ behind x p (q + 1)
  unfolding behind
  behind_more p q h = let one : length x - q ≡ suc (length x - (q + 1)) = omega arith in rw (one, add-one q)

  behind-none : (p q : ℕ) → length x ≤ q → behind x p q ≡ []
  unfolding behind
  behind-none p q h = let none : length x - q ≡ 0 = omega arith in rw none

  all_more : (p : ℕ) → p < length x → exchanges_from x p ≡ behind x p (suc p) ++ exchanges_from x (p + 1)
  unfolding exchanges_from
  all_more p h = let one : length x - p ≡ suc (length x - (p + 1)) = omega arith in rw (one, add-one p)

  all_none : (p : ℕ) → length x ≤ p → exchanges_from x p ≡ []
  unfolding exchanges_from
  all_none p h = let none : length x - p ≡ 0 = omega arith in rw none

pub reckonable : (d : Terms) {x : Node} → Order d.n x → Reckonable d.t.now x
reckonable d {x} o = partial_reckonable d.few d.cheap (order_partial d.n x o)

-- an order that respects the pairs
module _ (d : Terms) (x : Node) (a : AllowedBy d x) where
  its-cost : allowed_cost d x ≡ cost (legs d.t.now) x
  its-cost = rw (to_true (allowed_by d.precedence x) a.respected) refl

  -- an exchange that goes against the pairs is never the best, as it is above every cost
  best_of_all : cheapest (allowed_cost d) x (exchanges_from x 0) ≡ best_exchange (legs d.t.now) (allowed_by d.precedence) x
  unfolding exchanges_from exchanges best_exchange
  best_of_all =
      let all : length x - 0 ≡ length x = omega arith in
      let below : cost (legs d.t.now) x ≤ above_every_cost =
      omega (arith, cost_small dearest (legs d.t.now) d.cheap x, order-length d.n x a.order, d.few) in
      rw all (sym (cheapest-keep (cost (legs d.t.now)) (allowed_by d.precedence) above_every_cost x (exchanges x) a.respected below))

  -- the exchange of the first position with itself leaves x as it is
  pub all_start :
      (own : ℕ) → own ≡ cost (legs d.t.now) x
      → Trying (allowed_cost d) x (exchanges_from x 0) (best_exchange (legs d.t.now) (allowed_by d.precedence) x) (record { cost = own; p = 0; q = 0 })
  all_start own costs =
      let some : 0 < length x = omega (arith, order-length d.n x a.order, d.some) in
      record {
        found = record { first = some; second = some; makes = refl; costs = rw (exchanged_self x 0) (costs ∙ sym its-cost) };
        best = rw (exchanged_self x 0) best_of_all;
      }

-- the best exchange respects the pairs, so that what it has is its cost
best_allowed : (d : Terms) (x : Node) → AllowedBy d x → AllowedBy d (best_exchange (legs d.t.now) (allowed_by d.precedence) x)
best_allowed d x a = record {
  order = best_exchange-order (legs d.t.now) (allowed_by d.precedence) x d.n a.order;
  respected = best_exchange-allowed (legs d.t.now) (allowed_by d.precedence) x a.respected;
}

module _ {f : Node → ℕ} {x y : Node} {e : Exchange} where
  none_left : Trying f x [] y e → Makes f x e y
  none_left t = rw (← t.best) t.found

  -- the better of two exchanges makes the cheaper order
  one_less : (b : Exchange) (rest : List Node) → Trying f x (made x b ∷ rest) y e → Makes f x b (made x b) → Trying f x rest y (better e b)
  one_less b rest t m = go (ltb b.cost e.cost) (rw (m.costs, t.found.costs) t.best)
    where
      go : (less : Bool) → cheapest f (cond less (made x b) (made x e)) rest ≡ y → Trying f x rest y (cond less b e)
      go true h = record { found = m; best = h }
      go false h = record { found = t.found; best = h }

  pub behind_tried :
      (p q own : ℕ) {r : Exchange} → Trying f x (behind x p q) y e → p < length x → q < length x → own ≡ f (exchanged x p q)
      → r ≡ better e (record { cost = own; p = p; q = q }) → Trying f x (behind x p (q + 1)) y r
  behind_tried p q own t h k costs taken =
      rw taken
      (one_less (record { cost = own; p = p; q = q }) (behind x p (q + 1)) (rw (behind_more x p q k) at t)
      (record { first = h; second = k; makes = refl; costs = costs }))

  pub behind-ends : (p q : ℕ) → Trying f x (behind x p q) y e → length x ≤ q → Makes f x e y
  behind-ends p q t h = none_left (rw (behind-none x p q h) at t)

  pub all_tried :
      (p : ℕ) {r : Exchange} → Trying f x (exchanges_from x p) y e → p < length x → Makes f x r (best_behind f x p e)
      → Trying f x (exchanges_from x (p + 1)) y r
  all_tried p t h m = record {
    found = rw m.makes m;
    best = rw m.makes (sym (cheapest-append f (made x e) (behind x p (suc p)) (exchanges_from x (p + 1))) ∙ rw (all_more x p h) at t.best);
  }

  all_left : (p : ℕ) → Trying f x (exchanges_from x p) y e → length x ≤ p → Makes f x e y
  all_left p t h = none_left (rw (all_none x p h) at t)

pub all_end :
    (d : Terms) (x : Node) {e : Exchange} (p : ℕ)
    → Trying (allowed_cost d) x (exchanges_from x p) (best_exchange (legs d.t.now) (allowed_by d.precedence) x) e → length x ≤ p → AllowedBy d x
    → Makes (cost (legs d.t.now)) x e (best_exchange (legs d.t.now) (allowed_by d.precedence) x)
all_end d x p t h a =
    let m = all_left p t h in
    record {
      first = m.first;
      second = m.second;
      makes = m.makes;
      costs = m.costs ∙ its-cost d (best_exchange (legs d.t.now) (allowed_by d.precedence) x) (best_allowed d x a);
    }

pub record Improving (d : Terms) (x₀ x : Node) (own : ℕ) (e : Exchange) : Type 0 where
  pub allowed : AllowedBy d x
  pub costs : own ≡ cost (legs d.t.now) x
  pub found : Makes (cost (legs d.t.now)) x e (best_exchange (legs d.t.now) (allowed_by d.precedence) x)
  pub same : improved (legs d.t.now) (allowed_by d.precedence) x ≡ improved (legs d.t.now) (allowed_by d.precedence) x₀

module _ {d : Terms} {x₀ x : Node} {own : ℕ} {e : Exchange} (i : Improving d x₀ x own e) where
  pub improving_asks : AllowedBy d (made x e) × (e.cost ≡ cost (legs d.t.now) (made x e))
  improving_asks = (rw i.found.makes (best_allowed d x i.allowed), rw i.found.makes i.found.costs)

  pub improving_again :
      (x' : Node) (r : Exchange) → x' ≡ made x e → Makes (cost (legs d.t.now)) (made x e) r (best_exchange (legs d.t.now) (allowed_by d.precedence) (made x e))
      → e.cost < own → Improving d x₀ x' e.cost r
  improving_again x' r is m less = rw is (record {
    allowed = improving_asks.0;
    costs = improving_asks.1;
    found = m;
    same = rw i.found.makes (sym (improved_goes_on (legs d.t.now) (allowed_by d.precedence) x (omega (arith, i.costs, i.found.costs))) ∙ i.same);
  })

  pub improving_ends : own ≤ e.cost → x ≡ improved (legs d.t.now) (allowed_by d.precedence) x₀
  improving_ends done = sym (improved_stays (legs d.t.now) (allowed_by d.precedence) x (omega (arith, i.costs, i.found.costs))) ∙ i.same
