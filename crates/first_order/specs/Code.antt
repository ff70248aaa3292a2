-- The code's own definitions: what its functions say of the values that they hold. `proofs/` shows that they come to document 02's, and a reader
-- of the promise needs none of them.
--   nearest_in f stops    of some stops the one with the least f, the first of equals; 0 where there is none
--   allowed_by d x        x respects d's pairs
--   AllowedBy d x         x is an order by the terms d, and respects their pairs
--   allowed_cost d x      the cost of x by the terms d, above every cost if it does not respect their pairs
--   made x e             what the exchange e makes of the order x
--   Makes f x e y        e is an exchange of two stops of x; it makes y, and has y's cost by f
--   better a b           of two exchanges the one of lower cost, the first of equals
--   best_behind f x p e   the cheapest by f of what is made of x by e and by the exchanges of position p with the positions behind it
use Rattle.std.specs.Prelude.{◌≡◌, Bool, cond, List, [], ◌∷◌, ℕ, suc, ◌<◌, ltb, length}
use Rattle.sizes.specs.Sizes.{above_every_cost}
use Rattle.orders.specs.Orders.{Node}
use Rattle.orders.specs.Pairs.{Allowed, respects}
use Rattle.stops.specs.Legs.{legs, cost}
use Rattle.pairs.specs.Code.{pairs_in}
use Rattle.pairs.specs.declared.Precedence.{Precedence}
use Rattle.first_answer.specs.Nearest.{cheapest}
use Rattle.first_answer.specs.Exchanges.{exchanged, behind}
use Rattle.first_order.specs.declared.exchange.Exchange.{Exchange}
use Rattle.first_order.specs.declared.terms.Terms.{Terms}

abbrev pub nearest_in : (ℕ → ℕ) → List ℕ → ℕ
nearest_in f [] = 0
nearest_in f (s ∷ ss) = cheapest f s ss

abbrev pub allowed_by : Precedence → Node → Bool
allowed_by d = respects (pairs_in d)

abbrev pub AllowedBy : Terms → Node → Type 0
AllowedBy d = Allowed d.n (pairs_in d.precedence)

abbrev pub allowed_cost : Terms → Node → ℕ
allowed_cost d x = cond (allowed_by d.precedence x) (cost (legs d.t.now) x) above_every_cost

abbrev pub made : Node → Exchange → Node
made x e = exchanged x e.p e.q

pub record Makes (f : Node → ℕ) (x : Node) (e : Exchange) (y : Node) : Type 0 where
  pub first : e.p < length x
  pub second : e.q < length x
  pub makes : made x e ≡ y
  pub costs : e.cost ≡ f y

abbrev pub better : Exchange → Exchange → Exchange
better a b = cond (ltb b.cost a.cost) b a

abbrev pub best_behind : (Node → ℕ) → Node → ℕ → Exchange → Node
best_behind f x p e = cheapest f (made x e) (behind x p (suc p))
