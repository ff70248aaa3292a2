-- `best_exchange` meets its contract. The loop's invariant: the order is as at entry, and the best of the exchange found and of those of the
-- places from p on with the places behind them is the best of all.
use mathlib.Core.Path.{◌≡◌}
use Rattle.stops.specs.Legs.{legs}
use Rattle.first_answer.specs.Exchanges.{best_exchange}
use Rattle.first_order.specs.Code.{allowed_by, allowed_cost}
use Rattle.first_order.proofs.ExchangeLaws.{Trying, exchanges_from}
use Rattle.first_order.proofs.terms.Terms.best_exchange.Given as goal

abbrev pub invariant-loop-p : goal.invariant-loop-p
invariant-loop-p l =
    let x = l.initial.x in
    (l.x ≡ x) × Trying (allowed_cost l.self) x (exchanges_from x l.p) (best_exchange (legs l.self.t.now) (allowed_by l.self.precedence) x) l.found
