-- `best_with` meets its contract. The loop's invariant: the order is as at entry, and the best of the exchange found and of those of place p
-- with the places from q on is the best of all.
use mathlib.Core.Path.{◌≡◌}
use Rattle.first_answer.specs.Exchanges.{behind}
use Rattle.first_order.specs.Code.{allowed_cost, best_behind}
use Rattle.first_order.proofs.ExchangeLaws.{Trying}
use Rattle.first_order.proofs.terms.Terms.best_with.Given as goal

abbrev pub invariant-loop-q : goal.invariant-loop-q
invariant-loop-q l =
    let f = allowed_cost l.self in
    (l.x ≡ l.initial.x) × Trying f l.initial.x (behind l.initial.x l.p l.q) (best_behind f l.initial.x l.p l.initial.found) l.found
