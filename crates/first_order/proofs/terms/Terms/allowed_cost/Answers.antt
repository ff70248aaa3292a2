-- `allowed_cost` meets its contract: an order's cost can be added up.
use Rattle.first_order.proofs.ExchangeLaws.{reckonable}
use Rattle.first_order.proofs.terms.Terms.allowed_cost.Goals as goal

pub order_cost-requires : goal.order_cost-requires
order_cost-requires c = reckonable c.args.self.now c.requires
