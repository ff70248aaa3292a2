-- `only_stops` meets its contract: each byte passes the test of `is_stop`.
use mathlib.Core.Path.{◌∙◌}
use borrow.Author.Tests.{tests}
use Rattle.std.proofs.Common.{rules}
use Rattle.std.proofs.lemmas.Iterator.{YieldsList-from_slice}
use Rattle.std.proofs.lemmas.Iterator.Search.{all_from_yields_List}
use Rattle.orders.specs.Orders.{stops, flown}
use Rattle.checks.proofs.OrderLaws.{all_is}
use Rattle.checks.proofs.order.only_stops.Goals as goal

pub returns : goal.returns
returns c =
    let x = c.args.x.now in
    all_from_yields_List (flown (stops c.args.n)) _ _ c.all.result c.all.ensures.ran (YieldsList-from_slice x cc) (λ s b q k. search (rules, tests))
    ∙ all_is _ x
