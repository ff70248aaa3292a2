-- `each_once` meets its contract: each number of the range passes the test that `all` makes of 1 to n.
use mathlib.Core.Path.{◌∙◌, refl}
use mathlib.Core.Bool.{Bool}
use Prim.Native.Nat.{ℕ, ◌+◌}
use lib.Dec.{eqb}
use borrow.Author.Tests.{tests}
use native.Mathlib.Omega.{arith}
use Rattle.std.proofs.Common.{rules}
use Rattle.std.proofs.lemmas.Iterator.{YieldsList-from_range}
use Rattle.std.proofs.lemmas.Iterator.Search.{all_from_yields_List}
use Rattle.orders.specs.Orders.{count}
use Rattle.checks.proofs.OrderLaws.{all_from}
use Rattle.checks.proofs.order.each_once.Goals as goal

pub returns : goal.returns
returns c =
    let once : ℕ → Bool = λ s. eqb (count s c.args.x.now) 1 in
    all_from_yields_List once _ _ c.all.result c.all.ensures.ran (YieldsList-from_range 1 (c.args.n + 1) c.args.n refl (omega arith))
    (λ s b q k. search (rules, tests))
    ∙ all_from once 1 c.args.n
