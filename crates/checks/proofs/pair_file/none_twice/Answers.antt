-- `none_twice` meets its contract: each byte passes the test that `all` makes.
use mathlib.Core.Path.{◌∙◌}
use mathlib.Core.Bool.{Bool}
use Prim.Native.Nat.{ℕ}
use lib.Dec.{eqb}
use borrow.Author.Tests.{tests}
use Rattle.std.proofs.Common.{rules}
use Rattle.std.proofs.lemmas.Iterator.{YieldsList-from_slice}
use Rattle.std.proofs.lemmas.Iterator.Search.{all_from_yields_List}
use Rattle.orders.specs.Orders.{count}
use Rattle.checks.proofs.OrderLaws.{all_is}
use Rattle.checks.proofs.pair_file.none_twice.Goals as goal

pub returns : goal.returns
returns c =
    let pairs = c.args.pairs.now in
    let once : ℕ → Bool = λ s. eqb (count s pairs) 1 in
    all_from_yields_List once _ _ c.all.result c.all.ensures.ran (YieldsList-from_slice pairs cc) (λ s b q k. search (rules, tests))
    ∙ all_is once pairs
