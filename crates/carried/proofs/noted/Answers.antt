-- `carried::noted` meets its contract.
use mathlib.Core.Path.{refl}
use native.Mathlib.Omega.{arith}
use borrow.Author.Tests.{lt-ltb, le-ltb}
use Rattle.carried.specs.Code.{noted}
use Rattle.carried.proofs.noted.Goals as goal

pub returns-then-home-x : goal.returns-then-home-x
unfolding noted
returns-then-home-x c = let a = c.args in rw (lt-ltb a.home a.x.cheapest (omega arith)) refl

pub returns : goal.returns
unfolding noted
returns c = let a = c.args in rw (c.min.ensures, le-ltb a.home a.x.cheapest (omega arith)) refl
