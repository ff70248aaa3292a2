-- `limit_of` meets its contract: the lesser of U and the bound of all nodes, or that bound where rule 1 is off.
use mathlib.Core.Path.{sym, ◌∙◌}
use native.Mathlib.Omega.{arith}
use Rattle.std.proofs.lemmas.Bool.Decides.{nat_tests}
use Rattle.children.specs.Code.{limit_of}
use Rattle.children.proofs.survivors.limit_of.Goals as goal

pub returns-then-on : goal.returns-then-on
unfolding limit_of
returns-then-on c = rw (sym c.on.ensures ∙ c.if-on.true, c.min.ensures) (grind (arith, nat_tests))

pub returns-else-on : goal.returns-else-on
unfolding limit_of
returns-else-on c = rw (sym c.on.ensures ∙ c.if-on.false)
