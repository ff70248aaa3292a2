-- `check::verdict_of` meets its contract: a record that is not inside is no node, and of one that is `is_record` says it.
use mathlib.Core.Path.{refl}
use Rattle.node_answers.specs.Answers.{verdict}
use Rattle.inspection.proofs.check.verdict_of.Goals as goal

pub returns-then-inside : goal.returns-then-inside
unfolding verdict
returns-then-inside c = rw (c.if-inside.true, c.is_record-node.ensures) refl

pub returns-else-inside : goal.returns-else-inside
unfolding verdict
returns-else-inside c = rw c.if-inside.false refl
