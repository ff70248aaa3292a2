-- `Record::dominates` meets its contract: each `return` is decided by one thing that `rec_dominates` asks (`Dominance`).
use mathlib.Core.Path.{◌∙◌}
use native.Mathlib.Omega.{arith}
use Rattle.stops.specs.Code.{rec_smaller}
use Rattle.stops.proofs.Dominance.{refused, path_dearer, path_cheaper, paths_agree}
use Rattle.stops.proofs.node_record.Record.dominates.Goals as goal

pub returns-then-self-other : goal.returns-then-self-other
returns-then-self-other c = refused _ _ (λ d. c.if-self-other.true d.size)

pub returns-then-self-other-2 : goal.returns-then-self-other-2
returns-then-self-other-2 c = refused _ _ (λ d. c.if-self-other-2.true d.set)

pub returns-then-other-self : goal.returns-then-other-self
returns-then-other-self c = refused _ _ (path_dearer _ _ (omega arith))

pub returns-then-last : goal.returns-then-last
returns-then-last c = refused _ _ (λ d. omega (arith, d.last))

pub returns-then-self-other-3 : goal.returns-then-self-other-3
returns-then-self-other-3 c = path_cheaper _ _ (omega arith) (omega arith) (omega arith) (omega arith)

pub returns : goal.returns
unfolding rec_smaller
returns c = c.words_before.ensures ∙ paths_agree _ _ (omega arith) (omega arith) (omega arith) (omega arith)
