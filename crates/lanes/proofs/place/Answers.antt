-- `place` meets its contract.
use native.Mathlib.Omega.{arith}
use borrow.Author.Tests.{eq-eqb, ne_eqb}
use Rattle.lanes.proofs.place.Goals as goal

pub returns-then-end-eq0 : goal.returns-then-end-eq0
returns-then-end-eq0 c = rw (eq-eqb c.args.end 0 (omega arith))

pub overflow_sub-result-2 : goal.overflow_sub-result-2
overflow_sub-result-2 c = c.requires.1 (omega arith)

pub returns : goal.returns
returns c = rw (ne_eqb c.args.end 0 (λ e. omega arith))
