-- `better` meets its contract: a child that is dearer than U, or that costs the same and is not smaller, changes nothing; another one, which is
-- complete, replaces U and its order.
use mathlib.Core.Path.{◌≡◌, ap, sym, ◌∙◌}
use native.Mathlib.Omega.{arith}
use borrow.Author.Tests.{lt-ltb}
use Rattle.stops.specs.declared.node_record.Record.{Record}
use Rattle.children.proofs.BestLaws.{replaces, replaces_dearer, replaces_cheaper, replaces_tied, learn_keeps, learn-replaces}
use Rattle.children.proofs.best.better.Goals as goal
use Rattle.children.proofs.best.better.Goals.{Joined-x-best, then-x-best, else-x-best}

pub returns-then-best-bound_at : goal.returns-then-best-bound_at
returns-then-best-bound_at c d e = learn_keeps _ _ d (replaces_dearer _ _ (rw (← c.bound_at.ensures) c.if-best-bound_at.true))

-- what is asked of another child; its cost has been held against U twice where its order is looked at, so that it costs the same
asked : (c : Joined-x-best) → replaces c.args.best c.load-x.result ≡ c.if-x-best.value
asked c =
    let read : c.load-x.result.bound ≡ c.bound_at.result = ap (λ (x : Record). x.bound) c.load-x.ensures ∙ sym c.bound_at.ensures in
    elim c.if-x-best.branch [
      | then-x-best w ↦ replaces_cheaper c.args.best c.load-x.result w.if-x-best.true ∙ sym (w.value-is ∙ lt-ltb _ _ w.if-x-best.true)
      | else-x-best w ↦
          replaces_tied c.args.best c.load-x.result (omega (arith, read, w.if-x-best.false, c.if-best-bound_at.false)) w.words_before.ensures (sym w.value-is)
    ]

pub returns-then-words_before : goal.returns-then-words_before
returns-then-words_before c d e =
    rw (← c.load-x.ensures)
    (learn-replaces _ _ d (rw c.load-x.ensures e) (asked (goal.at.returns-then-words_before c).Joined-x-best ∙ c.if-words_before.true))

pub returns-else-words_before : goal.returns-else-words_before
returns-else-words_before c d e =
    rw (← c.load-x.ensures) (learn_keeps _ _ d (asked (goal.at.returns-else-words_before c).Joined-x-best ∙ c.if-words_before.false))
