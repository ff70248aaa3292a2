-- `stopped` meets its contract: by whether U is above every cost, zeros, or U and the stops that its order's words say.
use mathlib.Core.Path.{◌∙◌, ap}
use mathlib.Core.List.{List}
use Prim.Native.Nat.{ℕ}
use borrow.Author.Tests.{eq-eqb, ne_eqb}
use Rattle.planner.specs.Code.{reported, places_of, stopped_by}
use Rattle.planner.proofs.report.stopped.Goals as goal

pub returns-then-best : goal.returns-then-best
unfolding stopped_by
returns-then-best c = c.ended.ensures ∙ rw (eq-eqb _ _ c.if-best.true)

pub returns : goal.returns
unfolding stopped_by places_of
returns c =
    let a = c.args in
    c.ended-2.ensures
    ∙ ap (λ (places : List ℕ). reported 0 1 a.r.best.upper a.floor places a.r) c.stops_of-order.ensures
    ∙ rw (ne_eqb _ _ c.if-best.false)
