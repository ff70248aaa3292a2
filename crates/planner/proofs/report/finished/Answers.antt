-- `finished` meets its contract: U, and the stops that its order's words say.
use mathlib.Core.Path.{◌∙◌, ap}
use mathlib.Core.List.{List}
use Prim.Native.Nat.{ℕ}
use Rattle.planner.specs.Code.{reported, places_of, finished_by}
use Rattle.planner.proofs.report.finished.Goals as goal

pub returns : goal.returns
unfolding places_of finished_by
returns c =
    let r = c.args.r in
    c.ended.ensures ∙ ap (λ (places : List ℕ). reported 0 0 r.best.upper 0 places r) c.stops_of-order.ensures
