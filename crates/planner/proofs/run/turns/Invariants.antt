-- `turns` meets its contract. The invariant: the pool and the index have the length they had, there is a slot for each stop's child, and the pool
-- and the index show with r a state of the run. The measure: the nodes that are not yet branched. `SearchLaws` has why the loop goes on and
-- ends. No turn is refused: the selection is one that there is.
use mathlib.Core.Path.{◌≡◌}
use Prim.Native.Nat.{◌-◌, ◌*◌}
use lib.ListN.{length}
use Rattle.sizes.specs.Sizes.{most_stops, record_words}
use Rattle.search.specs.Problem.{State}
use Rattle.orders.specs.Orders.{Node, nodes}
use Rattle.planner.specs.Code.{Running}
use Rattle.planner.proofs.run.turns.Given as goal

abbrev pub invariant-loop-next : goal.invariant-loop-next
invariant-loop-next l =
    ((length l.w ≡ length l.initial.w) × ((length l.index ≡ length l.initial.index) × (length l.kids ≡ most_stops * record_words)))
    × ((s : State Node) × Running l.setting l.t l.start l.w l.index l.r s)

abbrev pub decreases-loop-next : goal.decreases-loop-next
decreases-loop-next l = nodes l.setting.n - l.r.branched
