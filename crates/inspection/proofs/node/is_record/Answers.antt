-- The goals of `node::is_record` that the search leaves.
use mathlib.Core.Path.{◌≡◌, sym, ◌∙◌}
use mathlib.Core.Bool.{false}
use Prim.Native.Nat.{◌<◌}
use native.Mathlib.Omega.{arith}
use Rattle.orders.specs.Orders.{flown}
use Rattle.orders.proofs.Sets.{size-left}
use Rattle.stops.specs.Code.{stops_in}
use Rattle.records.proofs.OrderWords.{stop_range}
use Rattle.inspection.specs.Code.{of_four}
use Rattle.node_answers.specs.Nodes.{flown_stops}
use Rattle.node_answers.proofs.StopLaws.{stop_of}
use Rattle.inspection.proofs.OrderLaws.{stop_same}
use Rattle.node_answers.proofs.NodeLaws.{no_node}
use Rattle.inspection.proofs.Retrace.{retraced_starts, stop_above, stop_again, stop_fits, stop_added, other-words, same_record}
use Rattle.inspection.proofs.node.is_record.Goals as goal
use Rattle.inspection.proofs.node.is_record.Goals.{After-stop_at-s, Else-holds, In-loop-k, then-n-s-via-then-n-s, then-n-s-via-else-n-s+then-holds}

pub returns-then-n-eq0 : goal.returns-then-n-eq0
unfolding of_four
returns-then-n-eq0 c =
    let h = c.then-n-eq0.either in
    let x = of_four c.args.size c.args.set c.args.first c.args.second in
    no_node c.args.n x (λ q. absurd (omega (arith, h, q.some, q.few, q.size_is, size-left c.args.n (flown_stops x))))

pub loop-k-init : goal.loop-k-init
unfolding of_four
loop-k-init c = rw c.empty-x.ensures (retraced_starts (omega arith) (omega arith) (omega arith))

-- the loop goes on below the size
below : (c : In-loop-k) → c.loop-k.k < (of_four c.args.size c.args.set c.args.first c.args.second).size
unfolding of_four
below c = c.loop-k-test.true

-- what `stop_at` gives is the record's stop
stop : (c : After-stop_at-s) → c.stop_at-s.result ≡ stop_of (of_four c.args.size c.args.set c.args.first c.args.second) c.loop-k.k
stop c =
    let a = c.args in
    c.stop_at-s.ensures.0 ∙ stop_same a.size a.set a.first a.second c.loop-k.k

pub returns-then-n-s : goal.returns-then-n-s
returns-then-n-s c =
    let g = goal.at.returns-then-n-s c in
    let s = stop g.After-stop_at-s in
    let r = c.loop-k.invariant in
    elim c.then-n-s.branch [
      | then-n-s-via-then-n-s w ↦ stop_above r (below g.In-loop-k) (omega (arith, s, w.if-n-s.true))
      | then-n-s-via-else-n-s+then-holds w ↦
          stop_again r (below g.In-loop-k) (omega (arith, s, w.if-n-s.false)) (rw (← s) (sym w.if-holds.true ∙ w.holds.ensures))
    ]

pub holds-requires : goal.holds-requires
holds-requires c =
    let a = c.args in
    omega (arith, stop (goal.at.holds-requires c).After-stop_at-s, stop_range a.first a.second c.loop-k.k)

-- the stop is a new one
new :
    (c : Else-holds) → c.stop_at-s.result ≡ stop_of (of_four c.args.size c.args.set c.args.first c.args.second) c.loop-k.k
    → false ≡ flown (stops_in c.loop-k.x.set) (stop_of (of_four c.args.size c.args.set c.args.first c.args.second) c.loop-k.k)
new c s = rw (← s) (sym c.if-holds.false ∙ c.holds.ensures)

pub extended-x-requires : goal.extended-x-requires
extended-x-requires c =
    let g = goal.at.extended-x-requires c in
    let s = stop g.After-stop_at-s in
    rw s (stop_fits c.loop-k.invariant (below g.In-loop-k) (omega (arith, s)) (new c s))

pub loop-k-preserved : goal.loop-k-preserved
loop-k-preserved c =
    let g = goal.at.loop-k-preserved c in
    let s = stop g.After-stop_at-s in
    rw (c.extended-x.ensures, s) (stop_added c.loop-k.invariant (below g.In-loop-k) (omega (arith, s)) (new g.Else-holds s))

pub returns-then-first-x : goal.returns-then-first-x
unfolding of_four
returns-then-first-x c =
    let (set, first) = c.if-first-x.true in
    same_record c.loop-k.invariant c.loop-k-test.false set first

pub returns-else-first-x : goal.returns-else-first-x
unfolding of_four
returns-else-first-x c =
    let none = other-words c.loop-k.invariant c.loop-k-test.false c.if-first-x.either in
    cc
