-- The goals of `run::turns` that the search leaves.
use mathlib.Core.Path.{◌≡◌, refl, ap, sym, ◌∙◌, subst}
use mathlib.Core.List.{List}
use Prim.Native.Nat.{ℕ}
use native.Mathlib.Omega.{arith}
use lib.ListN.{length}
use Rattle.records.proofs.ViewLaws.{length-records}
use Rattle.answer.specs.declared.Report.{Report}
use Rattle.children.specs.Code.{Table}
use Rattle.planner.specs.Code.{Turned, rows_by, Begins, Ran, stopped_by}
use Rattle.planner.specs.declared.run.Turn.{Turn}
use Rattle.planner.proofs.SearchLaws.{run_begins, turn_keeps, turn_falls, floor-ready, turns_end}
use Rattle.planner.proofs.run.turns.Goals as goal
use Rattle.planner.proofs.run.turns.Goals.{After-rows-t, In_ok-next, At-loop-next}

-- the pool and the index after the turn
abbrev pool : In_ok-next → List ℕ
pool c = c.take_turn.new.w

abbrev kept_index : In_ok-next → List ℕ
kept_index c = c.take_turn.new.index

-- the pool and the index at the loop's head have the length they had at the entry
long : (c : At-loop-next) → length c.loop-next.w ≡ length c.args.w.now
long c = c.loop-next.invariant.0.0 ∙ c.begun-r.auto.w

-- the rows are those of the table
its_rows : (c : After-rows-t) → let a = c.args in c.rows-t.result ≡ rows_by a.setting a.table.now
its_rows c = c.rows-t.ensures

-- and what the turns begin with is of them
begins : (c : After-rows-t) → let a = c.args in Begins a.setting c.rows-t.result a.start.now a.w.now a.p
begins c =
    let a = c.args in
    subst (λ (t : Table). Begins a.setting t a.start.now a.w.now a.p) (sym (its_rows c)) c.requires.1.0

-- what the turn then gives, and that the pool keeps its length
abbrev Gives : In_ok-next → Turn → Type 0
Gives c q =
    let loop = c.loop-next in
    Turned c.args.setting c.rows-t.result loop.w (pool c) (kept_index c) loop.invariant.1.0 q

turned : (c : In_ok-next) (q : Turn) → c.in_ok-next.next ≡ q → Gives c q
turned c q e = let inv = c.loop-next.invariant in subst (Gives c) e (c.in_ok-next.ensures _ inv.1.0 inv.1.1)

kept : (c : In_ok-next) → length (pool c) ≡ length c.loop-next.w
kept c = c.take_turn.auto.w

pub loop-next-init : goal.loop-next-init
loop-next-init c =
    ((refl, (refl, omega arith)), (_, run_begins (begins (goal.at.loop-next-init c).After-rows-t) c.begun-r.ensures))

pub take_turn-requires : goal.take_turn-requires
take_turn-requires c =
    let loop = c.loop-next in
    ((_, loop.invariant.1.0, loop.invariant.1.1), omega (arith, length-records loop.kids))

pub loop-next-smaller : goal.loop-next-smaller
loop-next-smaller c =
    turn_falls c.loop-next.invariant.1.1 (turned (goal.at.loop-next-smaller c).In_ok-next _ c.in-Go.is) (kept (goal.at.loop-next-smaller c).In_ok-next)

pub loop-next-preserved : goal.loop-next-preserved
loop-next-preserved c =
    let inv = c.loop-next.invariant in (
      (
        kept (goal.at.loop-next-preserved c).In_ok-next ∙ inv.0.0,
        (c.take_turn.auto.index ∙ inv.0.1.0, c.take_turn.auto.kids ∙ inv.0.1.1),
      ),
      turn_keeps inv.1.1 (turned (goal.at.loop-next-preserved c).In_ok-next _ c.in-Go.is) (kept (goal.at.loop-next-preserved c).In_ok-next),
    )

-- what comes to an end over the rows does so over the table's
over :
    (c : In_ok-next) {q : Report} {w : List ℕ}
    → let a = c.args in Ran a.setting c.rows-t.result a.start.now a.w.now q w
    → Ran a.setting (rows_by a.setting a.table.now) a.start.now a.w.now q w
over c {q} {w} ran =
    let a = c.args in
    subst (λ (t : Table). Ran a.setting t a.start.now a.w.now q w) c.rows-t.ensures ran

pub returns-in-Finish : goal.returns-in-Finish
returns-in-Finish c =
    over (goal.at.returns-in-Finish c).In_ok-next
    (turns_end c.loop-next.invariant.1.1 (long (goal.at.returns-in-Finish c).At-loop-next) (turned (goal.at.returns-in-Finish c).In_ok-next _ c.in-Finish.is)
    c.settle.auto.w c.settle.ensures c.finished.ensures)

pub floor-least-requires : goal.floor-least-requires
floor-least-requires c =
    floor-ready c.loop-next.invariant.1.1 (turned (goal.at.floor-least-requires c).In_ok-next _ c.in-Stop.is).1

pub returns-in-Stop : goal.returns-in-Stop
returns-in-Stop c =
    over (goal.at.returns-in-Stop c).In_ok-next
    (turns_end c.loop-next.invariant.1.1 (long (goal.at.returns-in-Stop c).At-loop-next) (turned (goal.at.returns-in-Stop c).In_ok-next _ c.in-Stop.is)
    c.settle-in-Stop.auto.w c.settle-in-Stop.ensures
    (c.stopped.ensures ∙ ap (λ (m : ℕ). stopped_by c.args.setting.n m c.loop-next.r) c.floor-least.ensures))

pub returns-in-Full : goal.returns-in-Full
returns-in-Full c =
    over (goal.at.returns-in-Full c).In_ok-next
    (turns_end c.loop-next.invariant.1.1 (long (goal.at.returns-in-Full c).At-loop-next) (turned (goal.at.returns-in-Full c).In_ok-next _ c.in-Full.is)
    c.settle-in-Full.auto.w c.settle-in-Full.ensures c.full.ensures)
