-- The goals of `open_nodes::open_in` that the search leaves.
use mathlib.Core.Path.{◌≡◌, sym, ◌∙◌}
use mathlib.Core.Bool.{false}
use Prim.Native.Nat.{ℕ, ◌≤◌, ◌<◌}
use native.Mathlib.Omega.{arith}
use lib.ListN.{get_or}
use Rattle.stops.specs.Code.{empty_record}
use Rattle.records.specs.Code.{records}
use Rattle.selection.specs.Code.{is_open}
use Rattle.selection.proofs.WalkLaws.{nth_in, walked_more, walked_all, walked_before}
use Rattle.selection.proofs.open_nodes.open_in.Goals as goal
use Rattle.selection.proofs.open_nodes.open_in.Goals.{After-nth-i}

-- where the walk stands
inside : (c : After-nth-i) →
    let a = c.args in (a.from ≤ c.nth-i.result) × (c.nth-i.result < a.to)
inside c =
    let a = c.args in
    nth_in a.late a.from a.to c.loop-c.c c.nth-i.result c.nth-i.ensures (omega arith)

pub returns-then-open : goal.returns-then-open
returns-then-open c =
    let a = c.args in
    record {
      among = inside (goal.at.returns-then-open c).After-nth-i;
      opens = sym c.open.ensures ∙ c.if-open.true;
      before = λ j p b. walked_before a.late a.from a.to c.loop-c.c c.nth-i.result c.nth-i.ensures _ c.loop-c.invariant j p.0 p.1 b;
    }

pub loop-c-preserved : goal.loop-c-preserved
loop-c-preserved c =
    let a = c.args in
    walked_more a.late a.from a.to c.loop-c.c c.nth-i.result c.nth-i.ensures
    (λ (j : ℕ). is_open a.n a.limit (get_or (records a.w.now) j empty_record) ≡ false)
    (sym c.open.ensures ∙ c.if-open.false)
    c.loop-c.invariant

pub returns : goal.returns
returns c =
    let a = c.args in
    λ j p. walked_all a.late a.from a.to c.loop-c.c _ (omega arith) c.loop-c.invariant j p.0 p.1
