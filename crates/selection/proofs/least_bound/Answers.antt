-- `least_bound` meets its contract: the least bound is met, and the foremost place up to it is open, or the first open one is taken, or there
-- is none.
use mathlib.Core.Path.{sym, ◌∙◌}
use mathlib.Core.Bool.{cond}
use Prim.Native.Nat.{ℕ, ◌≤◌, ◌<◌}
use native.Mathlib.Omega.{arith}
use lib.ListN.{get_or}
use Rattle.std.specs.Prelude.{Option, Some, None}
use Rattle.std.specs.Option.{unwrap_or}
use Rattle.stops.specs.Code.{empty_record}
use Rattle.records.specs.Code.{records}
use Rattle.lanes.specs.Sizes.{gone}
use Rattle.blocks.specs.Code.{Least, Foremost, bound_at}
use Rattle.blocks.proofs.SelectLaws.{Prefers, prefers_least, some_live, least_met}
use Rattle.selection.specs.Code.{FirstOpen, Chosen}
use Rattle.selection.proofs.ChooseLaws.{over_shut, chosen_open, chosen_complete}
use Rattle.selection.proofs.least_bound.Goals as goal
use Rattle.selection.proofs.least_bound.Goals.{After-least-limit}

pub least-limit-requires : goal.least-limit-requires
least-limit-requires c =
    let ((blocked, small), some) = c.requires in
    let (i, (inside, _)) = some_live (records c.args.w.now) c.args.p.used blocked.inside some in
    (omega arith, (blocked.reach, (small, blocked.whole)))

low : (c : After-least-limit) → Least (λ (i : ℕ). i < c.args.p.used) (bound_at (records c.args.w.now)) c.least-limit.result
low c = c.least-limit.ensures (records c.args.w.now) c.requires.0.0

met :
    (c : After-least-limit)
    → let recs = records c.args.w.now in
    (c.least-limit.result < gone) × ((i : ℕ) × ((i < c.args.p.used) × (bound_at recs i ≤ c.least-limit.result)))
met c =
    least_met (records c.args.w.now) c.args.p.used c.requires.0.0.inside c.least-limit.result (low c) c.requires.1

-- up to the least bound, the selection prefers open nodes
prefers :
    (c : After-least-limit)
    → let a = c.args in Prefers (records a.w.now) a.p.used (cond a.late 1 0) a.late c.least-limit.result
prefers c = prefers_least c.args.late c.least-limit.result (low c) (met c).0

pub foremost-i-requires : goal.foremost-i-requires
foremost-i-requires c =
    let (live, (i, (inside, at))) = met c in
    (c.requires.0.0, (c.requires.0.1, (omega arith, (i, (inside, omega arith)))))

pub returns-then-open : goal.returns-then-open
returns-then-open c =
    let a = c.args in
    let recs = records a.w.now in
    chosen_open recs a.p.used c.requires.0.0.inside a.n (prefers (goal.at.returns-then-open c).After-least-limit) c.foremost-i.result c.foremost-i.ensures.inside
    (sym c.open.ensures ∙ c.if-open.true)
    (λ j inside b. over_shut a.n c.least-limit.result (get_or recs j empty_record) (c.foremost-i.ensures.before j inside b))

-- the first open node, or where none is open the foremost one
taken :
    (c : After-least-limit) (i : ℕ) → let a = c.args in
    let recs = records a.w.now in
    Foremost a.late recs a.p.used c.least-limit.result i
    → (r : Option ℕ) → FirstOpen a.late (λ (j : ℕ). j < a.p.used) a.n c.least-limit.result recs r
    → Chosen a.n recs a.p.used (cond a.late 1 0) (unwrap_or r i)
taken c i found (Some j) first =
    chosen_open (records c.args.w.now) c.args.p.used c.requires.0.0.inside c.args.n (prefers c) j first.among first.opens first.before
taken c i found None none =
    chosen_complete (records c.args.w.now) c.args.p.used c.requires.0.0.inside c.args.n (prefers c) i found none

pub returns : goal.returns
returns c =
    rw c.unwrap_or.ensures
    (taken (goal.at.returns c).After-least-limit c.foremost-i.result c.foremost-i.ensures c.first_open.result c.first_open.ensures)
