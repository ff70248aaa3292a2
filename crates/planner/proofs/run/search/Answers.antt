-- `search` meets its contract: the setting is that of the call, so the turns end as its run does (`EndLaws`), whatever index they have.
use mathlib.Core.Path.{◌≡◌, refl, sym, subst}
use mathlib.Core.List.{List}
use Rattle.std.specs.Prelude.{Result, Ok, Err}
use Rattle.std.specs.Result.{IsOkAnd}
use native.Mathlib.Omega.{arith}
use Rattle.answer.specs.declared.refusal.Refusal.{Refusal}
use Prim.Native.Nat.{ℕ}
use Rattle.stops.specs.Code.{Priced}
use Rattle.records.specs.Records.{records_in}
use Rattle.answer.specs.Call.{Call, call_of}
use Rattle.answer.specs.declared.Report.{Report}
use Rattle.answer.proofs.Passes.{Passes, passes}
use Rattle.pairs.proofs.GoodFile.{of_stops}
use Rattle.lanes.specs.declared.layout.Layout.{Layout}
use Rattle.children.specs.declared.setting.Setting.{Setting}
use Rattle.planner.specs.Code.{layout_of, rows_by, Begins, Ran, Ended}
use Rattle.planner.proofs.EndLaws.{call_begins, run_ends}
use Rattle.planner.proofs.run.search.Goals as goal
use Rattle.planner.proofs.run.search.Goals.{After-layout_of-p, After-setting_of-setting, Start}

-- the call that the arguments make up
abbrev call : Start → Call
call c = let a = c.args in call_of a.job a.table.now a.start.now a.pairs.now a.budget a.w.now

ok : (c : Start) → Passes (call c)
ok c = passes (call c) c.requires

pub setting_of-setting-requires : goal.setting_of-setting-requires
unfolding call_of
setting_of-setting-requires c = let p = ok (goal.at.setting_of-setting-requires c).Start in of_stops _ p.priced.few _ p.pairs.only p.pairs.once

-- what the turns begin with
begins :
    (c : After-layout_of-p)
    → let d = c.setting_of-setting.result in
    let a = c.args in
    Priced d.n a.table.now × Begins d (rows_by d a.table.now) a.start.now a.w.now c.layout_of-p.result
unfolding call_of records_in
begins c =
    let a = c.args in
    let p : Layout = c.layout_of-p.result in
    subst
    (λ (d : Setting).
    p ≡ layout_of d (records_in a.w.now) → Priced d.n a.table.now × Begins d (rows_by d a.table.now) a.start.now a.w.now p)
    (sym c.setting_of-setting.ensures) (λ e. ((ok c.before.before.before.before.before.before.before).priced, call_begins _ (ok c.before.before.before.before.before.before.before) refl e)) c.layout_of-p.ensures

-- and how they end
ends :
    (c : After-layout_of-p) (q : Result Report Refusal) (w : List ℕ)
    → let d = c.setting_of-setting.result in
    let a = c.args in
    IsOkAnd q (λ x. Ran d (rows_by d a.table.now) a.start.now a.w.now x w) → IsOkAnd q (λ x. Ended (call c.before.before.before.before.before.before.before) x w)
unfolding call_of
ends c (Ok q) w ran =
    let a = c.args in
    run_ends _ c.requires refl
    (subst (λ (d : Setting). Ran d (rows_by d a.table.now) a.start.now a.w.now q w) c.setting_of-setting.ensures ran)
ends c (Err e) w h = h

pub returns-then-p : goal.returns-then-p
returns-then-p c = ends (goal.at.returns-then-p c).After-layout_of-p c.turns_over.result _ c.turns_over.ensures

pub returns : goal.returns
returns c = ends (goal.at.returns c).After-layout_of-p c.turns_over-2.result _ c.turns_over-2.ensures

pub turns_over-requires : goal.turns_over-requires
turns_over-requires c =
    (begins (goal.at.turns_over-requires c).After-layout_of-p, (omega arith, ((λ h. omega arith), (λ h. omega arith))))

pub turns_over-requires-2 : goal.turns_over-requires-2
turns_over-requires-2 c =
    (begins (goal.at.turns_over-requires-2 c).After-layout_of-p, (omega arith, ((λ h. omega arith), (λ h. absurd (rw (c.if-p.false, c.if-p-2.false) at h)))))
