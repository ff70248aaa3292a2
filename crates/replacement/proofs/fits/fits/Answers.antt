-- `fits` meets its contract: fewer nodes stay than were active, and all but one where none goes; else they are counted.
use mathlib.Core.Path.{◌≡◌, sym, ap, ◌∙◌}
use Prim.Native.Nat.{ℕ, ◌+◌, ◌^◌, ◌≤◌, ◌<◌}
use native.Mathlib.Omega.{arith}
use borrow.Author.Tests.{le-leb, lt-leb, not-true}
use lib.Dec.{leb}
use lib.ListN.{length}
use Rattle.sizes.specs.Sizes.{most_stops}
use Rattle.stops.proofs.SetBits.{stops_in_few}
use Rattle.records.specs.Code.{records, slots}
use Rattle.records.proofs.SlotLaws.{slots_length}
use Rattle.records.proofs.ViewLaws.{length-records}
use Rattle.replacement.specs.Code.{staying_of}
use Rattle.replacement.proofs.FitLaws.{staying_parts, staying_few, staying-all, far_more, active_few}
use Rattle.replacement.proofs.fits.fits.Goals as goal
use Rattle.replacement.proofs.fits.fits.Goals.{After-count-new, After-staying-behind, Start}

-- how many stay, how many survive, and the nodes to keep
abbrev stay : Start → ℕ
stay c = let a = c.args in length (staying_of (records a.w.now) a.p a.i a.change (records a.kids.now))

abbrev survive : Start → ℕ
survive c = length (slots c.args.change.alive (records c.args.kids.now))

abbrev needed : Start → ℕ
needed c = stay c + survive c + c.args.change.far

-- the survivors are counted, and few
new : (c : After-count-new) → (c.count-new.result ≡ survive c.before.before.before.before) × (c.count-new.result ≤ most_stops)
new c =
    let alive = c.args.change.alive in (
      c.count-new.ensures ∙ sym (slots_length (records c.args.kids.now) alive),
      omega (arith, c.count-new.ensures, stops_in_few alive c.requires.slotted.small),
    )

-- the numbers are far below those that 64 bits hold
room :
    (c : Start)
    → let a = c.args in
    ((stay c + 1 ≤ a.p.active) × (a.p.active ≤ a.p.used))
    × ((a.p.used + a.p.far < 2 ^ 62) × (a.change.far ≤ a.p.far + 1))
room c =
    let a = c.args in
    let recs = records a.w.now in
    let kids = records a.kids.now in (
      (omega (arith, staying_few recs a.p a.i a.change kids c.requires), active_few recs a.p a.i a.change kids c.requires),
      (omega (arith, c.requires.front, c.requires.whole, length-records a.w.now), far_more recs a.p a.i a.change kids c.requires),
    )

pub returns-then-p-new : goal.returns-then-p-new
returns-then-p-new c =
    sym (le-leb (needed (goal.at.returns-then-p-new c).Start) c.args.p.capacity (omega (arith, (room (goal.at.returns-then-p-new c).Start).0.0, (new (goal.at.returns-then-p-new c).After-count-new).0, c.if-p-new.true)))

pub returns-then-not-change : goal.returns-then-not-change
returns-then-not-change c =
    let a = c.args in
    let none = c.if-change-eq0.true in
    let same = staying-all (records a.w.now) a.p a.i a.change (records a.kids.now) c.requires none (not-true _ c.if-not-change.true) in
    sym (lt-leb (needed (goal.at.returns-then-not-change c).Start) a.p.capacity (omega (arith, same, (new (goal.at.returns-then-not-change c).After-count-new).0, c.if-p-new.false)))

-- those before the branched node and those behind it
sum : (c : After-staying-behind) → c.staying-before.result + c.staying-behind.result ≡ stay c.before.before.before.before.before.before.before.before.before.before.before.before
sum c =
    let a = c.args in
    let parts = staying_parts (records a.w.now) a.p a.i a.change (records a.kids.now) in
    omega (arith, parts, c.staying-before.ensures, c.staying-behind.ensures)

pub returns : goal.returns
returns c =
    let same : c.staying-before.result + c.staying-behind.result + c.count-new.result + c.args.change.far ≡ needed (goal.at.returns c).Start =
    omega (arith, sum (goal.at.returns c).After-staying-behind, (new (goal.at.returns c).After-count-new).0) in
    ap (λ (n : ℕ). leb n c.args.p.capacity) same

pub overflow_sub-p : goal.overflow_sub-p
overflow_sub-p c = omega (arith, (room (goal.at.overflow_sub-p c).Start).0)

pub overflow_add-p : goal.overflow_add-p
overflow_add-p c = omega (arith, room (goal.at.overflow_add-p c).Start, (new (goal.at.overflow_add-p c).After-count-new).1)

pub overflow_add-p-2 : goal.overflow_add-p-2
overflow_add-p-2 c = omega (arith, room (goal.at.overflow_add-p-2 c).Start, (new (goal.at.overflow_add-p-2 c).After-count-new).1)

pub overflow_add-result : goal.overflow_add-result
overflow_add-result c = omega (arith, room (goal.at.overflow_add-result c).Start, sum c)

pub overflow_add-result-2 : goal.overflow_add-result-2
overflow_add-result-2 c = omega (arith, room (goal.at.overflow_add-result-2 c).Start, sum c, (new (goal.at.overflow_add-result-2 c).After-count-new).1)

pub overflow_add-result-3 : goal.overflow_add-result-3
overflow_add-result-3 c = omega (arith, room (goal.at.overflow_add-result-3 c).Start, sum (goal.at.overflow_add-result-3 c).After-staying-behind, (new (goal.at.overflow_add-result-3 c).After-count-new).1)
