-- `joined` meets its contract: the children written behind the lane are linked with it, and `ranked` makes the minima right.
use mathlib.Core.Path.{◌≡◌, sym, subst}
use mathlib.Core.List.{◌++◌}
use Prim.Native.Nat.{◌+◌, ◌^◌, ◌≤◌, ◌<◌}
use native.Mathlib.Omega.{arith}
use lib.Dec.{T}
use lib.ListN.{length, take, drop}
use Rattle.records.specs.Code.{records, slots, Slotted}
use Rattle.records.proofs.SlotLaws.{slots_length}
use Rattle.records.proofs.ViewLaws.{length-records}
use Rattle.lanes.specs.Sizes.{heads}
use Rattle.lanes.specs.declared.Lane.{Lane}
use Rattle.lanes.specs.Layouts.{active_lane}
use Rattle.lanes.proofs.LiveLaws.{live_few}
use Rattle.chains.specs.Code.{joined_all, index_all}
use Rattle.replacement.proofs.GrownLaws.{writable, joined_grown, joined_kept}
use Rattle.replacement.proofs.commit.joined.Goals as goal
use Rattle.replacement.proofs.commit.joined.Goals.{After-write_at-new}

pub write_at-new-requires : goal.write_at-new-requires
write_at-new-requires c =
    let a = c.args in
    let kids = records a.kids.now in
    subst
    (λ (l : Lane).
    (Slotted a.alive kids × (l.count + length (slots a.alive kids) ≤ length (records a.w.now)))
    × (T l.linked → (l.count + length (slots a.alive kids) < 2 ^ 32) × (l.heads + heads ≤ length a.index.now)))
    (sym c.active_lane.ensures)
    (writable (records a.w.now) kids a.p a.alive a.index.now c.requires.0.0 c.requires.1.0.0 c.requires.1.1.1)

-- what `write_at` ensures of the lane
stored :
    (c : After-write_at-new)
    → let a = c.args in
    let l = active_lane a.p in
    let xs = slots a.alive (records a.kids.now) in
    let recs = records a.w.now in
    (records c.write_at-new.new.w
    ≡ take l.count recs ++ (joined_all l l.count a.index.now xs ++ drop (l.count + c.write_at-new.result) recs))
    × (c.write_at-new.new.index ≡ index_all l l.count a.index.now xs)
stored c =
    let a = c.args in
    let xs = slots a.alive (records a.kids.now) in
    let recs = records a.w.now in
    subst
    (λ (l : Lane).
    (records c.write_at-new.new.w
    ≡ take l.count recs ++ (joined_all l l.count a.index.now xs ++ drop (l.count + c.write_at-new.result) recs))
    × (c.write_at-new.new.index ≡ index_all l l.count a.index.now xs))
    c.active_lane.ensures
    c.write_at-new.ensures.1

-- the numbers fit
room :
    (c : After-write_at-new)
    → let a = c.args in (a.p.active ≤ a.p.used) × (a.p.used + c.write_at-new.result < 2 ^ 62)
room c =
    let a = c.args in
    let h = c.requires in (
      omega (arith, h.0.1, live_few (records a.w.now) a.p.used),
      omega
          (arith, h.1.1.1, h.0.0.whole, length-records a.w.now, c.write_at-new.ensures.0, slots_length (records a.kids.now) a.alive),
    )

pub ranked-requires : goal.ranked-requires
ranked-requires c =
    let a = c.args in
    let h = c.requires in (
      joined_grown (records a.w.now) (records a.kids.now) a.p a.alive a.index.now h.0.0 h.1.0.0 h.1.1.1 h.1.0.1
          h.1.1.0 (records c.write_at-new.new.w) c.write_at-new.new.index c.write_at-new.result c.write_at-new.ensures.0
          (stored (goal.at.ranked-requires c).After-write_at-new).0 (stored (goal.at.ranked-requires c).After-write_at-new).1,
      omega arith,
    )

pub returns : goal.returns
returns c =
    let a = c.args in
    let h = c.requires in
    joined_kept (records a.w.now) (records a.kids.now) a.p a.alive a.index.now h.0.0 h.1.0.0 h.1.1.1 h.1.0.1
    h.1.1.0 (records c.write_at-new.new.w) c.write_at-new.new.index c.write_at-new.result c.write_at-new.ensures.0
    (stored (goal.at.returns c).After-write_at-new).0 (stored (goal.at.returns c).After-write_at-new).1 c.ranked.result _ h.0.1 c.ranked.ensures

pub overflow_add-q : goal.overflow_add-q
overflow_add-q c = omega (arith, room (goal.at.overflow_add-q c).After-write_at-new)

pub overflow_add-q-2 : goal.overflow_add-q-2
overflow_add-q-2 c = omega (arith, room (goal.at.overflow_add-q-2 c).After-write_at-new)
