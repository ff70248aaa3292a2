-- `step` meets its contract: what its callees ensure up to where the far end's number is known is what parts 6 and 7 ask, and the laws say
-- what is kept, what is active and what is shown afterwards (`StepShown`, `StepAfter`).
use mathlib.Core.Path.{◌≡◌, refl, sym, ◌∙◌, ap, subst}
use mathlib.Core.Bool.{Bool, true, false}
use mathlib.Core.List.{List}
use Prim.Native.Nat.{ℕ, ◌+◌, ◌-◌, ◌^◌, ◌≤◌, ◌<◌}
use native.Mathlib.Omega.{arith}
use borrow.Author.Tests.{leb-true, leb-false}
use lib.Dec.{leb}
use lib.ListN.{length, get_or}
use Rattle.sizes.specs.Sizes.{most_stops}
use Rattle.records.specs.Code.{records}
use Rattle.records.proofs.ViewLaws.{length-records, records_small}
use Rattle.stops.specs.Code.{empty_record, stops_in}
use Rattle.stops.specs.declared.node_record.Record.{Record}
use Rattle.lanes.specs.Code.{sized}
use Rattle.children.specs.Code.{children_of}
use Rattle.children.specs.declared.setting.Setting.{Setting}
use Rattle.replacement.specs.Code.{Changing, Committed, staying_of}
use Rattle.replacement.specs.declared.change.Change.{Change}
use Rattle.step.specs.Code.{Shown, Expansion, node_at, rest_at, change_of, far_after, step_of, run_after}
use Rattle.step.specs.declared.Run.{Run}
use Rattle.lanes.specs.declared.layout.Layout.{Layout}
use Rattle.step.specs.declared.Expanded.{Expanded}
use Rattle.step.proofs.StepLaws.{Bounded}
use Rattle.step.proofs.StepShown.{staying_after, left_of, stage_generated, stage_kept, stage_rest, stage_few, stage_room, stage_changing}
use Rattle.step.proofs.StepAfter.{stage_shown}
use Rattle.step.proofs.step.Goals as goal
use Rattle.step.proofs.step.Goals.{After-holding}

abbrev setting : After-holding → Setting
setting d = d.args.setting

abbrev run : After-holding → Run
run d = d.args.r

abbrev place : After-holding → ℕ
place d = d.args.i

abbrev words : After-holding → List ℕ
words d = d.args.w.now

abbrev given : After-holding → Expanded
given d = d.expand-e.result

abbrev kids : After-holding → List Record
kids d = records d.expand-e.new.kids

-- b is the node at i
abbrev node : After-holding → Record
node d = d.sized_at-b.result

same_node : (d : After-holding) → node d ≡ node_at (words d) (place d)
same_node d = d.sized_at-b.ensures

sized_twice : (x : Record) → sized x ≡ sized (sized x)
unfolding sized
sized_twice x = refl

made : (d : After-holding) → Expansion (setting d) d.args.t (words d) (node_at (words d) (place d)) (run d) (given d) (kids d)
made d =
    subst (λ (b : Record). Expansion (setting d) d.args.t (words d) b (run d) (given d) (kids d)) (same_node d)
    d.expand-e.ensures

-- what parts 6 and 7 go by is what is written
abbrev change : After-holding → Change
change d = record {
  limit = (given d).limit;
  alive = (given d).alive;
  taking = d.taking_of.result;
  fell = d.falls.result;
  far = d.holding.result;
}

same_change : (d : After-holding) → change d ≡ change_of (setting d) (run d) (given d)
same_change d =
    let taken = d.taking_of.ensures in
    let fell = d.falls.ensures in
    let far = d.holding.ensures in
    λ j. record { limit = (given d).limit; alive = (given d).alive; taking = taken j; fell = fell j; far = far j }

-- what stays of the active nodes, and how many children survive
abbrev staying : After-holding → List Record
staying d = staying_after (setting d) (words d) (place d) (run d) (given d) (kids d)

abbrev left : After-holding → ℕ
left d = left_of (given d) (kids d)

-- the nodes to keep, as the code counts them
abbrev kept : After-holding → ℕ
kept d = length (staying_of (records (words d)) (run d).layout (place d) (change d) (kids d)) + left d + d.holding.result

kept_count : (d : After-holding) → kept d ≡ length (staying d) + left d + far_after (setting d) (run d)
kept_count d =
    ap (λ (c : Change). length (staying_of (records (words d)) (run d).layout (place d) c (kids d)) + left d + c.far) (same_change d)

bounded : (d : After-holding) → Bounded (records (words d))
bounded d x m =
    let small : x.bound < 2 ^ 32 = (records_small (words d) (λ j. omega (arith, d.slice_known-1.given j)) x m).bound in
    omega arith

changing : (d : After-holding) → Changing (records (words d)) (run d).layout (place d) (change d) (kids d)
changing d =
    subst (λ (c : Change). Changing (records (words d)) (run d).layout (place d) c (kids d)) (sym (same_change d))
    (stage_changing (made d) (bounded d) d.requires.0)

pub holding-requires : goal.holding-requires
holding-requires c =
    let laid = c.requires.0.laid in omega (arith, laid.fits, laid.whole, length-records c.args.w.now)

-- the nodes to keep are at most the records, or more, as `fits` said
fitting : (d : After-holding) (said : Bool) → said ≡ leb (kept d) (run d).layout.capacity → said ≡ true → kept d ≤ (run d).layout.capacity
fitting d said is e = leb-true (kept d) (run d).layout.capacity (sym is ∙ e)

over : (d : After-holding) (said : Bool) → said ≡ leb (kept d) (run d).layout.capacity → said ≡ false → (run d).layout.capacity < kept d
over d said is e = leb-false (kept d) (run d).layout.capacity (sym is ∙ e)

pub returns-then-not-fits : goal.returns-then-not-fits
returns-then-not-fits c s shown =
    let d = (goal.at.returns-then-not-fits c).After-holding in
    let ready = c.requires.0 in
    (omega (arith, over d c.fits.result c.fits.ensures c.if-not-fits.true, stage_kept (made d) (bounded d) ready s shown, kept_count d, ready.laid.whole), refl)

pub commit-q-requires : goal.commit-q-requires
commit-q-requires c =
    let d = (goal.at.commit-q-requires c).After-holding in
    let x : Record = get_or (records (words d)) (place d) empty_record in
    let whole : node d ≡ sized (node d) = same_node d ∙ sized_twice x ∙ ap sized (sym (same_node d)) in
    ((c.requires.0.laid, changing d), (whole, fitting d c.fits.result c.fits.ensures c.if-not-fits.false))

-- what `commit` gives, in what is written
put :
    (d : After-holding) (recs : List Record) (q : Layout) (index : List ℕ)
    → Committed (records (words d)) (run d).layout (place d) (node d) (change d) (kids d) recs q index
    → Committed (records (words d)) (run d).layout (place d) (node_at (words d) (place d)) (change_of (setting d) (run d) (given d)) (kids d) recs q index
put d recs q index given_by =
    subst (λ (b : Record). Committed (records (words d)) (run d).layout (place d) b (change_of (setting d) (run d) (given d)) (kids d) recs q index)
    (same_node d)
    (subst (λ (e : Change). Committed (records (words d)) (run d).layout (place d) (node d) e (kids d) recs q index) (same_change d) given_by)

-- as many children as stops that b leaves, and no fewer than survive
generated :
    (d : After-holding) (m : ℕ) → m ≡ length (stops_in (given d).born)
    → (m ≡ length (children_of (setting d) d.args.t (node_at (words d) (place d)))) × (left d ≤ m) × (m ≤ most_stops)
generated d m e = stage_generated (made d) (bounded d) d.requires.0 m e

pub counted-requires : goal.counted-requires
counted-requires c =
    let d = (goal.at.counted-requires c).After-holding in
    let ready = c.requires.0 in
    let born = generated d c.count.result c.count.ensures in
    let some : 1 ≤ (run d).layout.active = omega (arith, stage_rest (made d) (bounded d) ready) in
    let room : (run d).layout.active + c.count.result < 2 ^ 62 =
    omega (arith, stage_room (made d) (bounded d) ready, length-records (words d), born, c.well_formed) in
    let few : c.commit-q.result.active ≤ (run d).layout.active - 1 + c.count.result =
    omega (arith, (put d (records c.commit-q.new.w) c.commit-q.result c.commit-q.new.index c.commit-q.ensures).counted, stage_few (made d) (bounded d) ready, born) in
    (some, (room, (few, ready.room)))

pub returns : goal.returns
returns c s shown =
    let d = (goal.at.returns c).After-holding in
    let ready = c.requires.0 in
    let after : List ℕ = c.commit-q.new.w in
    let index : List ℕ = c.commit-q.new.index in
    let m = c.count.result in
    let counts : c.counted.result ≡ run_after (run d) (given d).best m c.commit-q.result = c.counted.ensures in (
      omega (arith, stage_kept (made d) (bounded d) ready s shown, fitting d c.fits.result c.fits.ensures c.if-not-fits.false, kept_count d, ready.laid.whole),
      subst
          (λ (l : Run).
          Shown (setting d) after index l (step_of (setting d) c.args.t (node_at (words d) (place d)) (rest_at (words d) (run d) (place d)) s))
          (sym counts)
          (stage_shown (made d) (bounded d) ready s shown after index c.commit-q.result
          (put d (records after) c.commit-q.result index c.commit-q.ensures) m (generated d m c.count.ensures).0),
    )

pub fits-requires : goal.fits-requires
fits-requires c = changing (goal.at.fits-requires c).After-holding
