-- `extend::fits_on` meets its contract: where one of its first tests fails, that test of `fits` fails, and the last one is the test that is left
-- (`ExtendLaws`).
use mathlib.Core.Path.{◌≡◌, sym, ◌∙◌}
use mathlib.Core.Bool.{true}
use native.Mathlib.Omega.{arith}
use borrow.Author.Rules.{rules}
use Rattle.sizes.specs.Sizes.{most_stops}
use Rattle.node_answers.specs.Nodes.{is_node}
use Rattle.inspection.proofs.ExtendLaws.{node_same, unfit_record, unfit_stop, unfit_flown, fits_last}
use Rattle.inspection.proofs.extend.fits_on.Goals as goal
use Rattle.inspection.proofs.extend.fits_on.Goals.{Else-not-is_record}

pub returns-then-not-is_record : goal.returns-then-not-is_record
returns-then-not-is_record c =
    let a = c.args in
    unfit_record a.x a.added.stop a.added.leg
    (sym (node_same most_stops a.x) ∙ sym c.is_record.ensures ∙ c.if-not-is_record.true)

-- the record is a node's
node : (c : Else-not-is_record) → is_node most_stops c.args.x ≡ true
node c =
    sym (node_same most_stops c.args.x) ∙ sym c.is_record.ensures ∙ c.if-not-is_record.false

pub returns-then-added-eq0 : goal.returns-then-added-eq0
returns-then-added-eq0 c =
    let a = c.args in
    unfit_stop a.x a.added.stop a.added.leg (λ h k. omega (arith, c.then-added-eq0.either))

pub returns-then-not-holds : goal.returns-then-not-holds
returns-then-not-holds c =
    let a = c.args in
    let g = goal.at.returns-then-not-holds c in
    fits_last a.x a.added.stop a.added.leg (node g.Else-not-is_record) (omega arith) (omega arith)
    (sym c.holds.ensures ∙ c.if-not-holds.true) (search rules)

pub returns-else-not-holds : goal.returns-else-not-holds
returns-else-not-holds c =
    let a = c.args in
    let g = goal.at.returns-else-not-holds c in
    rw c.if-not-holds.false
    (unfit_flown a.x a.added.stop a.added.leg (node g.Else-not-is_record) (omega arith) (omega arith)
    (sym c.holds.ensures ∙ c.if-not-holds.false))
