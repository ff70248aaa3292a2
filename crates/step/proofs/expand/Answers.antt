-- `expand` meets its contract: what its callees ensure is what `Expansion` gathers (`ExpandLaws`).
use mathlib.Core.Path.{sym, subst}
use mathlib.Core.List.{List}
use Prim.Native.Nat.{ℕ, ◌<◌}
use Rattle.search.specs.Step.{on}
use Rattle.records.specs.Code.{records}
use Rattle.lanes.specs.Sizes.{gone}
use Rattle.children.specs.Code.{Born}
use Rattle.children.proofs.FamilyLaws.{born_slotted, born_size, born_sized}
use Rattle.children.proofs.SurvivorLaws.{limit_below}
use Rattle.step.proofs.ExpandLaws.{expansion_made}
use Rattle.step.proofs.expand.Goals as goal
use Rattle.step.proofs.expand.Goals.{After-family-born}

-- the words of the children
abbrev words : After-family-born → List ℕ
words c = c.family-born.new.kids

born : (c : After-family-born) → let a = c.args in Born a.setting a.t a.b c.family-born.result (records (words c))
born c = c.family-born.ensures

pub learn-best-requires : goal.learn-best-requires
learn-best-requires c =
    let rows = c.requires.0.0 in
    let encoded = c.requires.0.1.0 in
    (born_slotted rows encoded (born (goal.at.learn-best-requires c).After-family-born), born_size rows encoded (born (goal.at.learn-best-requires c).After-family-born))

pub survivors-alive-requires : goal.survivors-alive-requires
survivors-alive-requires c =
    let rows = c.requires.0.0 in
    let encoded = c.requires.0.1.0 in
    let below : c.limit_of-limit.result < gone =
    subst (λ (k : ℕ). k < gone) (sym c.limit_of-limit.ensures)
    (limit_below (on 1 c.args.setting.rules) c.learn-best.result.upper) in
    ((c.requires.1.0, below), (born_slotted rows encoded (born (goal.at.survivors-alive-requires c).After-family-born), born_sized rows encoded (born (goal.at.survivors-alive-requires c).After-family-born)))

pub returns : goal.returns
returns c =
    expansion_made c.requires.0.0 c.requires.0.1.0 c.args.w.now c.args.r _ (born (goal.at.returns c).After-family-born)
    c.learn-best.ensures c.limit_of-limit.ensures c.survivors-alive.ensures
