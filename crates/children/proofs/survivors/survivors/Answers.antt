-- `survivors` meets its contract: the passes of the three rules, each over what the one before it left.
use mathlib.Core.Path.{sym, ◌∙◌}
use Prim.Native.Nat.{◌^◌, ◌<◌}
use Rattle.sizes.specs.Sizes.{most_stops, no_limit}
use Rattle.search.specs.Step.{on}
use Rattle.records.specs.Code.{records, Thinned}
use Rattle.records.proofs.SlotLaws.{thinned_twice}
use Rattle.lanes.specs.Code.{is_within, live_of, far_of}
use Rattle.chains.specs.Code.{is_free}
use Rattle.children.specs.Code.{ruled}
use Rattle.children.proofs.FamilyLaws.{sized_less}
use Rattle.children.proofs.SurvivorLaws.{thinned_on, thinned_off, thinned_active, thinned_far}
use Rattle.children.proofs.survivors.survivors.Goals as goal
use Rattle.children.proofs.survivors.survivors.Goals.{Joined-on, Joined-on-2, then-on, else-on, then-on-2, else-on-2}

-- what rule 1 leaves
after_rule_1 :
    (c : Joined-on) →
    let a = c.args in Thinned (ruled (on 1 a.setting.rules) (is_within a.limit)) (records a.kids.now) a.born c.if-on.left
after_rule_1 c =
    elim c.if-on.branch [
      | then-on w ↦ rw w.left-is (thinned_on (sym c.on.ensures ∙ w.if-on.true) w.within-left.ensures)
      | else-on w ↦ rw w.left-is (thinned_off (is_within c.args.limit) (sym c.on.ensures ∙ w.if-on.false) c.requires.1.0.small)
    ]

-- of these, what rule 2 leaves
after_rule_2 :
    (c : Joined-on-2) → c.if-on.left < 2 ^ most_stops →
    let a = c.args in
    Thinned (ruled (on 2 a.setting.rules) (is_free a.limit (live_of a.p.used (records a.w.now)))) (records a.kids.now) c.if-on.left c.if-on-2.left
after_rule_2 c small =
    let a = c.args in
    elim c.if-on-2.branch [
      | then-on-2 w ↦
          rw w.left-is
          (thinned_on (sym c.on-2.ensures ∙ w.if-on-2.true)
          (thinned_active c.requires.0.0 a.limit c.requires.0.1 (rw w.active_lane.ensures at w.unrivalled-left.ensures)))
      | else-on-2 w ↦
          rw w.left-is
          (thinned_off (is_free a.limit (live_of a.p.used (records a.w.now))) (sym c.on-2.ensures ∙ w.if-on-2.false) small)
    ]

pub returns-then-on-3 : goal.returns-then-on-3
returns-then-on-3 c =
    let first = after_rule_1 (goal.at.returns-then-on-3 c).Joined-on in
    let second = after_rule_2 (goal.at.returns-then-on-3 c).Joined-on-2 first.small in
    thinned_twice first
    (thinned_twice second
    (thinned_on (sym c.on-3.ensures ∙ c.if-on-3.true)
    (thinned_far c.requires.0.0 no_limit (rw c.far_lane.ensures at c.unrivalled-left-then-on-3.ensures))))

pub returns-else-on-3 : goal.returns-else-on-3
returns-else-on-3 c =
    let a = c.args in
    let first = after_rule_1 (goal.at.returns-else-on-3 c).Joined-on in
    let second = after_rule_2 (goal.at.returns-else-on-3 c).Joined-on-2 first.small in
    thinned_twice first
    (thinned_twice second
    (thinned_off (is_free no_limit (far_of a.p.far (records a.w.now))) (sym c.on-3.ensures ∙ c.if-on-3.false) second.small))

pub unrivalled-left-requires : goal.unrivalled-left-requires
unrivalled-left-requires c =
    let p = c.requires in
    let first = after_rule_1 (goal.at.unrivalled-left-requires c).Joined-on in
    (sized_less p.1 first.small first.among, rw c.active_lane.ensures p.0.0.lane)

pub unrivalled-left-requires-then-on-3 : goal.unrivalled-left-requires-then-on-3
unrivalled-left-requires-then-on-3 c =
    let p = c.requires in
    let first = after_rule_1 (goal.at.unrivalled-left-requires-then-on-3 c).Joined-on in
    let second = after_rule_2 (goal.at.unrivalled-left-requires-then-on-3 c).Joined-on-2 first.small in
    (sized_less p.1 second.small (λ s i. first.among s (second.among s i)), rw c.far_lane.ensures p.0.0.far_lane_lem)
