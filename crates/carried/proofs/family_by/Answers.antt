-- `carried::family_by` meets its contract: with no stop left there is no child, one child is complete and flies home, and of several each has what is
-- carried to it where the bound is close, and nothing where it is plain.
use mathlib.Core.Path.{◌≡◌, sym, ◌∙◌}
use Prim.Native.Nat.{ℕ, ◌<◌}
use native.Mathlib.Omega.{arith}
use lib.ListN.{length-replicate, replicate}
use Rattle.sizes.specs.Sizes.{places}
use Rattle.carried.specs.Code.{Several, family_of, Gives}
use Rattle.carried.specs.declared.Family.{Family}
use Rattle.carried.proofs.SetLaws.{several, gives_close, gives_plain, gives_one, gives_none}
use Rattle.carried.proofs.family_by.Goals as goal
use Rattle.carried.proofs.family_by.Goals.{After-later, Start}

-- several stops are left where some are behind the first
more : (c : After-later) → 0 < c.later.result → Several c.args.rest
more c h = several c.args.rest c.later.result (omega arith) c.requires.0 c.later.ensures h

-- a family of which only the total counts leaves the zeros as they came
zeros_stay :
    (c : Start) (x : Family) (total : ℕ) → x ≡ family_of total
    → Gives c.args.t.now c.args.bound c.args.rest (family_of total) (replicate places 0)
    → Gives c.args.t.now c.args.bound c.args.rest x c.args.into.now
zeros_stay c x total e g = rw (e, c.requires.1.1) g

pub returns-then-rest-eq0 : goal.returns-then-rest-eq0
returns-then-rest-eq0 c =
    zeros_stay (goal.at.returns-then-rest-eq0 c).Start _ 0 c.only_total.ensures (gives_none c.args.t.now c.args.bound c.args.rest (omega arith))

pub returns-then-later-eq0 : goal.returns-then-later-eq0
returns-then-later-eq0 c =
    zeros_stay (goal.at.returns-then-later-eq0 c).Start _ c.leg.result c.only_total-then-later-eq0.ensures
    (gives_one c.args.t.now c.args.bound c.args.rest c.next.result c.leg.result c.next.ensures
    (sym (c.later.ensures _ c.next.ensures) ∙ omega arith) c.leg.ensures)

pub shared-requires : goal.shared-requires
shared-requires c =
    let p = c.requires in
    (more (goal.at.shared-requires c).After-later (omega arith), (p.1.0, rw p.1.1 (length-replicate {A = ℕ} places 0)))

pub returns-then-is_close : goal.returns-then-is_close
returns-then-is_close c =
    gives_close c.args.t.now (more (goal.at.returns-then-is_close c).After-later (omega arith)) c.args.bound _ _ (sym c.is_close.ensures ∙ c.if-is_close.true)
    c.shared.ensures

pub returns : goal.returns
returns c =
    zeros_stay (goal.at.returns c).Start _ 0 c.only_total-2.ensures
    (gives_plain c.args.t.now (more (goal.at.returns c).After-later (omega arith)) c.args.bound (sym c.is_close.ensures ∙ c.if-is_close.false))
