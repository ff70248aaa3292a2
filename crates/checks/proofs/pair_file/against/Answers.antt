-- `against` meets its contract: the precedence that good pairs make has these pairs, and `respected` says whether the starting order respects them.
use mathlib.Core.Path.{sym, ◌∙◌, ap, subst}
use mathlib.Core.Bool.{Bool, not}
use lib.Dec.{T}
use Rattle.orders.specs.Pairs.{Pairing, respects}
use Rattle.pairs.specs.Code.{pairs_in}
use Rattle.pairs.specs.declared.Precedence.{Precedence}
use Rattle.pairs.proofs.GoodFile.{of_stops, its_pairing, its_respects}
use Rattle.answer.proofs.Passes.{PairsPass, pairs_pass}
use Rattle.checks.proofs.PairLaws.{given_partial}
use Rattle.checks.proofs.pair_file.against.Goals as goal
use Rattle.checks.proofs.pair_file.against.Goals.{Start}

good : (c : Start) → PairsPass c.args.n c.args.pairs.now
good c = pairs_pass _ _ (subst (λ (b : Bool). T (not b)) (sym c.requires.1.1) tt)

pub precedence_of-requires : goal.precedence_of-requires
precedence_of-requires c =
    let g = good (goal.at.precedence_of-requires c).Start in
    of_stops _ c.requires.0 _ g.only g.once

pub respected-requires : goal.respected-requires
respected-requires c =
    let g = good (goal.at.respected-requires c).Start in
    let pairing =
    subst (λ (d : Precedence). Pairing c.args.n (pairs_in d)) (sym c.precedence_of.ensures) (its_pairing _ c.requires.0 _ g.only g.once) in
    (c.requires.0, (pairing, given_partial _ _ c.requires.1.0))

pub returns : goal.returns
returns c =
    let g = good (goal.at.returns c).Start in
    ap not
    (c.respected.ensures
    ∙ ap (λ (d : Precedence). respects (pairs_in d) c.args.start.now) c.precedence_of.ensures
    ∙ its_respects _ c.requires.0 c.args.pairs.now g.only g.once c.args.start.now)
