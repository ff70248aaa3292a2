-- `ranked` meets its contract: where minima are kept, they reach as far as `wide_enough` asks.
use mathlib.Core.Path.{sym, subst}
use native.Mathlib.Omega.{arith}
use borrow.Author.Tests.{not-false}
use lib.Dec.{T}
use Rattle.records.proofs.ViewLaws.{length-records}
use Rattle.replacement.proofs.commit.ranked.Goals as goal
use Rattle.replacement.proofs.commit.ranked.Goals.{Else-not-p}

on : (c : Else-not-p) → T c.args.p.ranked
on c = subst T (sym (not-false c.args.p.ranked c.if-not-p.false)) tt

pub wide_enough-shift-requires : goal.wide_enough-shift-requires
wide_enough-shift-requires c =
    let g = c.requires.0 in
    (omega (arith, g.fits, g.whole, length-records c.args.w.now), (g.ranks (on c)).reach)
