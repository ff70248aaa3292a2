-- `reranked` meets its contract: `rebuild` makes the minima, if the layout is ranked.
use mathlib.Core.Path.{subst, sym}
use lib.Dec.{T}
use Rattle.blocks.proofs.KeepLaws.{same_none}
use Rattle.pool.proofs.rank.reranked.Goals as goal

pub rebuild-requires : goal.rebuild-requires
rebuild-requires c = c.requires (subst T (sym c.if-p.true) tt)

pub returns-then-p : goal.returns-then-p
returns-then-p c =
    let reach = (c.requires (subst T (sym c.if-p.true) tt)).1.1.1 in
    ((λ t. record { minima = c.rebuild.ensures.0; reach = reach }), c.rebuild.ensures.1)

pub returns-else-p : goal.returns-else-p
returns-else-p c = ((λ t. absurd (subst T c.if-p.false t)), same_none _)
