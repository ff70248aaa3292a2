-- `words_before` meets its contract: the first words tell, or where these are equal the second.
use mathlib.Core.Path.{sym, ◌∙◌}
use Rattle.stops.proofs.WordsBefore.{firsts_differ, firsts_agree}
use Rattle.stops.proofs.order_words.words_before.Goals as goal

pub returns-then-a1-b1 : goal.returns-then-a1-b1
returns-then-a1-b1 c = c.digits_before.ensures ∙ sym (firsts_differ _ _ _ _ c.if-a1-b1.true)

pub returns : goal.returns
returns c = c.digits_before-2.ensures ∙ sym (firsts_agree _ _ _ _ c.if-a1-b1.false)
