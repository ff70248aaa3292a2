-- `output` meets its contract.
use mathlib.Core.Path.{ap, ◌∙◌}
use Rattle.printing.specs.Promise.{text_of}
use Rattle.plan.proofs.OutputLaws.{long_output, short_output}
use Rattle.plan.proofs.output.output.Goals as goal

pub returns-then-input-gt-LONGEST : goal.returns-then-input-gt-LONGEST
returns-then-input-gt-LONGEST c =
    c.refusal_text.ensures ∙ ap text_of (rw c.from.ensures (long_output _ c.if-input-gt-LONGEST.true))

pub returns : goal.returns
returns c = c.answer.ensures ∙ ap text_of (short_output _ c.if-input-gt-LONGEST.false)
