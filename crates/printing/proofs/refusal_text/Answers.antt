-- `refusal_text` meets its contract: one line.
use mathlib.Core.Path.{ap, ◌∙◌}
use Rattle.report_format.specs.Text.{line}
use Rattle.report_format.specs.Printed.{refused_line}
use Rattle.printing.specs.Promise.{text_of}
use Rattle.printing.proofs.refusal_text.Goals as goal

pub returns : goal.returns
unfolding refused_line line
returns c = c.into_text.ensures ∙ ap text_of (rw (c.put_line.ensures.0, c.new-draft.ensures, c.from.ensures))
