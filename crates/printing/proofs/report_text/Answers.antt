-- `report_text` meets its contract: a refusal's line, or the lines of a run.
use mathlib.Core.Path.{◌≡◌, ap, sym, ◌∙◌}
use mathlib.Core.Logic.{◌≢◌}
use native.Mathlib.Omega.{arith}
use lib.ListN.{length}
use Rattle.sizes.specs.Sizes.{order_places}
use Rattle.printing.specs.Promise.{text_of}
use Rattle.printing.proofs.PrintedLaws.{printed-refused, printed_lines}
use borrow.Author.Rules.{rules}
use Rattle.printing.proofs.report_text.Goals as goal
use Rattle.printing.proofs.report_text.Goals.{Start}

sixteen : (c : Start) → length c.args.report.order ≡ order_places
sixteen c = search rules

pub returns-then-report-ne0 : goal.returns-then-report-ne0
returns-then-report-ne0 c =
    let refused : c.args.report.number ≢ 0 = omega arith in
    c.refusal_text.ensures ∙ ap text_of (sym (printed-refused _ c.args.report refused))

pub returns : goal.returns
returns c =
    let given : c.args.report.number ≡ 0 = omega arith in
    c.into_text.ensures
    ∙ ap text_of (c.put_lines.ensures ∙ printed_lines _ _ c.args.report c.places.ensures (sixteen (goal.at.returns c).Start) given)
