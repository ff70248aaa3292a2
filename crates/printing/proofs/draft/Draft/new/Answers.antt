-- `new` meets its contract: an array of zeros is the text of no bytes.
use mathlib.Core.Path.{refl}
use mathlib.Core.List.{[]}
use native.Mathlib.Omega.{arith}
use Rattle.lists.specs.Lists.{padded}
use Rattle.printing.specs.Promise.{text_of}
use Rattle.printing.proofs.DraftLaws.{begun}
use Rattle.printing.proofs.draft.Draft.new.Goals as goal

pub invariant_of-result : goal.invariant_of-result
unfolding text_of padded
invariant_of-result c = begun _ [] refl (omega arith)
