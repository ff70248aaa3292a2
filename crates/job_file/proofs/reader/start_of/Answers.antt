-- `start_of` meets its contract: an array of zeros whose front is written.
use mathlib.Core.Path.{sym, ◌∙◌}
use Rattle.sizes.specs.Sizes.{order_places}
use Rattle.job_format.proofs.ByteLaws.{padded-overwrite}
use Rattle.job_file.proofs.reader.start_of.Goals as goal

pub returns : goal.returns
returns c = c.put_bytes.ensures ∙ sym (padded-overwrite order_places _)
