-- `unread` meets its contract: each field is the one that `refusal` names.
use mathlib.Core.Path.{refl}
use Rattle.lists.specs.Lists.{padded}
use Rattle.job_format.specs.Reader.{refusal}
use Rattle.job_file.specs.Promise.{returned}
use Rattle.job_file.proofs.reader.unread.Goals as goal

pub returns : goal.returns
unfolding returned refusal padded
returns c = refl
