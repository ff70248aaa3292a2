-- `bucket` meets its contract: the words are small enough that no step overflows.
use mathlib.Core.Path.{refl}
use Rattle.chains.specs.Code.{bucket_of}
use Rattle.chains.proofs.WalkLaws.{bucket_head}
use Rattle.chains.proofs.walk.bucket.Goals as goal

pub returns : goal.returns
unfolding bucket_of
returns c = rw c.last.ensures (refl, bucket_head c.args.x)
