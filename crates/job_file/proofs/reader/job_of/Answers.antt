-- `job_of` meets its contract: four bytes of the trailer, each in its place.
use Rattle.job_format.specs.Reader.{trailer_from}
use Rattle.job_file.proofs.reader.job_of.Goals as goal

pub returns : goal.returns
unfolding trailer_from
returns c = cc
