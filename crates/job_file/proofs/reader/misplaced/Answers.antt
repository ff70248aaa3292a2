-- `misplaced` meets its contract: its four tests are the definition's, at the n that stands in the trailer.
use mathlib.Core.Path.{ap}
use native.Mathlib.Omega.{arith}
use Rattle.std.proofs.lemmas.Bool.Decides.{nat_tests}
use Rattle.job_format.specs.Contents.{start_place_of}
use Rattle.job_format.specs.Reader.{trailer_from, misplaced}
use Rattle.job_file.proofs.reader.misplaced.Goals as goal

pub returns-then-len-end : goal.returns-then-len-end
unfolding misplaced trailer_from
returns-then-len-end c =
    let place = ap start_place_of c.requires.1.0 in
    grind (arith, nat_tests)

pub returns-else-len-end : goal.returns-else-len-end
unfolding misplaced trailer_from
returns-else-len-end c =
    let place = ap start_place_of c.requires.1.0 in
    grind (arith, nat_tests)
