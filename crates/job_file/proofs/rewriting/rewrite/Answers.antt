-- `rewrite` meets its contract: what `read` returned, as it is handed on, is what the file holds. That the file holds bytes alone is what a
-- slice of them says of its elements.
use native.Mathlib.Omega.{arith}
use Rattle.job_format.specs.Bytes.{AllBytes}
use Rattle.job_file.proofs.Returns.{Accepted, accepted}
use Rattle.job_file.proofs.RewriteLaws.{slice_bytes, rewritten_refused, rewritten}
use Rattle.job_file.proofs.rewriting.rewrite.Goals as goal
use Rattle.job_file.proofs.rewriting.rewrite.Goals.{After-read-reading, Else-reading-ne0}

found : (c : Else-reading-ne0) → Accepted c.args.file.now c.read-reading.result
found c = accepted _ _ c.read-reading.ensures c.if-reading-ne0.false

file-bytes : (c : After-read-reading) → AllBytes c.args.file.now
file-bytes c = slice_bytes _ (λ k. omega (arith, c.type_inv.file k))

pub returns-then-reading-ne0 : goal.returns-then-reading-ne0
returns-then-reading-ne0 c = rewritten_refused _ _ c.read-reading.ensures _ c.if-reading-ne0.true

pub shared_ref_as_front-table : goal.shared_ref_as_front-table
shared_ref_as_front-table c = omega (arith, (found (goal.at.shared_ref_as_front-table c).Else-reading-ne0).table, c.area.ensures.0)

pub shared_ref_as_front-start : goal.shared_ref_as_front-start
shared_ref_as_front-start c = omega (arith, (found (goal.at.shared_ref_as_front-start c).Else-reading-ne0).start)

pub returns : goal.returns
returns c =
    rewritten _ _ c.read-reading.ensures _ c.if-reading-ne0.false (file-bytes (goal.at.returns c).After-read-reading) _ _ _ c.area.ensures.0 c.write.ensures

pub area-requires : goal.area-requires
area-requires c = (found (goal.at.area-requires c).Else-reading-ne0).few
