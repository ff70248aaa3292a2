-- `area` meets its contract.
use native.Mathlib.Omega.{arith}
use Rattle.job_format.proofs.LayoutLaws.{area_small}
use Rattle.job_file.proofs.layout.area.Goals as goal

pub returns : goal.returns
returns c = (omega arith, omega (arith, area_small c.args.n c.requires))

pub overflow_mul-result : goal.overflow_mul-result
overflow_mul-result c = omega (arith, area_small c.args.n c.requires)
