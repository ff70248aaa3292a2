-- The goals of `cost::along` that the search leaves.
use mathlib.Core.Path.{sym, ◌∙◌}
use Rattle.inspection.proofs.OrderLaws.{stop_same, size_same}
use Rattle.inspection.proofs.PathLaws.{along_starts, along_fits, along_more, along_ends}
use Rattle.inspection.proofs.cost.along.Goals as goal

pub loop-k-init : goal.loop-k-init
loop-k-init c = along_starts (sym (size_same c.args.size 0 c.args.first c.args.second)) c.requires.0

pub overflow_add-path : goal.overflow_add-path
overflow_add-path c =
    record {
      fits =
          rw c.further-path.ensures
          (along_fits c.loop-k.invariant c.requires.1 c.loop-k-test.true c.stop_at-s.result);
    }

pub loop-k-preserved : goal.loop-k-preserved
loop-k-preserved c =
    let a = c.args in
    rw c.further-path.ensures
    (along_more c.loop-k.invariant c.loop-k-test.true
    (c.stop_at-s.ensures.0 ∙ stop_same a.size 0 a.first a.second c.loop-k.k))

pub returns : goal.returns
returns c = along_ends c.loop-k.invariant c.requires.1 c.loop-k-test.false
