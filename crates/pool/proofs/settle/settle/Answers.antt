-- `settle` meets its contract: `squeeze`, `resize` of both lanes and `lay_out`, joined by `back_joins`.
use mathlib.Core.Path.{sym}
use native.Mathlib.Omega.{arith}
use Rattle.pool.proofs.BackLaws.{back_below, back_long, back_whole, back_joins}
use Rattle.pool.proofs.settle.settle.Goals as goal

pub resize-requires : goal.resize-requires
resize-requires c =
    let below = back_below _ _ _ _ _ _ c.requires.0 c.requires.1 c.squeeze-active.ensures in
    (omega arith, omega (arith, below, c.squeeze-active.ensures.same_length))

pub resize-requires-2 : goal.resize-requires-2
resize-requires-2 c =
    (omega arith, omega (arith, back_long _ _ _ _ _ _ c.requires.0 c.requires.1 c.squeeze-active.ensures _ c.resize.ensures))

pub lay_out-requires : goal.lay_out-requires
lay_out-requires c = (
  sym
      (back_whole _ _ _ _ _ _ c.requires.0 c.requires.1 c.squeeze-active.ensures _ c.resize.ensures _
      c.resize-2.ensures),
  omega (arith, back_below _ _ _ _ _ _ c.requires.0 c.requires.1 c.squeeze-active.ensures),
)

pub returns : goal.returns
returns c =
    back_joins _ _ _ _ _ _ c.requires.0 c.requires.1 c.squeeze-active.ensures _ c.resize.ensures _
    c.resize-2.ensures _ c.lay_out.ensures
