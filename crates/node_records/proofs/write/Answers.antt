-- `write` meets its contract: inside, x stands at i, and past the end nothing is written.
use mathlib.Core.Path.{refl, sym}
use lib.Seq.{set_out}
use Rattle.node_records.proofs.Indices.{is_inside_lem, is_outside}
use Rattle.node_records.proofs.write.Goals as goal

pub returns-then-i-pool : goal.returns-then-i-pool
returns-then-i-pool c = (sym (is_inside_lem c.args.pool.now c.args.i c.if-i-pool.true), refl)

pub returns : goal.returns
returns c =
    let outside = c.if-i-pool.false in
    (sym (is_outside c.args.pool.now c.args.i outside), sym (set_out c.args.pool.now c.args.i c.args.x outside))
