-- The goals of `open_nodes::first_open` that the search leaves.
use mathlib.Core.Path.{refl}
use mathlib.Core.Logic.{⊎_elim}
use Prim.Native.Nat.{◌/◌, ◌^◌}
use native.Mathlib.Omega.{arith}
use Rattle.lists.proofs.Tests.{compared}
use Rattle.selection.proofs.WalkLaws.{walked_more, walked_all, walked_before, before_block}
use Rattle.selection.proofs.open_nodes.first_open.Goals as goal

pub returns-in-Some : goal.returns-in-Some
returns-in-Some c =
    let a = c.args in
    let width = 2 ^ a.p.shift in
    let first = c.in-Some.ensures in
    let (near, e) = first.among in
    record {
      among = near;
      opens = first.opens;
      before = λ j q b.
          ⊎_elim
          (λ same. first.before j (q, same) b)
          (λ other.
          walked_before a.late 0 c.blocks_of-end.result c.loop-c.c c.nth.result c.nth.ensures _ c.loop-c.invariant
          (j / width) (omega arith) (c.blocks_of-end.ensures.0 j q)
          (before_block a.late width c.requires.0.0.wide j _ c.nth.result b e other) j (q, refl))
          (compared (j / width) c.nth.result);
    }

pub loop-c-preserved : goal.loop-c-preserved
loop-c-preserved c =
    walked_more c.args.late 0 c.blocks_of-end.result c.loop-c.c c.nth.result c.nth.ensures _ c.in_default.ensures c.loop-c.invariant

pub returns : goal.returns
returns c = λ j q.
    walked_all c.args.late 0 c.blocks_of-end.result c.loop-c.c _ (omega arith) c.loop-c.invariant (j / 2 ^ c.args.p.shift) (omega arith)
    (c.blocks_of-end.ensures.0 j q) j (q, refl)
