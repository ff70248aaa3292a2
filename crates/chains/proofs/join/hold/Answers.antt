-- `hold` meets its contract: what has joined is stored at the place of the lane's next record.
use mathlib.Core.Path.{◌∙◌}
use Prim.Native.Nat.{◌+◌, ◌^◌, ◌<◌}
use native.Mathlib.Omega.{arith}
use lib.ListN.{length}
use Rattle.records.specs.Code.{records}
use Rattle.records.proofs.ViewLaws.{length-records}
use Rattle.chains.proofs.ChainLaws.{place-fits}
use Rattle.chains.proofs.join.hold.Goals as goal

pub overflow_add-c : goal.overflow_add-c
overflow_add-c c =
    let a = c.args in
    let w = a.w.now in
    let fits : a.p.count + 1 < 2 ^ 64 =
    place-fits a.p.end a.p.count (length (records w)) (2 ^ 64) c.requires.0 c.requires.1.0 (omega arith) (omega (arith, length-records w)) in
    omega arith

pub place-requires : goal.place-requires
place-requires c = (omega arith, λ h. omega (arith, c.requires.0 h))

pub returns : goal.returns
returns c =
    (c.store.ensures ∙ rw (c.place.ensures, c.joined.ensures.0), c.joined.ensures.1)
