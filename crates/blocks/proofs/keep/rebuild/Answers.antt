-- `rebuild` meets its contract: all records join the cleared minima.
use native.Mathlib.Nat.{one-le-pow}
use native.Mathlib.Omega.{arith}
use Rattle.records.specs.Code.{records}
use Rattle.blocks.proofs.KeepLaws.{blocked_none, same-on}
use Rattle.blocks.proofs.keep.rebuild.Goals as goal

pub note-requires : goal.note-requires
note-requires c =
    let a = c.args in
    let clear = c.clear in (
      blocked_none (records a.w.now) _ _ (one-le-pow a.shift 2 (omega arith)) (omega (arith, clear.ensures.1.same_length, c.requires.0))
          clear.ensures.0,
      (omega arith, (c.requires.1.0, (c.requires.1.1.0, c.requires.1.1.1))),
    )

pub returns : goal.returns
returns c =
    let note = c.note in
    let clear = c.clear in
    (note.ensures.0, same-on _ _ _ clear.ensures.1 note.ensures.1)
