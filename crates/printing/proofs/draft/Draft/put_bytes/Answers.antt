-- `put_bytes` meets its contract: the text is that of the bytes written before and of these (`grown`).
use mathlib.Core.List.{◌++◌}
use native.Mathlib.Omega.{arith}
use lib.ListN.{length-append}
use Rattle.printing.proofs.DraftLaws.{begun, grown}
use Rattle.printing.proofs.draft.Draft.put_bytes.Goals as goal

pub invariant_of-self : goal.invariant_of-self
invariant_of-self c =
    let old = c.args.self.now in
    let bytes = c.args.bytes.now in
    begun _ (old ++ bytes) (grown c.self.inside.text old bytes _ _ c.self.invariant c.self.view_is (omega arith) c.copy_from_slice.ensures.after) (omega (arith, length-append old bytes))
