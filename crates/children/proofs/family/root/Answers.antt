-- `family::root` meets its contract: e with the bound of all stops (`KidLaws`).
use native.Mathlib.Omega.{arith}
use Rattle.stops.proofs.SetBits.{all_small}
use Rattle.children.specs.Code.{bounded}
use Rattle.children.proofs.KidLaws.{root_made}
use Rattle.children.proofs.family.root.Goals as goal

pub ahead-requires : goal.ahead-requires
ahead-requires c =
    let rows = c.requires in
    (omega arith, (omega (arith, all_small _ rows.few), rows.cheap))

pub returns : goal.returns
unfolding bounded
returns c =
    root_made c.requires _ _ c.empty-x.ensures c.ahead.ensures

pub overflow_sub-setting : goal.overflow_sub-setting
overflow_sub-setting c = omega (arith, all_small _ c.requires.few)
