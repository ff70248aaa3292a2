-- `latest_open` meets its contract: the latest open node with any bound, or the latest node.
use native.Mathlib.Omega.{arith}
use Rattle.records.specs.Code.{records}
use Rattle.blocks.proofs.SelectLaws.{prefers_any, some_live}
use Rattle.selection.proofs.ChooseLaws.{chosen_open, chosen_complete}
use Rattle.selection.proofs.latest_open.Goals as goal

pub returns-in-Some : goal.returns-in-Some
returns-in-Some c =
    let first = c.in-Some.ensures in
    chosen_open (records c.args.w.now) c.args.used c.requires.0 c.args.n prefers_any c.in-Some.i first.among.1 first.opens
    (λ j inside b. first.before j (omega arith, inside) b)

pub last_before-requires : goal.last_before-requires
last_before-requires c =
    let (i, (inside, live)) = some_live (records c.args.w.now) c.args.used c.requires.0 c.requires.1 in
    (c.requires.0, (i, (inside, omega arith)))

pub returns-in-None : goal.returns-in-None
returns-in-None c =
    let a = c.args in
    let (inside, (within, behind)) = c.last_before.ensures in
    chosen_complete (records a.w.now) a.used c.requires.0 a.n prefers_any c.last_before.result
    (record { inside = inside; within = within; before = λ j h b. behind j b h })
    (λ j h. c.in-None.ensures j (omega arith, h))
