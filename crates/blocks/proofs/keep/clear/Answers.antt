-- `clear` meets its contract: the blocks' minima are filled with the bound of gone records, and all else is as it was.
use mathlib.Core.Path.{◌≡◌, ap, ◌∙◌}
use Prim.Native.Nat.{ℕ}
use lib.ListN.{replicate}
use lib.Seq.{length-take-le}
use Rattle.lanes.specs.Sizes.{blocks, gone}
use Rattle.blocks.proofs.KeepLaws.{cleared}
use Rattle.blocks.proofs.keep.clear.Goals as goal

pub returns : goal.returns
returns c =
    let index = c.args.index.now in
    let all : c.fill.new.self ≡ replicate blocks gone =
    c.fill.ensures.after (λ y e. e) ∙ ap (λ (n : ℕ). replicate n gone) (length-take-le blocks index c.requires) in
    let done = cleared blocks index c.requires in
    rw all (done.0, record { same_length = done.1; behind = done.2 })
