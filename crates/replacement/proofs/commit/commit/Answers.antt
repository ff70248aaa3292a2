-- `commit` meets its contract: each part meets what the next asks, and the last leaves what is asked of all.
use Rattle.records.specs.Code.{records}
use Rattle.replacement.proofs.CommitLaws.{tidiable, roomy, committed}
use Rattle.replacement.proofs.commit.commit.Goals as goal

pub tidied-tidy-requires : goal.tidied-tidy-requires
tidied-tidy-requires c =
    let a = c.args in
    tidiable (records a.w.now) a.p a.i a.change (records a.kids.now) c.requires.0.1 c.requires.1.1
    (records c.cleared-lighter.new.w) c.cleared-lighter.result c.cleared-lighter.new.index c.cleared-lighter.ensures

pub held-with_b-requires : goal.held-with_b-requires
held-with_b-requires c =
    let a = c.args in
    roomy (records a.w.now) a.p a.i a.change (records a.kids.now) c.requires.0.1 c.requires.1.1
    (records c.cleared-lighter.new.w) c.cleared-lighter.result c.cleared-lighter.new.index c.cleared-lighter.ensures
    (records c.tidied-tidy.new.w) c.tidied-tidy.result c.tidied-tidy.new.index c.tidied-tidy.ensures.0 c.tidied-tidy.ensures.1
    a.b c.requires.1.0

pub returns : goal.returns
returns c =
    let a = c.args in
    committed (records a.w.now) a.p a.i a.change (records a.kids.now) c.requires.0.1 c.requires.1.1
    (records c.cleared-lighter.new.w) c.cleared-lighter.result c.cleared-lighter.new.index c.cleared-lighter.ensures
    (records c.tidied-tidy.new.w) c.tidied-tidy.result c.tidied-tidy.new.index c.tidied-tidy.ensures.0 c.tidied-tidy.ensures.1
    a.b (records c.held-with_b.new.w) c.held-with_b.result c.held-with_b.new.index c.held-with_b.ensures
    (records c.joined.new.w) c.joined.result c.joined.new.index c.joined.ensures
