-- `begun` meets its contract: e is the only node that is active, and the counts are those of the start.
use Rattle.planner.proofs.StartLaws.{hold_ready, rank_ready, start-shown}
use Rattle.planner.proofs.run.begun.Goals as goal

pub hold-requires : goal.hold-requires
hold-requires c =
    hold_ready c.args.setting c.args.w.now c.requires.1.0 c.requires.1.1 c.requires.0.1.1
    c.active_lane.ensures

pub reranked-requires : goal.reranked-requires
reranked-requires c =
    rank_ready c.args.setting c.args.w.now c.requires.1.0 c.requires.1.1 c.requires.0.1.1
    c.root.result c.active_lane.ensures c.hold.new.w c.hold.ensures.0 c.hold.ensures.1

pub returns : goal.returns
returns c =
    start-shown c.requires.0.0 c.args.start.now c.args.w.now c.hold.new.w c.requires.1.0 c.requires.1.1
    c.requires.0.1.1 c.root.ensures c.active_lane.ensures c.hold.ensures c.reranked.ensures
    c.started-best.ensures
