use Rattle.std.proofs.Common.{◌∙◌}
use Rattle.tp_replay.proofs.Lower.{carries, node_took, takes_ok}
use Rattle.tp_replay.proofs.pieces.turns.take_one.Goals as goal

pub returns-in-Ok-Some-clause-live : goal.returns-in-Ok-Some-clause-live
returns-in-Ok-Some-clause-live c =
    let did = takes_ok _ _ c.args.link c.args.node.now.live c.take.new.self.live _ c.in-Ok-Some.ensures.takes in
    record {
      bytes = (node_took c.args.node.now.live c.args.link c.args.token _ c.requires.live.bytes (carries c.args.token c.carries_byte.ensures) did).0;
      thawed = c.in-Ok-Some.ensures.kept ∙ c.requires.live.thawed;
    }

pub returns-in-Ok-None-clause-live : goal.returns-in-Ok-None-clause-live
returns-in-Ok-None-clause-live c =
    let did = takes_ok _ _ c.args.link c.args.node.now.live c.take.new.self.live _ c.in-Ok-None.ensures.takes in
    record {
      bytes = (node_took c.args.node.now.live c.args.link c.args.token _ c.requires.live.bytes (carries c.args.token c.carries_byte.ensures) did).0;
      thawed = c.in-Ok-None.ensures.kept ∙ c.requires.live.thawed;
    }
