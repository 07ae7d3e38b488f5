use Rattle.std.proofs.Common.{◌+◌, sym, ap, length}
use Rattle.tp_replay.proofs.pieces.nodes_part.NodesPart.known.Goals as goal

pub returns : goal.returns
returns c = (c.self.inside.before + length c.self.inside.nodes.items, ap (λ held. held.past) (sym c.self.view_is))
