use Rattle.tp_replay.proofs.Dealt.{dealt_covers}
use Rattle.tp_replay.proofs.pieces.neighbours.dealt_pieces_cover.Goals as goal

pub returns : goal.returns
returns c = dealt_covers
