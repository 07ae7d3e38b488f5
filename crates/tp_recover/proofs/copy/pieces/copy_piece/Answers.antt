use Rattle.tp_recover.proofs.Leaving.{read_leaves}
use Rattle.std.proofs.Common.{is_ok}
use Rattle.tp_disk.proofs.Readings.{read_kept, read_true}
use Rattle.tp_recover.proofs.copy.pieces.copy_piece.Goals as goal

pub returns-in-Ok-clause-leaves : goal.returns-in-Ok-clause-leaves
returns-in-Ok-clause-leaves g c =
    read_leaves c.read.result (g.D.Disk.state c.args.source.now) (g.D.Disk.state c.read.new.self) c.read.ensures.goes c.read.ensures.after c.read.ensures.failed

pub returns-in-Err-clause-leaves : goal.returns-in-Err-clause-leaves
returns-in-Err-clause-leaves g c =
    read_leaves c.read.result (g.D.Disk.state c.args.source.now) (g.D.Disk.state c.read.new.self) c.read.ensures.goes c.read.ensures.after c.read.ensures.failed

pub returns-in-Ok-clause-premise : goal.returns-in-Ok-clause-premise
returns-in-Ok-clause-premise g c = read_kept (is_ok c.read.result) c.args.at c.read.new.out (g.D.Disk.state c.args.source.now).now.bytes _ _ c.read.ensures.noted

pub returns-in-Err-clause-premise : goal.returns-in-Err-clause-premise
returns-in-Err-clause-premise g c = read_kept (is_ok c.read.result) c.args.at c.read.new.out (g.D.Disk.state c.args.source.now).now.bytes _ _ c.read.ensures.noted
