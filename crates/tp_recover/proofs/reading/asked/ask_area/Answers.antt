use Rattle.tp_recover.proofs.Areas.{area_front-part}
use Rattle.tp_recover.proofs.Leaving.{read_leaves}
use Rattle.std.proofs.Common.{is_ok}
use Rattle.tp_disk.proofs.Readings.{read_kept, read_true}
use Rattle.tp_recover.proofs.reading.asked.ask_area.Goals as goal

pub returns-in-Ok-clause-is : goal.returns-in-Ok-clause-is
returns-in-Ok-clause-is g c k =
    let xs = (g.D.Disk.state c.args.source.now).now.bytes in
    let read = read_true c.args.start _ c.read.new.out xs _ _ c.read.auto.out c.in-Ok.ensures.noted k in
    let part = area_front-part c.args.start xs in
    cc (c.area_front-front.ensures)

pub returns-in-Ok-clause-leaves : goal.returns-in-Ok-clause-leaves
returns-in-Ok-clause-leaves g c =
    read_leaves c.read.result (g.D.Disk.state c.args.source.now) (g.D.Disk.state c.read.new.self) c.read.ensures.goes c.read.ensures.after c.read.ensures.failed

pub returns-in-Err-clause-leaves : goal.returns-in-Err-clause-leaves
returns-in-Err-clause-leaves g c =
    read_leaves c.read.result (g.D.Disk.state c.args.source.now) (g.D.Disk.state c.read.new.self) c.read.ensures.goes c.read.ensures.after c.read.ensures.failed

pub returns-in-Ok-clause-premise : goal.returns-in-Ok-clause-premise
returns-in-Ok-clause-premise g c = read_kept (is_ok c.read.result) c.args.start c.read.new.out (g.D.Disk.state c.args.source.now).now.bytes _ _ c.read.ensures.noted

pub returns-in-Err-clause-premise : goal.returns-in-Err-clause-premise
returns-in-Err-clause-premise g c = read_kept (is_ok c.read.result) c.args.start c.read.new.out (g.D.Disk.state c.args.source.now).now.bytes _ _ c.read.ensures.noted
