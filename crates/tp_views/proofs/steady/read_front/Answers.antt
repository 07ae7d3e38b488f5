use Rattle.std.proofs.Common.{is_ok}
use Rattle.tp_views.proofs.Lower.{read_kept, read_true, area_front-part, read_leaves}
use Rattle.tp_views.proofs.steady.read_front.Goals as goal

pub returns-in-Ok-clause-is : goal.returns-in-Ok-clause-is
returns-in-Ok-clause-is g c k =
    let xs = (g.D.Disk.state c.args.disk.now).now.bytes in
    let read = read_true c.args.start 9 c.read.new.out xs _ _ c.read.auto.out c.in-Ok.ensures.noted k in
    let part = area_front-part c.args.start xs in
    cc (c.area_front.ensures)

pub returns-in-Ok-clause-leaves : goal.returns-in-Ok-clause-leaves
returns-in-Ok-clause-leaves g c =
    read_leaves c.read.result (g.D.Disk.state c.args.disk.now) (g.D.Disk.state c.read.new.self) c.read.ensures.goes c.read.ensures.after c.read.ensures.failed

pub returns-in-Err-clause-leaves : goal.returns-in-Err-clause-leaves
returns-in-Err-clause-leaves g c =
    read_leaves c.read.result (g.D.Disk.state c.args.disk.now) (g.D.Disk.state c.read.new.self) c.read.ensures.goes c.read.ensures.after c.read.ensures.failed

pub returns-in-Ok-clause-premise : goal.returns-in-Ok-clause-premise
returns-in-Ok-clause-premise g c = read_kept (is_ok c.read.result) c.args.start c.read.new.out (g.D.Disk.state c.args.disk.now).now.bytes _ _ c.read.ensures.noted

pub returns-in-Err-clause-premise : goal.returns-in-Err-clause-premise
returns-in-Err-clause-premise g c = read_kept (is_ok c.read.result) c.args.start c.read.new.out (g.D.Disk.state c.args.disk.now).now.bytes _ _ c.read.ensures.noted
