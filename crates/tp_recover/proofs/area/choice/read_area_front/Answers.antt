use Rattle.tp_recover.proofs.Areas.{area_front-part}
use Rattle.tp_recover.proofs.area.choice.read_area_front.Goals as goal

pub returns-clause-is : goal.returns-clause-is
returns-clause-is g c k =
    let xs = (g.D.Disk.state c.args.disk.now).now.bytes in
    let read = c.in_ok-bytes.ensures.bytes k in
    let part = area_front-part c.args.start xs in
    cc (c.area_front.ensures)
