use Rattle.std.proofs.Common.{◌≡◌, Ok, rules}
use Rattle.tp_model.specs.Opening.{verdict}
use Rattle.tp_views.proofs.waits.inside.has_inside.Goals as goal

pub returns-in-Ok-clause-found : goal.returns-in-Ok-clause-found
returns-in-Ok-clause-found g c keeps =
    let opened = c.in_ok-opened.opened in
    let opens : verdict (g.D.Disk.state c.args.disk.now).now.bytes ≡ Ok opened = search rules in
    (opened, opens, c.in-Ok.ensures)
