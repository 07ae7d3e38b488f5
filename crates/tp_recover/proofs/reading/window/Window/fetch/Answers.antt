use Rattle.tp_recover.proofs.Leaving.{none_leaves}
use Rattle.tp_recover.proofs.reading.window.Window.fetch.Goals as goal

pub returns-then-has-clause-leaves : goal.returns-then-has-clause-leaves
returns-then-has-clause-leaves g c = none_leaves (g.D.Disk.state c.args.disk.now)
