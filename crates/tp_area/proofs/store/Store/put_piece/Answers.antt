use Rattle.tp_area.proofs.StoreCrashes.{rests_leaves}
use Rattle.tp_area.proofs.store.Store.put_piece.Goals as goal

pub returns-then-self-clause-leaves : goal.returns-then-self-clause-leaves
returns-then-self-clause-leaves g c k h rests = rests_leaves h (g.D.Disk.state c.args.self.now.disk) rests

pub returns-then-at-bytes-clause-leaves : goal.returns-then-at-bytes-clause-leaves
returns-then-at-bytes-clause-leaves g c k h rests = rests_leaves h (g.D.Disk.state c.args.self.now.disk) rests
