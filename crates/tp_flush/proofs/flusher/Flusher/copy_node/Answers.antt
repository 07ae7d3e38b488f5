use Rattle.tp_flush.proofs.Goings.{goes_then, went_then}
use Rattle.tp_flush.proofs.Imaging.{stay_same, stay_then, stay_with}
use Rattle.tp_flush.proofs.flusher.Flusher.copy_node.Goals as goal

pub returns-clause-tried : goal.returns-clause-tried
returns-clause-tried g c = went_then c.args.self.now c.copy_image.new.self c.let_go.new.self c.in_ok-copy_image.ensures.tried c.let_go.ensures.went

pub returns-clause-goes : goal.returns-clause-goes
returns-clause-goes g c =
    goes_then g.J.Naming.formatted g.J.Naming.before c.args.self.now c.copy_image.new.self c.let_go.new.self c.copy_image.ensures.goes c.let_go.ensures.goes

pub returns-clause-stay : goal.returns-clause-stay
returns-clause-stay g c =
    stay_then c.args.self.now.progress c.copy_image.new.self.progress c.let_go.new.self.progress
    (stay_same c.args.self.now.progress c.copy_image.new.self.progress c.copy_image.ensures.same)
    (stay_with c.copy_image.new.self.progress c.let_go.new.self.progress c.args.node c.let_go.ensures.out c.let_go.ensures.is)
