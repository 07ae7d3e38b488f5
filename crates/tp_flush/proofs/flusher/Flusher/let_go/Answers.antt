use Rattle.std.proofs.Common.{ap, subst, sym, ◌∙◌, get_or}
use Rattle.tp_flush.proofs.Lower.{content_beside, Topology}
use Rattle.tp_flush.specs.declared.progress.Progress.{Progress}
use Rattle.tp_flush.specs.Copying.{IsPartOut}
use Rattle.tp_flush.specs.Progress.{with_out}
use Rattle.tp_flush.proofs.Goings.{goes_then, went_then}
use Rattle.tp_flush.proofs.Standing.{part_looked}
use Rattle.tp_flush.proofs.flusher.Flusher.let_go.Goals as goal

pub put_out-requires-clause-rests : goal.put_out-requires-clause-rests
put_out-requires-clause-rests g c = c.drop_pages.ensures.went.waits.rested.rests

pub put_out-requires-clause-stands : goal.put_out-requires-clause-stands
put_out-requires-clause-stands g c k =
    let a = c.args.self.now in
    let b = c.drop_pages.new.self in
    let E = c.drop_pages.ensures in
    subst (λ (t : Topology). IsPartOut b.topology b.world.net (content_beside b.place b.state) c.args.node (get_or t.pages c.args.node 0)) (sym E.goes.process.topology)
    (part_looked a b E.went E.same.0 E.goes.process.topology c.args.node (get_or a.topology.pages c.args.node 0) (c.requires.stands (E.goes.premise k)))

pub put_out-requires-clause-gone : goal.put_out-requires-clause-gone
put_out-requires-clause-gone g c =
    let H = c.requires.recorded in
    record { recorded = (H.0, c.drop_pages.ensures.went.frozen c.args.node H.0 H.1); none = c.drop_pages.ensures.gone }

pub returns-clause-went : goal.returns-clause-went
returns-clause-went g c = went_then c.args.self.now c.drop_pages.new.self c.put_out.new.self c.drop_pages.ensures.went c.put_out.ensures.went

pub returns-clause-out : goal.returns-clause-out
returns-clause-out g c = c.put_out.ensures.out ∙ ap (λ (p : Progress). with_out p c.args.node) c.drop_pages.ensures.same.1

pub returns-clause-goes : goal.returns-clause-goes
returns-clause-goes g c =
    goes_then g.J.Naming.formatted g.J.Naming.before c.args.self.now c.drop_pages.new.self c.put_out.new.self c.drop_pages.ensures.goes c.put_out.ensures.goes
