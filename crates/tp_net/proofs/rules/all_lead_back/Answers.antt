use Rattle.std.proofs.Common.{◌∙◌, sym}
use Rattle.tp_net.proofs.Wires.{all_lead_back-fails, all_lead_back-goes_on, all_lead_back_all}
use Rattle.tp_net.proofs.rules.all_lead_back.Goals as goal

pub returns-then-not-leads_back : goal.returns-then-not-leads_back
returns-then-not-leads_back c =
    sym (all_lead_back-fails c.args.nodes c.args.ports c.loop-line.line c.args.wires.now c.leads_back.result c.loop-line-test.true c.leads_back.ensures c.if-not-leads_back.true)
    ∙ c.loop-line.invariant

pub loop-line-preserved : goal.loop-line-preserved
loop-line-preserved c =
    all_lead_back-goes_on c.args.nodes c.args.ports c.loop-line.line c.args.wires.now c.leads_back.result c.loop-line-test.true c.leads_back.ensures c.if-not-leads_back.false
    ∙ c.loop-line.invariant

pub returns : goal.returns
returns c = sym (all_lead_back_all c.args.nodes c.args.ports c.loop-line.line c.args.wires.now c.loop-line-test.false) ∙ c.loop-line.invariant
