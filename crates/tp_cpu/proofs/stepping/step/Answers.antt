use Rattle.tp_cpu.proofs.Lower.{LacksFrames, step_of, step_ranges}
use Rattle.tp_cpu.proofs.Asks.{asked_makes, asked_keeps, asked_wants_none}
use Rattle.tp_cpu.proofs.stepping.step.Goals as goal

pub returns-in-Some-clause-makes : goal.returns-in-Some-clause-makes
returns-in-Some-clause-makes g c =
    let was = g.M.Mem.bytes c.args.mem.now in
    asked_makes (step_of c.args.cpu.now was) c.args.cpu.now was c.in-Some.end c.in-Some.ensures

pub returns-in-Some-clause-kept : goal.returns-in-Some-clause-kept
returns-in-Some-clause-kept g c =
    let was = g.M.Mem.bytes c.args.mem.now in
    asked_keeps (step_of c.args.cpu.now was) (g.M.Mem.kept c.args.mem.now) (step_ranges c.args.cpu.now was) c.in-Some.end c.in-Some.ensures

pub returns-in-Some-clause-refusal : goal.returns-in-Some-clause-refusal
returns-in-Some-clause-refusal g c =
    let was = g.M.Mem.bytes c.args.mem.now in
    asked_wants_none (step_of c.args.cpu.now was) (LacksFrames (g.M.Mem.kept c.args.mem.now) (step_ranges c.args.cpu.now was)) c.in-Some.end c.in-Some.ensures
