use Rattle.tp_stream.proofs.Noting.{confirm_noted, puts_port, puts_up, still_noted}
use Rattle.tp_stream.proofs.pumping.step_output.Goals as goal

pub returns-in-Ok-clause-noted : goal.returns-in-Ok-clause-noted
returns-in-Ok-clause-noted g c outputs place there N =
    let puts = c.step.ensures.puts in
    let R = c.in-Ok.ensures.receipt in
    confirm_noted outputs place c.args.output.now c.step.new.output c.args.held.now.book R.first _ _ _ _ there (puts_port c.args.held.now.book _ _ _ puts) (puts_up c.args.held.now.book _ _ _ puts) R.slips c.in-Ok.ensures.handed N

pub returns-in-Err-Gone-clause-noted : goal.returns-in-Err-Gone-clause-noted
returns-in-Err-Gone-clause-noted g c outputs place there N =
    let puts = c.step.ensures.puts in
    let same = c.in-Err-Gone.ensures.failed in
    still_noted outputs place c.args.output.now c.step.new.output _ _ _ _ there (puts_port c.args.held.now.book _ _ _ puts) (puts_up c.args.held.now.book _ _ _ puts) same.1 same.2 N

pub returns-in-Err-Fault-clause-noted : goal.returns-in-Err-Fault-clause-noted
returns-in-Err-Fault-clause-noted g c outputs place there N =
    let puts = c.step.ensures.puts in
    let same = c.in-Err-Fault.ensures.failed in
    still_noted outputs place c.args.output.now c.step.new.output _ _ _ _ there (puts_port c.args.held.now.book _ _ _ puts) (puts_up c.args.held.now.book _ _ _ puts) same.1 same.2 N
