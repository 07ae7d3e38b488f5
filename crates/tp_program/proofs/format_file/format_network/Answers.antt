use Rattle.std.proofs.Common.{inr, rules}
use Rattle.tp_program.proofs.Used.{and_more}
use Rattle.tp_program.proofs.format_file.format_network.Goals as goal

pub returns-in-Ok-clause-formatted : goal.returns-in-Ok-clause-formatted
returns-in-Ok-clause-formatted g c = inr (record {
  begun = g.N.Disk.state c.in-Ok.disk;
  left = g.N.Disk.state c.format_on-status.new.disk;
  read = g.N.Disk.reads c.format_on-status.new.disk;
  uses = and_more _ _ _ _ _ c.in-Ok.ensures.begun c.finish.ensures.noted;
  between = record {
    formatted = c.format_on-status.ensures.formatted;
    printed = c.format_on-status.ensures.printed;
    front = c.format_on-status.ensures.front;
    said = c.format_on-status.ensures.said;
    leaves = c.format_on-status.ensures.leaves;
  };
})
