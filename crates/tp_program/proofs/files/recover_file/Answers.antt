use Rattle.std.proofs.Common.{inr, rules}
use Rattle.tp_program.proofs.Used.{and_more}
use Rattle.tp_program.proofs.files.recover_file.Goals as goal

pub returns-clause-used : goal.returns-clause-used
returns-clause-used g c = inr (record {
  opened = g.D.Disk.state c.in-Ok.disk;
  closed = g.D.Disk.state c.recover_on-status.new.disk;
  read = g.D.Disk.reads c.recover_on-status.new.disk;
  uses = and_more _ _ _ _ _ c.in-Ok.ensures.looked c.leave.ensures.noted;
  between = search rules;
})
