use Rattle.std.proofs.Common.{◌∙◌}
use Rattle.tp_recover.proofs.Leaving.{then_leaves}
use Rattle.tp_views.proofs.steady.look.Goals as goal

pub returns-in-Ok-read_fronts-clause-counts : goal.returns-in-Ok-read_fronts-clause-counts
returns-in-Ok-read_fronts-clause-counts g c = record {
  size = c.in-Ok-read_fronts.ensures.counts.size ∙ c.in-Ok.ensures.counts.size;
  failures = c.in-Ok-read_fronts.ensures.counts.failures ∙ c.in-Ok.ensures.counts.failures;
}

pub returns-in-Ok-read_fronts-clause-leaves : goal.returns-in-Ok-read_fronts-clause-leaves
returns-in-Ok-read_fronts-clause-leaves g c =
    then_leaves (g.D.Disk.state c.args.disk.now) (g.D.Disk.state c.read_head.new.disk) (g.D.Disk.state c.read_fronts.new.disk)
    c.read_head.ensures.leaves c.read_fronts.ensures.leaves

pub returns-in-Err-read_fronts-clause-leaves : goal.returns-in-Err-read_fronts-clause-leaves
returns-in-Err-read_fronts-clause-leaves g c =
    then_leaves (g.D.Disk.state c.args.disk.now) (g.D.Disk.state c.read_head.new.disk) (g.D.Disk.state c.read_fronts.new.disk)
    c.read_head.ensures.leaves c.read_fronts.ensures.leaves
