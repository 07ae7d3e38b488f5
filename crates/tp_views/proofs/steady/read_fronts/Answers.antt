use Rattle.std.proofs.Common.{◌∙◌}
use Rattle.tp_recover.proofs.Leaving.{then_leaves}
use Rattle.tp_views.proofs.steady.read_fronts.Goals as goal

pub returns-clause-counts : goal.returns-clause-counts
returns-clause-counts g c = record {
  size = c.in-Ok-read_front-2.ensures.counts.size ∙ c.in-Ok-read_front.ensures.counts.size ∙ c.in-Ok.ensures.counts.size;
  failures = c.in-Ok-read_front-2.ensures.counts.failures ∙ c.in-Ok-read_front.ensures.counts.failures ∙ c.in-Ok.ensures.counts.failures;
}

pub returns-clause-leaves : goal.returns-clause-leaves
returns-clause-leaves g c =
    then_leaves _ _ _ (then_leaves _ _ _ c.read_front.ensures.leaves c.read_front-2.ensures.leaves) c.read_front-3.ensures.leaves

pub returns-in_default-read_front-clause-leaves : goal.returns-in_default-read_front-clause-leaves
returns-in_default-read_front-clause-leaves g c = then_leaves _ _ _ c.read_front.ensures.leaves c.read_front-2.ensures.leaves

pub returns-in_default-read_front-2-clause-leaves : goal.returns-in_default-read_front-2-clause-leaves
returns-in_default-read_front-2-clause-leaves g c =
    then_leaves _ _ _ (then_leaves _ _ _ c.read_front.ensures.leaves c.read_front-2.ensures.leaves) c.read_front-3.ensures.leaves
