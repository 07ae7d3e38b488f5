use Rattle.tp_model.specs.Opening.{verdict}
use Rattle.tp_law_device.proofs.Inside.{run_tail_room, run_group_inside}
use Rattle.tp_law_device.proofs.the_copy.entries_find_room.Goals as goal

pub returns-clause-tails : goal.returns-clause-tails
returns-clause-tails c = run_tail_room

pub returns-clause-groups : goal.returns-clause-groups
unfolding verdict
returns-clause-groups c most start events first w F bytes run o es more rests are is = run_group_inside most start events first w F bytes run o es more rests are is
