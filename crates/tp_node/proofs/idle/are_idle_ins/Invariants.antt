use Rattle.std.proofs.Common.{◌≡◌, ◌+◌, ◌-◌, ◌*◌, drop}
use Rattle.tp_node.proofs.Lower.{list_all, in_end_at, ends_at, is_idle_in}
use Rattle.tp_node.proofs.idle.are_idle_ins.Given as goal

abbrev pub invariant-loop-link : goal.invariant-loop-link
invariant-loop-link l = list_all is_idle_in (ends_at in_end_at (4 - l.link) (drop (108 + 16 * l.link) l.image)) ≡ list_all is_idle_in (ends_at in_end_at 4 (drop 108 l.image))
