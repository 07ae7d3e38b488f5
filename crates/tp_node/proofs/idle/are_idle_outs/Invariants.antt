use Rattle.std.proofs.Common.{◌≡◌, ◌+◌, ◌-◌, ◌*◌, drop}
use Rattle.tp_node.proofs.Lower.{list_all, out_end_at, ends_at, is_idle_out}
use Rattle.tp_node.proofs.idle.are_idle_outs.Given as goal

abbrev pub invariant-loop-link : goal.invariant-loop-link
invariant-loop-link l = list_all is_idle_out (ends_at out_end_at (4 - l.link) (drop (44 + 16 * l.link) l.image)) ≡ list_all is_idle_out (ends_at out_end_at 4 (drop 44 l.image))
