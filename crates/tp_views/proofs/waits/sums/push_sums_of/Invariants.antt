use Rattle.std.proofs.Common.{◌≡◌, ◌++◌, string_bytes, drop}
use Rattle.tp_views.specs.Sums.{sums_of}
use Rattle.tp_views.proofs.waits.sums.push_sums_of.Given as goal

abbrev pub invariant-loop-link : goal.invariant-loop-link
invariant-loop-link l = string_bytes l.text ++ sums_of l.nodes (drop l.link-index l.links) ≡ string_bytes l.fn.text ++ sums_of l.nodes l.links
