use Rattle.std.proofs.Common.{sym, ◌∙◌}
use Rattle.tp_net.proofs.Marked.{marker_here}
use Rattle.tp_net.proofs.line.Line.has_marker.Goals as goal

pub returns-then-is_marker : goal.returns-then-is_marker
returns-then-is_marker c =
    sym (marker_here c.args.self.now c.loop-at.at c.in-Some.token (sym c.get.ensures ∙ c.in-Some.is) c.loop-at.invariant (sym c.is_marker.ensures ∙ c.if-is_marker.true))
