use Rattle.std.proofs.Common.{inr, map, option_copied}
use Rattle.tp_views.specs.Maps.{rows_seen}
use Rattle.tp_views.specs.Traced.{node_traced}
use Rattle.tp_views.proofs.Traces.{whole_front}
use Rattle.tp_views.proofs.trace.tracing.trace_on.Goals as goal

pub returns-in-Ok-clause-front : goal.returns-in-Ok-clause-front
returns-in-Ok-clause-front g c =
    let was = g.O.Write.contents c.args.out.now in
    let now = g.O.Write.contents c.trace.new.out in
    let lines = c.in-Ok.ensures in
    inr (lines.node, lines.is, whole_front was now (node_traced (rows_seen c.args.rows.now) c.args.stops c.args.steps (map option_copied c.args.others) lines.node) lines.shown)
