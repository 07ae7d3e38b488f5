use Rattle.std.proofs.Common.{◌∙◌, ◌++◌, ap, string_bytes, sym}
use Rattle.tp_views.proofs.Lower.{NodeContents, attended}
use Rattle.tp_views.specs.Maps.{rows_seen}
use Rattle.tp_views.specs.Stops.{is_until, until_text}
use Rattle.tp_views.specs.Traced.{event, moment_by}
use Rattle.tp_views.proofs.Moments.{until_passes}
use Rattle.tp_views.proofs.trace.tracing_lines.push_moment.Goals as goal

pub returns-then-is_until-clause-passes : goal.returns-then-is_until-clause-passes
returns-then-is_until-clause-passes c =
    let rows = rows_seen c.args.rows.now in
    let node = c.args.linked.now.node.live in
    let old = string_bytes c.args.text.now in
    until_passes (is_until c.args.stops node) (until_text rows c.args.stops node) (moment_by rows c.args.stops node (event c.args.stops.lines rows c.args.number (attended c.args.linked.now))) _ old
    (string_bytes c.push_until.new.text) (sym c.is_until.ensures.is ∙ c.if-is_until.true)
    (c.in_ok-push_until.ensures.text ∙ ap (λ (x : NodeContents). old ++ until_text rows c.args.stops x.live) c.is_until.ensures.same)
