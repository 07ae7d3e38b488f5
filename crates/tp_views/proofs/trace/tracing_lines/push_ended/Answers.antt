use Rattle.std.proofs.Common.{◌∙◌, ◌++◌, ap, append_assoc, string_bytes}
use Rattle.tp_views.proofs.Lower.{NodeContents, standing, stop_line}
use Rattle.tp_views.specs.Maps.{rows_seen}
use Rattle.tp_views.specs.Stops.{state_if}
use Rattle.tp_views.proofs.Traces.{on_ok}
use Rattle.tp_views.proofs.trace.tracing_lines.push_ended.Goals as goal

pub returns-clause-text : goal.returns-clause-text
returns-clause-text c =
    let rows = rows_seen c.args.rows.now in
    let line = stop_line (standing c.args.node.now.live) in
    let t0 = string_bytes c.args.text.now in
    let state = state_if rows c.args.stops c.push_standing.new.node.live in
    on_ok _ _ c.push_state_if.result
    (λ said. said ∙ ap (λ s. s ++ state) c.in_ok-push_standing.ensures.text ∙ append_assoc t0 line state
    ∙ ap (λ (x : NodeContents). t0 ++ (line ++ state_if rows c.args.stops x.live)) c.in_ok-push_standing.ensures.same)
    c.push_state_if.ensures.text
