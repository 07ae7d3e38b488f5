use Rattle.std.proofs.Common.{◌≡◌, ◌∙◌, ◌++◌, ap, string_bytes, subst, sym, bytes_eq, IfOk}
use Rattle.tp_views.proofs.Lower.{NodeContents, Attended, attended, Linked}
use Rattle.tp_views.specs.Maps.{rows_seen}
use Rattle.tp_views.specs.Stops.{watched}
use Rattle.tp_views.specs.Traced.{Happens, PassesText, event, moment_by, text_behind}
use Rattle.tp_views.proofs.Moments.{happened, if_both}
use Rattle.tp_views.proofs.trace.tracing_lines.push_happening.Goals as goal

pub returns-then-branch-clause-passes : goal.returns-then-branch-clause-passes
returns-then-branch-clause-passes c =
    let rows = rows_seen c.args.rows.now in
    let stops = c.args.stops in
    let linked = c.args.linked.now in
    let was = attended linked in
    let now = attended c.push_event.new.linked in
    let there = event stops.lines rows c.args.number was in
    let old = string_bytes c.args.text.now in
    let mid = string_bytes c.push_event.new.text in
    let new = string_bytes c.push_behind.new.text in
    let others = c.push_event.new.linked.others in
    let begun : record { node = c.watched.new.node; others = linked.others } ≡ linked =
    ap (λ (x : NodeContents). record { node = x; others = linked.others }) c.in_ok-before.ensures.same in
    let happens = subst (λ (l : Linked). Happens c.in_ok-push_event.field-0 (event stops.lines rows c.args.number (attended l)) (attended l) now old mid) begun c.in_ok-push_event.ensures.happens in
    let did = subst (λ did. Happens did there was now old mid) c.if-branch.true happens in
    let before = c.as_slice.ensures.value ∙ c.in_ok-before.ensures.bytes in
    let done = if_both (λ goes. goes ≡ bytes_eq c.as_slice.result.now (watched stops.watch c.push_event.new.linked.node.live)) (λ goes. new ≡ mid ++ text_behind goes rows stops c.push_event.new.linked.node.live)
    (λ goes. PassesText (moment_by rows stops linked.node.live there) goes now old new) c.push_behind.result
    (λ goes tested said. happened rows stops linked.node.live there was now goes old mid new did
    (tested ∙ ap (λ bytes. bytes_eq bytes (watched stops.watch c.push_event.new.linked.node.live)) before) said)
    c.push_behind.ensures.goes c.push_behind.ensures.text in
    subst (λ (x : NodeContents). IfOk c.push_behind.result (λ goes. PassesText (moment_by rows stops linked.node.live there) goes (attended (record { node = x; others = others })) old new))
    (sym c.push_behind.ensures.same) done
