use Rattle.std.proofs.Common.{◌≡◌, ◌∙◌, ◌++◌, ℕ, List, Result, Ok, Err, OnOk, ap, append_assoc, cond, is_ok, string_bytes, sym}
use Rattle.tp_views.proofs.Lower.{NodeContents, attended, Linked}
use Rattle.tp_views.specs.Maps.{rows_seen}
use Rattle.tp_views.specs.Stops.{is_until, state_if, until_text}
use Rattle.tp_views.specs.Traced.{event, last_line}
use Rattle.tp_views.proofs.Moments.{other_last}
use Rattle.tp_views.proofs.Traces.{on_ok}
use Rattle.tp_views.proofs.trace.tracing_lines.push_last.Goals as goal

-- what is appended where it is
pushed : {T E : Type 0} (r : Result T E) (now more left : List ℕ) → now ≡ cond (is_ok r) more left → OnOk r (now ≡ more)
pushed (Ok x) now more left is = is
pushed (Err e) now more left is = tt

pub returns : goal.returns
returns c =
    let rows = rows_seen c.args.rows.now in
    let stops = c.args.stops in
    let linked = c.args.linked.now in
    let t0 = string_bytes c.args.text.now in
    let t1 = string_bytes c.push_last_line.new.text in
    let node_is = c.is_until.ensures.same in
    let begun : record { node = c.push_state_if.new.node; others = linked.others } ≡ linked =
    ap (λ (x : NodeContents). record { node = x; others = linked.others }) (c.in_ok-push_state_if.ensures.same ∙ node_is) in
    let line = last_line stops linked.node.live (event stops.lines rows 0 (attended linked)) in
    let state = state_if rows stops linked.node.live in
    let first : t1 ≡ t0 ++ line = c.in_ok-push_last_line.ensures ∙ ap (λ (l : Linked). t0 ++ last_line stops l.node.live (event stops.lines rows 0 (attended l))) begun in
    let behind : c.as_str.result.now ≡ state =
    c.as_str.ensures.value ∙ c.in_ok-push_state_if.ensures.text ∙ ap (λ s. s ++ state_if rows stops c.is_until.new.node.live) c.new-state.ensures.bytes
    ∙ ap (λ (x : NodeContents). state_if rows stops x.live) node_is in
    on_ok _ _ c.push_str.result
    (λ said. other_last (is_until stops linked.node.live) (until_text rows stops linked.node.live) (line ++ state) t0 (string_bytes c.push_str.new.self)
    (sym c.is_until.ensures.is ∙ c.if-is_until.false)
    (said ∙ ap (λ s. t1 ++ s) behind ∙ ap (λ s. s ++ state) first ∙ append_assoc t0 line state))
    (pushed c.push_str.result _ _ _ c.push_str.ensures.bytes)
