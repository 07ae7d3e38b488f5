use Rattle.std.proofs.Common.{◌≡◌, ◌++◌, ◌∷◌, [], codes, string_bytes, subst}
use Rattle.tp_trace.specs.Hex.{hex_word}
use Rattle.tp_views.specs.Maps.{rows_seen, spot_text}
use Rattle.tp_views.specs.Stops.{state_text}
use Rattle.tp_views.proofs.Traces.{on_ok}
use Rattle.tp_views.proofs.Workspaces.{until_said}
use Rattle.tp_views.proofs.trace.stops.push_until.Goals as goal

pub returns-clause-text : goal.returns-clause-text
returns-clause-text c =
    let rows = rows_seen c.args.rows.now in
    let at = c.iptr-at.result in
    let state = state_text rows c.args.stops c.args.node.now.live in
    let t0 = string_bytes c.args.text.now in
    let t4 = string_bytes c.push_state.new.text in
    on_ok _ _ c.push_state.result
    (λ said. subst (λ at. t4 ≡ t0 ++ (codes "stop until " ++ (hex_word at ++ (spot_text [] rows at ++ (10 ∷ [] ++ state))))) c.iptr-at.ensures
    (until_said (codes "stop until ") (hex_word at) (spot_text [] rows at) (10 ∷ []) state t0 (string_bytes c.push_parts.new.text) (string_bytes c.push_spot.new.text) (string_bytes c.push_str.new.self) t4
    c.in_ok-push_parts.ensures c.in_ok-push_spot.ensures c.in_ok-push_str.ensures.bytes said))
    c.push_state.ensures.text
