use Rattle.std.proofs.Common.{◌≡◌, ◌*◌, [], refl, sym, ap, subst, ◌∙◌, length, replicate}
use Rattle.tp_law_network.specs.Piece.{Agrees}
use Rattle.tp_replay.specs.declared.pieces.apart.Apart.{Apart}
use Rattle.tp_replay.specs.Copies.{Copies}
use Rattle.tp_replay.specs.Held.{has}
use Rattle.tp_replay.proofs.Rejoined.{host_holds}
use Rattle.tp_replay.proofs.pieces.joins.host_apart.Goals as goal

pub returns : goal.returns
returns c = λ t agrees.
    let h = c.host.inside in
    let was = c.in_ok-lines.lines in
    let to = c.copy_lines.new.to in
    let a : Apart = record { wires = c.lanes.inside.wires; nodes = c.new-2.result; lines = to; ports = h.ports } in
    let same : c.lanes.inside.lines ≡ h.lanes.lines = ap (λ l. l.lines) c.lanes.view_is in
    let many : c.count-count.result ≡ length h.lanes.lines = c.count-count.ensures ∙ ap length same in
    host_holds t h a was (ap (λ l. l.wires) c.lanes.view_is) c.new-2.ensures.items refl (c.in_ok-lines.ensures ∙ ap (λ k. replicate k []) many)
    (subst (λ ls. Copies (4 * h.nodes) (length h.lanes.lines) ls was to) same (subst (λ k. Copies (4 * h.nodes) k c.lanes.inside.lines was to) many c.copy_lines.ensures))
    (subst (λ held. Agrees (has held) t held.network) (sym c.host.view_is) agrees)
