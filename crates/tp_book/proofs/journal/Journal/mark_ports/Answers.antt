use Rattle.std.proofs.Common.{◌≡◌, length, map, sym, ◌∙◌}
use Rattle.tp_book.proofs.Lower.{length-map, host_markers, host_markers_all}
use Rattle.tp_book.proofs.MarkedLines.{markers_room, markers_fields}
use Rattle.tp_book.proofs.journal.Journal.mark_ports.Goals as goal

pub mark_ports-requires-clause-room : goal.mark_ports-requires-clause-room
mark_ports-requires-clause-room c =
    let few = rw (← c.self.view_is) at c.requires in
    let nodes : c.len.result ≡ length c.self.inside.start.network.nodes = c.len.ensures ∙ sym c.self.invariant.shaped.count in
    let ports : c.len-2.result ≡ length (map (λ p. p.port) c.self.inside.ports.items) = c.len-2.ensures ∙ c.self.inside.ports.ok.0 ∙ sym (length-map c.self.inside.ports.items (λ p. p.port)) in
    rw (c.deref.ensures.value, nodes, ports) (markers_room c.self.inside c.self.invariant (host_markers (length c.self.inside.start.network.nodes) (length (map (λ p. p.port) c.self.inside.ports.items))) (host_markers_all (length c.self.inside.start.network.nodes) (length (map (λ p. p.port) c.self.inside.ports.items))) few)

pub invariant_of-self : goal.invariant_of-self
invariant_of-self c =
    let few = rw (← c.self.view_is) at c.requires in
    let nodes : c.len.result ≡ length c.self.inside.start.network.nodes = c.len.ensures ∙ sym c.self.invariant.shaped.count in
    let ports : c.len-2.result ≡ length (map (λ p. p.port) c.self.inside.ports.items) = c.len-2.ensures ∙ c.self.inside.ports.ok.0 ∙ sym (length-map c.self.inside.ports.items (λ p. p.port)) in
    let on = rw (c.deref.ensures.value, nodes, ports) at c.mark_ports.ensures in
    markers_fields c.self.inside c.self.invariant (host_markers (length c.self.inside.start.network.nodes) (length (map (λ p. p.port) c.self.inside.ports.items))) (host_markers_all (length c.self.inside.start.network.nodes) (length (map (λ p. p.port) c.self.inside.ports.items))) few c.mark_ports.new.lines on
