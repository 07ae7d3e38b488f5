use Rattle.std.proofs.Common.{◌++◌, ◌∷◌, [], ap, ◌∙◌, sym, arith, append_assoc, map}
use Rattle.tp_area.proofs.Lower.{map-range_with_len_more, range_with_len, port_wire}
use Rattle.tp_area.proofs.encoding.wires.add_ports.Goals as goal

pub loop-port-preserved : goal.loop-port-preserved
loop-port-preserved c =
    let f = port_wire c.args.nodes c.args.links.now in
    record {
      wires =
          c.push.ensures.items
          ∙ ap (λ ws. ws ++ c.port_wire.result ∷ []) c.loop-port.invariant.wires
          ∙ append_assoc c.args.wires.now.items (map f (range_with_len 0 c.loop-port.port)) (c.port_wire.result ∷ [])
          ∙ ap (λ w. c.args.wires.now.items ++ (map f (range_with_len 0 c.loop-port.port) ++ w ∷ [])) c.port_wire.ensures
          ∙ ap (λ ws. c.args.wires.now.items ++ ws) (sym (map-range_with_len_more f 0 c.loop-port.port c.loop-port.port (omega arith)));
      count = omega arith;
    }
