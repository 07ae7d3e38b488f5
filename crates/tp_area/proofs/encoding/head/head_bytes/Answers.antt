use Rattle.std.proofs.Common.{◌++◌, ap, ◌∙◌, arith, length, length-take}
use Rattle.tp_area.proofs.Lower.{has_shape, end_number-bound, keeps_nodes}
use Rattle.tp_area.proofs.HeadBytes.{head_bytes-put, numbers_low, numbers_room}
use Rattle.tp_area.proofs.encoding.head.head_bytes.Goals as goal

pub slice_bounds-links-end : goal.slice_bounds-links-end
slice_bounds-links-end c =
    let shape = has_shape c.args.topology.now c.pages-pages.ensures.rules in
    omega (arith, shape.lines, ap length c.pages-pages.ensures.value, ap length c.wires.ensures.value, c.link_line.ensures, length-take c.link_line.result c.wires.result.now)

pub end_numbers-numbers-requires-clause-low : goal.end_numbers-numbers-requires-clause-low
end_numbers-numbers-requires-clause-low c i lt =
    let t = c.args.topology.now in
    end_number-bound c.args.version t c.wires.result.now c.link_line.result i (has_shape t c.pages-pages.ensures.rules) (keeps_nodes c.args.version t c.requires.limits) c.wires.ensures.value lt

pub put_numbers-requires : goal.put_numbers-requires
put_numbers-requires c =
    let t = c.args.topology.now in
    let numbers_are = c.as_slice.ensures.value ∙ c.end_numbers-numbers.ensures in
    let room = numbers_room c.args.version t c.wires.result.now c.link_line.result c.as_slice.result.now c.requires.limits (omega (arith, c.link_line.ensures, ap length c.pages-pages.ensures.value)) numbers_are in (
      omega arith,
      (
        omega (arith, c.pad-2.ensures.len, c.ends_place.ensures, room.0),
        numbers_low c.args.version t c.wires.result.now c.link_line.result c.as_slice.result.now c.pages-pages.ensures.rules c.requires.limits c.wires.ensures.value numbers_are,
      ),
    )

pub returns-clause-bytes : goal.returns-clause-bytes
returns-clause-bytes c =
    c.pad-3.ensures.bytes
    ∙ head_bytes-put c.args.version c.args.topology.now c.args.areas c.version_byte.result c.port_count-ports.result c.head_length.result c.ends_place.result c.link_line.result c.pages-pages.result.now c.wires.result.now c.as_slice.result.now
    c.new-out.result.items c.put.new.out.items c.put-2.new.out.items c.pad.new.out.items c.put-3.new.out.items c.put_u16s.new.out.items c.pad-2.new.out.items c.put_numbers.new.out.items
    c.requires.starts c.head_length.ensures.value c.ends_place.ensures c.version_byte.ensures c.pages-pages.ensures.value c.port_count-ports.ensures.value c.wires.ensures.value (omega (arith, c.link_line.ensures))
    (c.as_slice.ensures.value ∙ c.end_numbers-numbers.ensures)
    c.new-out.ensures c.put.ensures.bytes c.put-2.ensures.bytes c.pad.ensures.bytes
    (c.put-3.ensures.bytes ∙ ap (λ xs. c.pad.new.out.items ++ xs) c.to_le_bytes.ensures)
    c.put_u16s.ensures.bytes c.pad-2.ensures.bytes c.put_numbers.ensures.bytes
