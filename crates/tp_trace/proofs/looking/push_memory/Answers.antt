use Rattle.std.proofs.Common.{◌≡◌, ◌∙◌, ◌+◌, ap, arith, drop, length, sym, take}
use Rattle.tp_trace.proofs.Lower.{length_push, slice_get_within, next_offset, offset, wrap, has_pages}
use Rattle.tp_trace.proofs.Bytes.{next_place, one_more}
use Rattle.tp_trace.proofs.looking.push_memory.Goals as goal

pub loop-byte-preserved : goal.loop-byte-preserved
loop-byte-preserved c =
    let memory = c.args.node.now.live.memory in
    let first = offset c.args.from in
    let at = offset c.loop-byte.at in
    let items = c.loop-byte.bytes.items in
    let byte = c.in-Some.byte in
    let within = slice_get_within memory at byte (sym c.in-Some.ensures) in
    let pages = has_pages c.args.node.now.live c.requires.bytes.image.keeps in
    let next : offset (wrap (c.loop-byte.at + 1)) ≡ at + 1 = next_offset c.loop-byte.at (omega (arith, within, pages.whole, pages.few)) in
    let grown = c.in_ok-push.ensures.items in
    let longer : length c.push.new.self.items ≡ length items + 1 = ap length grown ∙ length_push items byte in
    record {
      place = next ∙ next_place first at (length items) (length c.push.new.self.items) c.loop-byte.invariant.place longer;
      items =
          grown ∙ one_more memory items first at byte c.loop-byte.invariant.place c.loop-byte.invariant.items (sym c.in-Some.ensures)
          ∙ ap (λ n. take n (drop first memory)) (sym longer);
      few = omega (arith, longer, c.loop-byte.invariant.few, c.loop-byte-test.true);
    }
