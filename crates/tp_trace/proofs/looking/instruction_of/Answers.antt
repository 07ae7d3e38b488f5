use Rattle.std.proofs.Common.{◌≡◌, ◌∙◌, ◌+◌, drop, sym, ap, arith}
use Rattle.tp_trace.proofs.Lower.{slice_get_within, through_byte, no_bytes_from, next_offset, reads_on, offset, wrap, has_pages}
use Rattle.tp_trace.proofs.looking.instruction_of.Goals as goal

pub returns-in-Some-feed : goal.returns-in-Some-feed
returns-in-Some-feed c =
    let bytes = c.args.node.now.live.memory in
    let at = offset c.loop-byte.at in
    through_byte (reads_on c.loop-byte.decoder) bytes at c.in-Some.byte _ _ (sym c.in-Some.ensures)
    (c.in-Some-feed.ensures.answer (drop (at + 1) bytes)) c.loop-byte.invariant

pub loop-byte-preserved : goal.loop-byte-preserved
loop-byte-preserved c =
    let bytes = c.args.node.now.live.memory in
    let at = offset c.loop-byte.at in
    let within = slice_get_within bytes at c.in-Some.byte (sym c.in-Some.ensures) in
    let pages = has_pages c.args.node.now.live c.requires.bytes.image.keeps in
    let next : offset (wrap (c.loop-byte.at + 1)) ≡ at + 1 = next_offset c.loop-byte.at (omega (arith, within, pages.whole, pages.few)) in
    rw next
    (through_byte (reads_on c.loop-byte.decoder) bytes at c.in-Some.byte _ _ (sym c.in-Some.ensures)
    (c.in_default-feed.ensures.answer (drop (at + 1) bytes)) c.loop-byte.invariant)

pub returns : goal.returns
returns c =
    let bytes = c.args.node.now.live.memory in
    let none = no_bytes_from bytes (offset c.loop-byte.at) (sym c.in_default.ensures) in
    ap (reads_on c.loop-byte.decoder) (sym none) ∙ c.loop-byte.invariant
