use Rattle.std.proofs.Common.{◌≡◌, ◌+◌, drop, ◌∙◌, sym, ap, arith}
use Rattle.tp_cpu.proofs.Lower.{slice_get_within, wrap, offset}
use Rattle.tp_cpu.specs.Decoding.{reads_on}
use Rattle.tp_cpu.proofs.Ahead.{through_byte, no_bytes_from, next_offset}
use Rattle.tp_cpu.proofs.fetch.fetch.Goals as goal

pub returns-in-Some-feed : goal.returns-in-Some-feed
returns-in-Some-feed g c =
    let bytes = g.M.Mem.bytes c.args.mem.now in
    let at = offset c.loop-byte.at in
    through_byte (reads_on c.loop-byte.decoder) bytes at c.in-Some.byte _ _ (sym c.in-Some.ensures.value)
    (c.in-Some-feed.ensures.answer (drop (at + 1) bytes)) c.loop-byte.invariant

pub loop-byte-preserved : goal.loop-byte-preserved
loop-byte-preserved g c =
    let bytes = g.M.Mem.bytes c.args.mem.now in
    let at = offset c.loop-byte.at in
    let within = slice_get_within bytes at c.in-Some.byte (sym c.in-Some.ensures.value) in
    let next : offset (wrap (c.loop-byte.at + 1)) ≡ at + 1 = next_offset c.loop-byte.at (omega (arith, within, c.in-Some.ensures.bounded)) in
    rw next
    (through_byte (reads_on c.loop-byte.decoder) bytes at c.in-Some.byte _ _ (sym c.in-Some.ensures.value)
    (c.in_default-feed.ensures.answer (drop (at + 1) bytes)) c.loop-byte.invariant)

pub returns : goal.returns
returns g c =
    let bytes = g.M.Mem.bytes c.args.mem.now in
    let none = no_bytes_from bytes (offset c.loop-byte.at) (sym c.in_default.ensures.value) in
    ap (reads_on c.loop-byte.decoder) (sym none) ∙ c.loop-byte.invariant
