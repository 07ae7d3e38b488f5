use Rattle.std.proofs.Common.{◌+◌, ◌*◌, Some, sym, ap, ◌∙◌, arith}
use Rattle.tp_tests_machine.proofs.Lower.{take_rest, out_end_at, in_end_at, IMAGE_HEAD_BYTES}
use Rattle.tp_tests_machine.proofs.Taking.{ack_can_come, data_can_come}
use Rattle.tp_tests_machine.proofs.arrival.can_take.Goals as goal

pub returns-in-Data : goal.returns-in-Data
returns-in-Data c h =
    let bytes = c.args.bytes.now in
    let at = 108 + 16 * c.args.link in
    rw (c.in-Data.is)
    (data_can_come bytes c.args.link c.in-Data.field-0 (omega (arith, c.if-link-ge4.false))
    (λ node j b there memory. c.can_take_data.ensures node j b h
    (there ∙ ap (λ end. Some (in_end_at end)) (sym (take_rest bytes at)) ∙ ap Some (sym c.input_at.ensures))
    (memory ∙ sym (take_rest bytes IMAGE_HEAD_BYTES))))

pub returns-in-Ack : goal.returns-in-Ack
returns-in-Ack c h =
    let bytes = c.args.bytes.now in
    let at = 44 + 16 * c.args.link in
    rw (c.in-Ack.is)
    (ack_can_come bytes c.args.link (omega (arith, c.if-link-ge4.false))
    (λ node j there memory. c.can_take_ack.ensures node j h
    (there ∙ ap (λ end. Some (out_end_at end)) (sym (take_rest bytes at)) ∙ ap Some (sym c.output_at.ensures))
    (memory ∙ sym (take_rest bytes IMAGE_HEAD_BYTES))))
