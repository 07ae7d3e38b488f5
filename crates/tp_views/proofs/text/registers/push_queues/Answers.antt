use Rattle.std.proofs.Common.{codes, string_bytes}
use Rattle.tp_views.specs.Fields.{fields_text}
use Rattle.tp_views.specs.NodeText.{queue_fields, state_fields}
use Rattle.tp_views.proofs.Joined.{joined_three, on_ok}
use Rattle.tp_views.proofs.text.registers.push_queues.Goals as goal

pub returns : goal.returns
returns c =
    let cpu = c.args.cpu.now in
    let high = fields_text c.args.json (queue_fields (codes "high front ") (codes ",\"high\":{\"front\":") cpu.high) in
    let low = fields_text c.args.json (queue_fields (codes "low front ") (codes ",\"low\":{\"front\":") cpu.low) in
    let rest = fields_text c.args.json (state_fields cpu.regs.error cpu.state cpu.slice) in
    on_ok _ _ c.push_state.result
    (λ last. joined_three (string_bytes c.args.text.now) high low rest (string_bytes c.push_queue.new.text) (string_bytes c.push_queue-2.new.text) (string_bytes c.push_state.new.text) c.in_ok-push_queue.ensures c.in_ok-push_queue-2.ensures last)
    c.push_state.ensures
