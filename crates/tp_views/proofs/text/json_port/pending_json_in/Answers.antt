use Rattle.std.proofs.Common.{◌∙◌, Some, ap, sym, arith, option_map, slice_get}
use Rattle.tp_book.specs.Ports.{PortValue}
use Rattle.tp_views.specs.JsonPort.{pending_json}
use Rattle.tp_views.proofs.Found.{told_at, told_past}
use Rattle.tp_views.proofs.text.json_port.pending_json_in.Goals as goal

pub returns-then-at-ports : goal.returns-then-at-ports
returns-then-at-ports c =
    sym (ap (option_map (pending_json c.args.port))
    (ap (λ zs. slice_get zs c.args.port) (sym c.ports-ports.ensures) ∙ told_past (λ (value : PortValue). value.port) c.ports-ports.result.now c.args.port (omega arith)))

pub returns : goal.returns
returns c =
    ap Some c.in_ok-pending_json.ensures
    ∙ sym (ap (option_map (pending_json c.args.port))
    (ap (λ zs. slice_get zs c.args.port) (sym c.ports-ports.ensures)
    ∙ told_at (λ (value : PortValue). value.port) c.ports-ports.result.now c.args.port c.index-ports-at.result (omega arith) c.index-ports-at.is))
