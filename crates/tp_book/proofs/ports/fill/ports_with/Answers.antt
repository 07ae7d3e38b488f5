use Rattle.std.proofs.Common.{◌≤◌, map, sym, ap, subst, ◌∙◌}
use Rattle.std.specs.Prelude.{vec_len}
use Rattle.tp_book.proofs.Lower.{take_all, MAX_HELD}
use Rattle.tp_book.specs.declared.ports.port_parts.PortParts.{PortParts}
use Rattle.tp_book.specs.PortParts.{port_made}
use Rattle.tp_book.specs.Ports.{opened_port}
use Rattle.tp_book.proofs.Lists.{made_more}
use Rattle.tp_book.proofs.ports.fill.ports_with.Goals as goal

pub from_parts-requires-clause-pending : goal.from_parts-requires-clause-pending
from_parts-requires-clause-pending c =
    subst (λ (port : PortParts). vec_len port.pending ≤ MAX_HELD) (sym c.index-parts-port.is) (c.requires.pending c.loop-port.port c.index-parts-port.result c.loop-port-test.true)

pub from_parts-requires-clause-outputs : goal.from_parts-requires-clause-outputs
from_parts-requires-clause-outputs c =
    subst (λ (port : PortParts). vec_len port.outputs ≤ MAX_HELD) (sym c.index-parts-port.is) (c.requires.outputs c.loop-port.port c.index-parts-port.result c.loop-port-test.true)

pub loop-port-preserved : goal.loop-port-preserved
loop-port-preserved c =
    made_more (λ (port : PortParts). opened_port (port_made port)) c.args.parts.now c.loop-port.port c.index-parts-port.result c.loop-port.ports.items c.push.new.self.items c.in_ok-from_parts.field-0
    c.loop-port-test.true c.index-parts-port.is c.loop-port.invariant c.in_ok-from_parts.ensures c.in_ok-push.ensures.items

pub returns : goal.returns
returns c = c.loop-port.invariant ∙ ap (map (λ (port : PortParts). opened_port (port_made port))) (take_all c.loop-port.port c.args.parts.now c.loop-port-test.false)
