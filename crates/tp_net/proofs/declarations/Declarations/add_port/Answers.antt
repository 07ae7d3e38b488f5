use Rattle.std.proofs.Common.{◌≤◌, ◌<◌, length, sym, ap, ◌∙◌, arith, inr}
use Rattle.tp_net.proofs.Lower.{length-map, MAX_PORTS, Said, is_known}
use Rattle.tp_net.proofs.Declared.{name_none, name_some, port_unnamed, port_known, port_many, port_said, kept_step}
use Rattle.tp_net.proofs.declarations.Declarations.add_port.Goals as goal

pub returns-in_default : goal.returns-in_default
returns-in_default c = inr (port_unnamed c.args.self.now c.args.number c.args.name.now (name_none c.args.name.now c.name_in.result c.name_in.ensures c.in_default.is))

pub returns-then-is_known : goal.returns-then-is_known
returns-then-is_known c =
    let named = name_some c.args.name.now c.name_in.result c.in-Some.name c.name_in.ensures c.in-Some.is in
    inr (port_known c.args.self.now c.args.number c.args.name.now named.0 (ap (is_known c.args.self.now) (sym named.1) ∙ sym c.is_known.ensures ∙ c.if-is_known.true))

pub returns-then-len-ge-MAX_PORTS : goal.returns-then-len-ge-MAX_PORTS
returns-then-len-ge-MAX_PORTS c =
    let named = name_some c.args.name.now c.name_in.result c.in-Some.name c.name_in.ensures c.in-Some.is in
    let many : MAX_PORTS ≤ length c.args.self.now.ports = omega (arith, c.if-len-ge-MAX_PORTS.true, c.len.ensures.len, length-map c.self.inside.ports.keys (λ name. name.now), ap (λ (said : Said). length said.ports) c.self.view_is) in
    inr (port_many c.args.self.now c.args.number c.args.name.now named.0 (ap (is_known c.args.self.now) (sym named.1) ∙ sym c.is_known.ensures ∙ c.if-is_known.false) many)

pub returns : goal.returns
returns c =
    let named = name_some c.args.name.now c.name_in.result c.in-Some.name c.name_in.ensures c.in-Some.is in
    let few : length c.args.self.now.ports < MAX_PORTS = omega (arith, c.if-len-ge-MAX_PORTS.false, c.len.ensures.len, length-map c.self.inside.ports.keys (λ name. name.now), ap (λ (said : Said). length said.ports) c.self.view_is) in
    let said = port_said c.args.self.now c.args.number c.args.name.now named.0 (ap (is_known c.args.self.now) (sym named.1) ∙ sym c.is_known.ensures ∙ c.if-is_known.false) few in
    kept_step _ _ c.keep_port.new.self c.keep_port.result said (rw named.1 at c.keep_port.ensures.ok) c.keep_port.ensures.err
