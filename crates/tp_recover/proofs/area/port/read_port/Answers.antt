use Rattle.std.proofs.Common.{◌≡◌, ◌∙◌, sym, ap, subst, length, true, Ok}
use Rattle.tp_recover.proofs.Lower.{option_map, record_of, is_port_of, or_damaged}
use Rattle.tp_recover.proofs.Passing.{found_is}
use Rattle.tp_recover.proofs.Ports.{port_read}
use Rattle.tp_recover.proofs.ReadParts.{port_reached}
use Rattle.tp_recover.proofs.area.port.read_port.Goals as goal

pub port_in-requires : goal.port_in-requires
port_in-requires g c = ap length c.deref.ensures.value ∙ c.in_ok-bytes.ensures.len

pub returns-in_default-clause-is : goal.returns-in_default-clause-is
returns-in_default-clause-is g c k =
    port_read c.args.at c.args.base (g.D.Disk.state c.args.disk.now).now.bytes c.deref.result.now (option_map record_of c.port_in.result)
    (c.deref.ensures.value ∙ sym (found_is _ _ (c.in_ok-bytes.ensures.bytes k))) c.port_in.ensures
    ∙ ap (λ o. or_damaged c.args.at (option_map record_of o)) c.in_default.is

pub returns-in-Ok-clause-is : goal.returns-in-Ok-clause-is
returns-in-Ok-clause-is g c k =
    port_read c.args.at c.args.base (g.D.Disk.state c.args.disk.now).now.bytes c.deref.result.now (option_map record_of c.port_in.result)
    (c.deref.ensures.value ∙ sym (found_is _ _ (c.in_ok-bytes.ensures.bytes k))) c.port_in.ensures
    ∙ ap (λ o. or_damaged c.args.at (option_map record_of o)) c.in-Some.is
    ∙ ap Ok (sym c.in-Ok.ensures)

pub returns-in-Ok-clause-port : goal.returns-in-Ok-clause-port
returns-in-Ok-clause-port g c =
    subst (λ p. is_port_of c.args.base p ≡ true) (sym c.in-Ok.ensures) (port_reached c.args.base c.deref.result.now (record_of c.in-Some.port) (sym c.port_in.ensures ∙ ap (option_map record_of) c.in-Some.is))
