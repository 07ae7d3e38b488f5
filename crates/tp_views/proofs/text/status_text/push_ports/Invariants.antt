use Rattle.std.proofs.Common.{◌≡◌, ◌++◌, string_bytes, drop, map}
use Rattle.tp_views.specs.Status.{ports_text}
use Rattle.tp_views.proofs.text.status_text.push_ports.Given as goal

abbrev pub invariant-loop-number : goal.invariant-loop-number
invariant-loop-number l =
    string_bytes l.text ++ ports_text l.json l.number l.fn.at l.fn.before (map (λ port. port.port) (drop l.number l.ports))
    ≡ string_bytes l.fn.text ++ ports_text l.fn.json 0 l.fn.at l.fn.before (map (λ port. port.port) l.fn.ports)
