use Rattle.std.proofs.Common.{◌≡◌, ◌++◌, string_bytes, drop, map}
use Rattle.tp_views.specs.Shown.{ports_text}
use Rattle.tp_views.proofs.text.shown.push_ports.Given as goal

abbrev pub invariant-loop-number : goal.invariant-loop-number
invariant-loop-number l =
    string_bytes l.text ++ ports_text l.json l.number (map (λ port. port.port) (drop l.number l.ports))
    ≡ string_bytes l.fn.text ++ ports_text l.fn.json 0 (map (λ port. port.port) l.fn.ports)
