use Rattle.std.proofs.Common.{◌≡◌, replicate}
use Rattle.tp_book.specs.Ports.{fresh_value}
use Rattle.tp_book.proofs.ports.port.fresh_ports.Given as goal

abbrev pub invariant-loop : goal.invariant-loop
invariant-loop l = l.ports.items ≡ replicate l.counter fresh_value
