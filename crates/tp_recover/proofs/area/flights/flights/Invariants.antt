use Rattle.std.proofs.Common.{◌≡◌, ◌+◌, ◌*◌, ◌-◌, length}
use Rattle.tp_recover.proofs.Lower.{LINE_BYTES, t414_ends, flights_in}
use Rattle.tp_recover.specs.Parts.{network_of_parts}
use Rattle.tp_recover.proofs.area.flights.flights.Given as goal

abbrev pub invariant-loop-line : goal.invariant-loop-line
invariant-loop-line l =
    flights_in t414_ends (network_of_parts l.parts) (l.at + LINE_BYTES * l.line) l.line (length l.parts.wires.now - l.line)
    ≡ flights_in t414_ends (network_of_parts l.parts) l.at 0 (length l.parts.wires.now)
