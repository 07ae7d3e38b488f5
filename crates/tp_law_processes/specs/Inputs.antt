-- All that a port has accepted, by the entries alone.
use Rattle.std.specs.Prelude.{◌≡◌, ℕ, List, ◌++◌, length, take}
use Rattle.tp_law_processes.specs.Lower.{Entry, NodeState, Network, Port, bytes_in, port_or_fresh}
use Rattle.tp_law_processes.specs.Queue.{Moved}

-- all bytes that a port has got: what was pending there at the start, and then what entries hand to it
abbrev pub all_in : Network NodeState → ℕ → List Entry → List ℕ
all_in start p es = (port_or_fresh start p).pending ++ bytes_in p es

-- These bytes are the first ones of `all`, as many as they are.
abbrev pub IsFrontOf : List ℕ → List ℕ → Type 0
IsFrontOf all xs = xs ≡ take (length xs) all

-- A port accepted bytes, after those that it had pending; some of the first ones have arrived, and the others are pending.
abbrev pub TookIn : List ℕ → Port → Port → Type 0
TookIn more before later = Moved more before.in_base before.pending later.in_base later.pending
