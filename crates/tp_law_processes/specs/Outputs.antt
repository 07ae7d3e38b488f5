-- All that a port has put out, by the entries alone.
use Rattle.std.specs.Prelude.{ℕ, if◌then◌else◌, List, [], ◌∷◌, flat_map, Option}
use Rattle.tp_law_processes.specs.Lower.{Data, Ack, Marker, WireEnd, Entry, Run, Take, HostIn, Confirm, Turn, Port, receiver, is_at}
use Rattle.tp_law_processes.specs.Queue.{Moved}

-- the byte that comes out of port p by an entry, if one does
abbrev pub byte_out : List (Option WireEnd) → ℕ → Entry → List ℕ
byte_out wires p (Run i k) = []
byte_out wires p (Take line (Data b)) = if is_at p (receiver wires line) then b ∷ [] else []
byte_out wires p (Take line Ack) = []
byte_out wires p (Take line Marker) = []
byte_out wires p (HostIn q x) = []
byte_out wires p (Confirm q upto) = []
byte_out wires p (Turn i links k) = []

-- all bytes that come out of port p by entries, in order
abbrev pub bytes_out : List (Option WireEnd) → ℕ → List Entry → List ℕ
bytes_out wires p es = flat_map (byte_out wires p) es

-- Bytes came out of a port, after those that it had; some of the first ones are confirmed, and the others are there.
abbrev pub Grew : List ℕ → Port → Port → Type 0
Grew more before later = Moved more before.out_base before.outputs later.out_base later.outputs
