-- All that the host hands to a port, by the entries alone.
use Rattle.std.specs.Prelude.{ℕ, ◌==◌, if◌then◌else◌, List, [], ◌∷◌, flat_map}
use Rattle.tp_shared.specs.Lower.{Entry, Run, Take, HostIn, Confirm, Turn}

-- the byte that the host hands to port p by an entry, if it does
abbrev pub byte_in : ℕ → Entry → List ℕ
byte_in p (Run i k) = []
byte_in p (Take line token) = []
byte_in p (HostIn q x) = if q == p then x ∷ [] else []
byte_in p (Confirm q upto) = []
byte_in p (Turn i links k) = []

-- all bytes that the host hands to port p by entries, in order
abbrev pub bytes_in : ℕ → List Entry → List ℕ
bytes_in p es = flat_map (byte_in p) es
