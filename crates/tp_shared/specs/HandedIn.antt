-- What the host hands in: bytes for ports, and that it has outputs.
use Rattle.std.specs.Prelude.{List, [], ◌∷◌}
use Rattle.tp_shared.specs.Lower.{Entry, Run, Take, HostIn, Confirm, Turn}

-- the entries that bring in bytes or confirm outputs, in order; turns make all others
abbrev pub handed : List Entry → List Entry
handed [] = []
handed (Run i k ∷ es) = handed es
handed (Take line token ∷ es) = handed es
handed (HostIn p x ∷ es) = HostIn p x ∷ handed es
handed (Confirm p upto ∷ es) = Confirm p upto ∷ handed es
handed (Turn i links k ∷ es) = handed es
