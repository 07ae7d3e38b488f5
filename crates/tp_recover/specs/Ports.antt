-- Ports that were read.
use Rattle.std.specs.Prelude.{◌≡◌, true, ℕ, List}
use Rattle.tp_recover.specs.Lower.{AllByRecursion, Port, is_port_of}

-- each is a port of a cut of `base` entries
abbrev pub ArePorts : ℕ → List Port → Type 0
ArePorts base ports = AllByRecursion (λ port. is_port_of base port ≡ true) ports
