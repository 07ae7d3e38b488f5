-- What ports have counted.
use Rattle.std.specs.Prelude.{◌≡◌, ◌≤◌, ℕ, ◌+◌, List, length, Some, slice_get}
use Rattle.tp_model.specs.Network.{Port}

-- a port has counted at most as much as there are entries
pub record IsCounted (next : ℕ) (port : Port) : Type 0 where
  pub inputs : port.in_base ≤ next
  pub outputs : port.out_base + length port.outputs ≤ next

-- each port has counted at most as much as there are entries
abbrev pub AreCounted : ℕ → List Port → Type 0
AreCounted next ports = (p : ℕ) (port : Port) → slice_get ports p ≡ Some port → IsCounted next port
