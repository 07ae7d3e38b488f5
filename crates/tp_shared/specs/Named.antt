-- What is picked for parts that are put under locks.
use Rattle.std.specs.Prelude.{◌≡◌, ℕ, length, Option}
use Rattle.tp_shared.specs.Lower.{NodeState, Network, MarkName, port_in, accepted_of}
use Rattle.tp_shared.specs.Parted.{name_of, PartsValue}

-- What is picked is that of the parts:
-- - the names of the roll, the nodes, the mark, what the flusher is told, what the host hands in and the roll of what is seen of the book;
-- - the number of the first entry;
-- - a network with its wires and its numbers of nodes and ports;
-- - the bytes that groups may fill on the device;
-- - how many bytes each port has accepted.
pub record Names (roll first : ℕ) (start : Network NodeState) (node : ℕ → ℕ) (mark : MarkName) (flusher host sights : ℕ) (room : Option ℕ) (accepted : ℕ → ℕ) (parts : PartsValue) : Type 0 where
  pub roll_is : parts.roll ≡ roll
  pub first_is : parts.first ≡ first
  pub wires_are : parts.book.state.start.wires ≡ start.wires
  pub count_is : length parts.book.state.start.nodes ≡ length start.nodes
  pub ports_are : length parts.book.state.ports ≡ length start.ports
  pub nodes_are : (i : ℕ) → node i ≡ name_of parts.seals i
  pub mark_is : parts.mark ≡ mark
  pub flusher_is : parts.flusher ≡ flusher
  pub host_is : parts.host ≡ host
  pub sights_is : parts.sights ≡ sights
  pub room_is : parts.book.room ≡ room
  pub accepted_is : (p : ℕ) → accepted_of (port_in parts.book p) ≡ accepted p
