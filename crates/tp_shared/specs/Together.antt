-- What the book's lock holds, and keeps together with all that is elsewhere:
-- - the nodes' cells, which have the keys of the seals;
-- - the seats, whose slips are from the roll;
-- - the flusher, which has the key of what it was told;
-- - the host, which has the key of what it handed in;
-- - the journal on the device.
use Rattle.std.specs.Prelude.{◌≡◌, ◌≤◌, ◌+◌, ◌-◌, ◌*◌, ℕ, List, length, Option, None}
use Rattle.tp_shared.specs.Lower.{Roll, Seal, Entry, NodeState, Network, World, BookValue}
use Rattle.tp_shared.specs.Accepted.{HaveAccepted}
use Rattle.tp_shared.specs.BrokenSeen.{BrokenSince}
use Rattle.tp_shared.specs.Frozen.{frozen_in}
use Rattle.tp_shared.specs.HandedIn.{handed}
use Rattle.tp_shared.specs.Positions.{IsNumberedFrom}
use Rattle.tp_shared.specs.Seals.{Sealed, IsTied}
use Rattle.tp_shared.specs.Thawed.{ThawedAsTold}
use Rattle.tp_shared.specs.Told.{ToldSince, told_of}
use Rattle.tp_shared.specs.declared.flusher.handed.Handed.{Handed}
use Rattle.tp_shared.specs.declared.nodes.seal.NodeSeal.{NodeSeal}
use Rattle.tp_shared.specs.declared.flusher.told.Told.{Told}

-- A book, the seals of its nodes, the roll, the seals of what the flusher was told and of what the host handed in, and the books that were
-- seen, whenever nobody holds the lock. The other arguments say which network, tokens and history they belong to.
pub record AreTogether (roll_name first : ℕ) (start : Network NodeState) (node : ℕ → ℕ) (flusher host : ℕ) (room : Option ℕ) (accepted : ℕ → ℕ) (before : World NodeState)
    (book : BookValue) (seals : List NodeSeal) (roll : Roll Entry) (told : Seal Told) (given : Seal Handed) (sights : List BookValue) : Type 0 where
  -- no take is made ready
  pub idle : book.ready ≡ None
  -- there is a seal for each node
  pub seal_count : length seals ≡ length start.nodes
  -- the book knows of each node whether a run of it is reserved
  pub run_count : length book.runs ≡ length start.nodes
  -- each seal, and so the key in the node's cell, shows the node that the book's entries make, and whether a run of it is reserved
  pub sealed : Sealed node seals book
  -- the slips of all seats are from this roll
  pub roll_is : roll.name ≡ roll_name
  -- its numbers begin with that of the first entry since the opening
  pub first_is : roll.first ≡ first
  -- it has exactly the entries since the opening, each under its number in the journal
  pub tied : IsTied first roll.items book
  -- the wires are those of the network
  pub wires_are : book.state.start.wires ≡ start.wires
  -- the number of nodes is that of the network
  pub count_is : length book.state.start.nodes ≡ length start.nodes
  -- the flusher has the key of this seal
  pub flusher_is : told.name ≡ flusher
  -- from what the flusher was told, acts that are no trim lead to the book as it is, and pages that were dropped stay dropped
  pub since : ToldSince told.value (told_of before first (record { book = book; all = roll.items; numbered_from = told.value.numbered_from; frozen = frozen_in seals }))
  -- the network has a place for a wire at each node's four links, and at each port
  pub wire_count : length start.wires ≡ 4 * length start.nodes + length start.ports
  -- the book counts with the bytes that groups may fill on the device
  pub room_is : book.room ≡ room
  -- entries that may lack room there, each in a group of its own, were all made before the opening
  pub floor : book.floor ≤ first - book.base
  -- if the flusher was told that the cut is whole and no node's pages are kept, none is kept since
  pub thawed : ThawedAsTold told.value seals
  -- from the position that was told on the entries have their positions as numbers
  pub numbered : IsNumberedFrom told.value.numbered_from book
  -- this position is at most the end of the entries that were told
  pub reaches : told.value.numbered_from ≤ told.value.base + length told.value.net.entries
  -- the host has the key of this seal
  pub host_is : given.name ≡ host
  -- it shows what the host handed in since the opening
  pub given_is : given.value.entries ≡ handed roll.items
  -- each port has accepted what they hand to it, and nothing else since the opening
  pub fed : HaveAccepted accepted roll.items book
  -- if it was seen broken, it is broken
  pub seen : BrokenSince book.broken sights
