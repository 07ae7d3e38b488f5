-- Which outputs were put into sinks, by the journal. "The network to which entries lead" is the one that they make of the network at the start.
use Rattle.std.specs.Prelude.{◌≡◌, ◌⊎◌, ◌≤◌, ℕ, ◌+◌, ◌-◌, ◌==◌, Bool, true, ◌&&◌, nat_le, List, [], ◌∷◌, ◌++◌, length, map, get_or, take, drop, Result, Ok, Some, IfOk}
use Rattle.tp_stream.specs.Lower.{HasHalted, list_all, Entry, NodeState, t414, Network, Port, after, LeavesOnly, State, moment, device_areas, Opened, next_of, verdict, RecoversTo, fresh_value, HasPut, OutputValue, given_of, Ended, Ending, Quiet, Turns, Gone, Halted, Stopped, GivenInput}
use Rattle.tp_stream.specs.declared.fault.StreamFault.{StreamFault}
use Rattle.tp_stream.specs.Accounted.{Accounted}
use Rattle.tp_stream.specs.Confirmed.{AreConfirmsPut}
use Rattle.tp_stream.specs.HandedFrom.{AreHandedFrom}
use Rattle.tp_stream.specs.Standing.{accepted_opened, from_of, stands_opened}
use Rattle.tp_stream.specs.Streamed.{Streamed}

-- the port of a network; if there is no such port, one at which nothing has happened
abbrev pub port_or_fresh : Network NodeState → ℕ → Port
port_or_fresh s port = get_or s.ports port fresh_value.port

-- In the network to which the first `number` entries of a journal lead, these bytes are outputs of the port from the position `from` on. None of them
-- is confirmed there.
pub record LeadsToBytes (start : Network NodeState) (journal : List Entry) (number port from : ℕ) (bytes : List ℕ) : Type 0 where
  pub state : Network NodeState
  pub leads : after t414 start (take number journal) ≡ Some state
  pub unconfirmed : (port_or_fresh state port).out_base ≤ from
  pub are : bytes ≡ take (length bytes) (drop (from - (port_or_fresh state port).out_base) (port_or_fresh state port).outputs)

-- The two lists are of equal length, and `R` is true of each pair at one place.
abbrev pub EachWith : (OutputValue → OutputValue → Type 0) → List OutputValue → List OutputValue → Type 0
EachWith R [] [] = Unit {0}
EachWith R [] (y ∷ ys) = ⊥
EachWith R (x ∷ xs) [] = ⊥
EachWith R (x ∷ xs) (y ∷ ys) = R x y × EachWith R xs ys

-- ## While a device goes on

-- The bytes that one step put, how many entries lead to a network in which they are outputs, and the device's state then.
pub record PutPiece : Type 0 where
  pub bytes : List ℕ
  pub number : ℕ
  pub there : State

-- the bytes of all these pieces
abbrev pub bytes_put : List PutPiece → List ℕ
bytes_put [] = []
bytes_put (p ∷ ps) = p.bytes ++ bytes_put ps

-- A piece of a port's outputs was put at a position. Its number of entries is `least` or more, and they lead to a network in which the port has these
-- outputs. Whatever a crash leaves from then on, up to `new`, has each of these entries.
pub record IsPut (start : Network NodeState) (journal : List Entry) (least port from : ℕ) (old new : State) (p : PutPiece) : Type 0 where
  pub behind : least ≤ p.number
  pub shows : LeadsToBytes start journal p.number port from p.bytes
  pub later : moment old ≤ moment p.there
  pub since : LeavesOnly p.there new (RecoversTo t414 device_areas start journal p.number)

-- The pieces of a list were put one after the other, each at the position after the piece before it, and none earlier than it.
abbrev pub ArePut : Network NodeState → List Entry → ℕ → ℕ → ℕ → State → State → List PutPiece → Type 0
ArePut start journal least port from old new [] = Unit {0}
ArePut start journal least port from old new (p ∷ ps) =
    IsPut start journal least port from old new p × ArePut start journal least port (from + length p.bytes) p.there new ps

-- What a sink got whose output was set out at `from`. The bytes before `from` are as they were. After them come the pieces that steps put, up to the
-- position that the output tells.
pub record Got (start : Network NodeState) (journal : List Entry) (least from : ℕ) (old new : State) (was now : OutputValue) : Type 0 where
  pub port : now.port ≡ was.port
  pub pieces : List PutPiece
  pub each : ArePut start journal least was.port from old new pieces
  pub next : now.next ≡ from + length (bytes_put pieces)
  pub holds : HasPut from (bytes_put pieces) was.held now.held

-- What the sinks of all outputs got, from a device that opened. Each output was set out at the position that its reader told, or else at its port's.
-- No fewer entries lead to what was put than the device had at the opening.
pub record AreShown (start : Network NodeState) (journal : List Entry) (was now : List OutputValue) (old new : State) : Type 0 where
  pub opened : Opened
  pub reads : verdict old.now.bytes ≡ Ok opened
  pub each : EachWith (λ a b. Got start journal (next_of opened) (from_of (stands_opened opened a.port) (given_of a)) old new a b) was now

-- ## When a stream ends

-- Whether no more of a port's outputs are confirmed than were put, up to `next`. If the stream ends as quiet, or since all turns were made, also
-- whether all that the port has put out was put and confirmed.
abbrev pub is_put : Ending → Port → ℕ → Bool
is_put Quiet port next = port.out_base == next && length port.outputs == 0
is_put Turns port next = port.out_base == next && length port.outputs == 0
is_put Gone port next = nat_le port.out_base next
is_put Halted port next = nat_le port.out_base next
is_put Stopped port next = nat_le port.out_base next

-- whether that is true of each output, by these ports
abbrev pub are_put : Ending → (ℕ → Port) → List OutputValue → Bool
are_put why ports outputs = list_all (λ (o : OutputValue). is_put why (ports o.port) o.next) outputs

-- if the stream ends by a halt, a node of the network has halted
abbrev pub HasHaltedAs : Ending → Network NodeState → Type 0
HasHaltedAs Quiet s = Unit {0}
HasHaltedAs Turns s = Unit {0}
HasHaltedAs Gone s = Unit {0}
HasHaltedAs Halted s = HasHalted s
HasHaltedAs Stopped s = Unit {0}

-- That is true of each output in the network to which all of the journal leads. If the stream ends by a halt, a node has halted in that network.
pub record EndsPut (start : Network NodeState) (journal : List Entry) (why : Ending) (outputs : List OutputValue) : Type 0 where
  pub state : Network NodeState
  pub leads : after t414 start journal ≡ Some state
  pub each : are_put why (port_or_fresh state) outputs ≡ true
  pub halted : HasHaltedAs why state

-- What a stream leaves, and what its sinks got by that journal. If the answer says so, they got all outputs. Or no sink has changed. All that the journal
-- hands to ports since the opening comes from the stream's inputs, and all outputs that it confirms since then were put. If the stream finished, the host
-- or a turn made each entry since the opening.
pub record StreamedInto (start : Network NodeState) (inputs : List GivenInput) (result : Result Ended StreamFault) (was now : List OutputValue) (old new : State) : Type 0 where
  pub streamed : Streamed start result old new
  pub outputs : (map given_of now ≡ map given_of was) ⊎ AreShown start streamed.journal was now old new
  pub fed : (opened : Opened) → verdict old.now.bytes ≡ Ok opened → AreHandedFrom inputs (accepted_opened opened) (drop (next_of opened) streamed.journal)
  pub confirms : (opened : Opened) → verdict old.now.bytes ≡ Ok opened → AreConfirmsPut now (drop (next_of opened) streamed.journal)
  pub accounted : (opened : Opened) → verdict old.now.bytes ≡ Ok opened → IfOk result (λ ended. Accounted opened.cut streamed.journal (next_of opened) ended.next)
  pub ends : IfOk result (λ ended. EndsPut start streamed.journal ended.why now)

-- What a stream leaves whose outputs were set out, and what its sinks got by that journal. If the answer says so, they got all outputs. All that the
-- journal hands to ports, after its first `least` entries, comes from these inputs; before them each port had accepted as many bytes as `accepted` says.
-- All outputs that these entries confirm were put. If the stream finished, the host or a turn made each of them.
pub record ServedInto (start network : Network NodeState) (least : ℕ) (inputs : List GivenInput) (accepted : ℕ → ℕ) (result : Result Ended StreamFault) (was now : List OutputValue) (old new : State) : Type 0 where
  pub streamed : Streamed start result old new
  pub outputs : EachWith (λ a b. Got start streamed.journal least a.next old new a b) was now
  pub fed : AreHandedFrom inputs accepted (drop least streamed.journal)
  pub confirms : AreConfirmsPut now (drop least streamed.journal)
  pub accounted : IfOk result (λ ended. Accounted network streamed.journal least ended.next)
  pub ends : IfOk result (λ ended. EndsPut start streamed.journal ended.why now)
