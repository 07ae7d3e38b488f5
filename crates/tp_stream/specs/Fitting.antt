-- Whether a network can be run as a task asks, given the outputs and inputs that are named, and the nodes that are made for it.
use Rattle.std.specs.Prelude.{◌≡◌, ◌<◌, ℕ, ◌+◌, ◌*◌, ◌==◌, Bool, true, false, nat_le, nat_lt, if◌then◌else◌, List, [], ◌∷◌, map, Option, Some, None, Result, Ok, Err, slice_get}
use Rattle.tp_stream.specs.Lower.{HasFrames, NodeContents, list_any, has_wire, Topology, node_count, OutputValue, Ended}
use Rattle.tp_stream.specs.declared.task.Task.{Task}
use Rattle.tp_stream.specs.declared.fault.StreamFault.{StreamFault}
use Rattle.tp_stream.specs.declared.fault.StreamFault.TheVariants.{Opening, Spare, Port as Absent, Unnamed, Short, Long, Gone, NotShown, ShortInput, InputFailed, OutputFailed, FlushFailed, NotStored, JournalFull, Memory}

-- whether some node has fewer pages than `spare`
abbrev pub lacks_pages : ℕ → Topology → Bool
lacks_pages spare t = list_any (λ pages. nat_lt pages spare) t.pages

-- the first of these ports that isn't one of the first `ports` ports
abbrev pub first_past : ℕ → List ℕ → Option ℕ
first_past ports [] = None
first_past ports (p ∷ ps) = if nat_le ports p then Some p else first_past ports ps

-- `first` if there is one, else the first of these other ports that doesn't exist
abbrev pub else_past : ℕ → List ℕ → Option ℕ → Option ℕ
else_past ports others None = first_past ports others
else_past ports others (Some p) = Some p

-- the first port of an output that doesn't exist; if all do, the first port of an input that doesn't
abbrev pub absent_of : Topology → List OutputValue → List ℕ → Option ℕ
absent_of t outputs inputs = else_past t.ports inputs (first_past t.ports (map (λ (o : OutputValue). o.port) outputs))

-- whether some sink is for this port
abbrev pub has_sink : ℕ → List OutputValue → Bool
has_sink port outputs = list_any (λ (o : OutputValue). o.port == port) outputs

-- whether a port has a wire
abbrev pub port_has_wire : Topology → ℕ → Bool
port_has_wire t port = has_wire t.wires (4 * node_count t + port)

-- If this port has a wire, a sink is for it.
abbrev pub IsNamed : Topology → List OutputValue → ℕ → Type 0
IsNamed t outputs port = port_has_wire t port ≡ true → has_sink port outputs ≡ true

abbrev pub AllNamed : Topology → List OutputValue → Type 0
AllNamed t outputs = (port : ℕ) → port < t.ports → IsNamed t outputs port

-- This is the first port that has a wire, but no sink.
pub record IsFirstUnnamed (t : Topology) (outputs : List OutputValue) (port : ℕ) : Type 0 where
  pub there : port < t.ports
  pub wire : port_has_wire t port ≡ true
  pub nobody : has_sink port outputs ≡ false
  pub before : (other : ℕ) → other < port → IsNamed t outputs other

-- The network can be run. Each node has at least as many pages as spare frames, each named port exists, and each port with a wire has a sink.
pub record Fits (task : Task) (t : Topology) (outputs : List OutputValue) (inputs : List ℕ) : Type 0 where
  pub pages : lacks_pages task.spare t ≡ false
  pub there : absent_of t outputs inputs ≡ None
  pub named : AllNamed t outputs

-- Why the network can't be run: the first of these faults.
abbrev pub Unfit : Task → Topology → List OutputValue → List ℕ → StreamFault → Type 0
Unfit task t outputs inputs (Opening unopened) = ⊥
Unfit task t outputs inputs Spare = lacks_pages task.spare t ≡ true
Unfit task t outputs inputs (Absent port) = (lacks_pages task.spare t ≡ false) × (absent_of t outputs inputs ≡ Some port)
Unfit task t outputs inputs (Unnamed port) =
    (lacks_pages task.spare t ≡ false) × (absent_of t outputs inputs ≡ None) × IsFirstUnnamed t outputs port
Unfit task t outputs inputs (Short port has from) = ⊥
Unfit task t outputs inputs (Long port has upto) = ⊥
Unfit task t outputs inputs (Gone port have confirmed) = ⊥
Unfit task t outputs inputs (NotShown port have shown) = ⊥
Unfit task t outputs inputs (ShortInput port has accepted) = ⊥
Unfit task t outputs inputs (InputFailed port) = ⊥
Unfit task t outputs inputs (OutputFailed port) = ⊥
Unfit task t outputs inputs FlushFailed = ⊥
Unfit task t outputs inputs NotStored = ⊥
Unfit task t outputs inputs JournalFull = ⊥
Unfit task t outputs inputs Memory = ⊥

-- Either the fault says why the network can't be run, or it says something else, and the network can be run.
abbrev pub SaysUnfit : Task → Topology → List OutputValue → List ℕ → StreamFault → Type 0
SaysUnfit task t outputs inputs (Opening unopened) = Unit {0}
SaysUnfit task t outputs inputs Spare = Unfit task t outputs inputs Spare
SaysUnfit task t outputs inputs (Absent port) = Unfit task t outputs inputs (Absent port)
SaysUnfit task t outputs inputs (Unnamed port) = Unfit task t outputs inputs (Unnamed port)
SaysUnfit task t outputs inputs (Short port has from) = Fits task t outputs inputs
SaysUnfit task t outputs inputs (Long port has upto) = Fits task t outputs inputs
SaysUnfit task t outputs inputs (Gone port have confirmed) = Fits task t outputs inputs
SaysUnfit task t outputs inputs (NotShown port have shown) = Fits task t outputs inputs
SaysUnfit task t outputs inputs (ShortInput port has accepted) = Fits task t outputs inputs
SaysUnfit task t outputs inputs (InputFailed port) = Fits task t outputs inputs
SaysUnfit task t outputs inputs (OutputFailed port) = Fits task t outputs inputs
SaysUnfit task t outputs inputs FlushFailed = Fits task t outputs inputs
SaysUnfit task t outputs inputs NotStored = Fits task t outputs inputs
SaysUnfit task t outputs inputs JournalFull = Fits task t outputs inputs
SaysUnfit task t outputs inputs Memory = Fits task t outputs inputs

-- What a stream answers agrees with whether the network can be run.
abbrev pub SaysFit : Task → Topology → List OutputValue → List ℕ → Result Ended StreamFault → Type 0
SaysFit task t outputs inputs (Ok ended) = Fits task t outputs inputs
SaysFit task t outputs inputs (Err fault) = SaysUnfit task t outputs inputs fault

-- each of these nodes has `spare` frames for pages that it writes while it is frozen, but at most as many as it has pages
abbrev pub HaveFrames : ℕ → List NodeContents → Type 0
HaveFrames spare nodes = (i : ℕ) (node : NodeContents) → slice_get nodes i ≡ Some node → HasFrames spare node
