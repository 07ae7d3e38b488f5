-- What steps put of outputs: by the book, and by the flusher's journal.
use Rattle.std.specs.Prelude.{◌≡◌, ◌⊎◌, ◌≤◌, ℕ, ◌+◌, ◌-◌, List, [], ◌∷◌, ◌++◌, length, take, drop, Some}
use Rattle.tp_stream.specs.Lower.{NodeState, t414, Network, Port, after, World, BookValue, port_in, shown_from, Flushing, Walked, HasPut, OutputValue, given_of}
use Rattle.tp_stream.specs.declared.standing.Standing.{Standing}
use Rattle.tp_stream.specs.Put.{EachWith, LeadsToBytes, port_or_fresh}
use Rattle.tp_stream.specs.Standing.{from_of}

-- An output was set out at the position of its port.
pub record IsSetOut (stands : ℕ → Standing) (old new : OutputValue) : Type 0 where
  pub given : given_of new ≡ given_of old
  pub next : new.next ≡ from_of (stands old.port) (given_of old)

-- ## In a book

-- Some outputs of a port were confirmed, and it has the others as before.
pub record IsPartConfirmed (old new : Port) : Type 0 where
  pub base : old.out_base ≤ new.out_base
  pub outputs : new.outputs ≡ drop (new.out_base - old.out_base) old.outputs

-- that is true of each port of a book
abbrev pub AreLeft : BookValue → BookValue → Type 0
AreLeft old new = (p : ℕ) → IsPartConfirmed (port_in old p) (port_in new p)

-- Bytes were put after those that the output had, which are as they were.
pub record Extends (bytes : List ℕ) (old new : OutputValue) : Type 0 where
  pub port : new.port ≡ old.port
  pub next : new.next ≡ old.next + length bytes
  pub put : HasPut old.next bytes old.held new.held

-- Either nothing was put; or what a mark shows of the port after what was put, and none of that was confirmed.
abbrev pub PutsShown : BookValue → ℕ → OutputValue → OutputValue → Type 0
PutsShown b mark old new =
    Extends [] old new ⊎ (((port_in b old.port).out_base ≤ old.next) × Extends (shown_from b old.port mark old.next) old new)

-- What a mark shows was put so, by the book after some confirms.
pub record PutsLeft (b : BookValue) (mark : ℕ) (old new : OutputValue) : Type 0 where
  pub now : BookValue
  pub left : AreLeft b now
  pub puts : PutsShown now mark old new

-- The first entries of a world's journal, exactly those below its mark, lead to a network. A book has its ports, but for outputs that were confirmed
-- since.
pub record PortsStand (start : Network NodeState) (w : World NodeState) (b : BookValue) : Type 0 where
  pub number : ℕ
  pub few : number ≤ w.mark
  pub all : w.mark ≤ number
  pub state : Network NodeState
  pub leads : after t414 start (take number w.journal) ≡ Some state
  pub left : (p : ℕ) → IsPartConfirmed (port_or_fresh state p) (port_in b p)

-- ## By the flusher's journal

-- The bytes that one step put, how many entries lead to a network in which they are outputs, and the flusher then.
pub record PutStep : Type 0 where
  pub bytes : List ℕ
  pub number : ℕ
  pub at : Flushing

-- the bytes of all these steps
abbrev pub put_by : List PutStep → List ℕ
put_by [] = []
put_by (s ∷ ss) = s.bytes ++ put_by ss

-- A step put outputs of a port at a position, between two moments of the flusher. They are its outputs in the network to which the journal led at
-- that time, by exactly those entries that were stored.
pub record IsPutStep (start : Network NodeState) (old new : Flushing) (port from : ℕ) (s : PutStep) : Type 0 where
  pub before : Walked old s.at
  pub behind : Walked s.at new
  pub few : s.number ≤ s.at.world.mark
  pub all : s.at.world.mark ≤ s.number
  pub shows : LeadsToBytes start s.at.world.journal s.number port from s.bytes

-- The steps of a list put outputs one after the other, each at the position after the step before it, and none earlier than it.
abbrev pub AreSteps : Network NodeState → Flushing → Flushing → ℕ → ℕ → List PutStep → Type 0
AreSteps start old new port from [] = Unit {0}
AreSteps start old new port from (s ∷ ss) = IsPutStep start old new port from s × AreSteps start s.at new port (from + length s.bytes) ss

-- Between two moments of the flusher, only these steps put bytes of the output.
pub record Stepped (start : Network NodeState) (old new : Flushing) (was now : OutputValue) : Type 0 where
  pub port : now.port ≡ was.port
  pub steps : List PutStep
  pub each : AreSteps start old new was.port was.next steps
  pub next : now.next ≡ was.next + length (put_by steps)
  pub holds : HasPut was.next (put_by steps) was.held now.held

-- that is true of each output
abbrev pub AllStepped : Network NodeState → Flushing → Flushing → List OutputValue → List OutputValue → Type 0
AllStepped start old new was now = EachWith (Stepped start old new) was now
