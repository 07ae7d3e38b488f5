-- What contracts see of the flusher, what it keeps, and what it did.
use Rattle.std.specs.Prelude.{◌≡◌, ◌<◌, ◌≤◌, ℕ, ◌+◌, Bool, true, false, if◌then◌else◌, List, length, get_or, Option, Some, Ok}
use Rattle.tp_flush.specs.Lower.{AllByRecursion, TwoAreas, Entry, Form, HeadVersion, NUMBER_LIMIT, IsSpelt, is_of, NodeState, t414, Network, Topology, is_roomy, room, head_of, State, Position, Resting, Broken, device_areas, numbered, World, RunLeads, Walks, RaiserValue, Place, unnumbered, OtherIsClosed, content_beside, MarkedNetwork, CutSpelt, AreTrue, Reading, WereTrue}
use Rattle.tp_flush.specs.Copying.{IsGone, IsPartOut}
use Rattle.tp_flush.specs.Progress.{is_out}
use Rattle.tp_flush.specs.declared.progress.Progress.{Progress}
use Rattle.tp_flush.specs.Known.{Known, Began, Reached}
use Rattle.tp_flush.specs.Risen.{HaveRisen}

-- What contracts see of the flusher:
-- - the world as the flusher knows it;
-- - what has become of its device, which of its reads were answered, how many bytes it has, and how many of its calls have failed;
-- - the bytes that this process opened;
-- - the place of the next group, in the open area;
-- - the device's topology, and how far the copy of the snapshot that runs has come;
-- - which nodes had kept pages when it was told of the book last.
pub record Flushing : Type 0 where
  pub world : World NodeState
  pub state : State
  pub reads : List Reading
  pub size : ℕ
  pub failures : ℕ
  pub opened : List ℕ
  pub place : Place
  pub topology : Topology
  pub progress : Progress
  pub frozen : List Bool

-- between two of its calls the flusher rests, or a call of the device has failed
abbrev pub position : Bool → Position NodeState
position broken = if broken then Broken else Resting

-- What the flusher keeps of the world, with the mark:
-- - the place of its store is the world's number;
-- - what was copied of the book ends where the book did then;
-- - a run leads to the world, and the flusher's device is the world's;
-- - for each number to which the mark was raised, that device had all below it from that moment on.
pub record KeepsWorld (keeps : Type 0) (start : Network NodeState) (before : World NodeState) (known : Known) (state : State) (place : Place) (broken : Bool) (raiser : RaiserValue) : Type 0 where
  pub next : place.next ≡ known.world.stored
  pub cut : known.world.base ≤ known.world.stored
  pub ends : known.world.stored + length known.world.backlog ≤ known.world.base + length known.world.net.entries
  pub mark : raiser.at ≡ known.world.mark
  pub at : known.world.at ≡ position broken
  pub disk : keeps → known.world.disk ≡ state.now
  pub reached : keeps → Began start before known.opened → Reached start known.world
  pub rises : keeps → Began start before known.opened → HaveRisen start known.world state raiser.rises

-- What it keeps for the copy of a snapshot. Its areas have room for any cut of its topology. The other area's gate is closed, once that was
-- done for the snapshot. Each frozen image that is out is there.
pub record KeepsCopy (keeps : Type 0) (net : MarkedNetwork NodeState) (state : State) (place : Place) (broken : Bool) (t : Topology) (progress : Progress) : Type 0 where
  pub roomy : is_roomy t place.areas.length ≡ true
  pub closed : keeps → broken ≡ false → progress.cleared ≡ true → OtherIsClosed place state
  pub images : keeps → broken ≡ false → (i : ℕ) → i < length t.pages → is_out progress i ≡ true → IsPartOut t net (content_beside place state) i (get_or t.pages i 0)

-- A node whose image is out has no kept pages: it was told this under the book's lock, and it stays true until the trim.
abbrev pub AreGone : MarkedNetwork NodeState → List Bool → Progress → Type 0
AreGone net frozen progress = (i : ℕ) → is_out progress i ≡ true → IsGone net frozen i

-- The device's head, of whatever version, has the topology and the places of the areas.
pub record HeadSays (t : Topology) (areas : TwoAreas) (bytes : List ℕ) : Type 0 where
  pub version : HeadVersion
  pub is : head_of bytes ≡ Ok (record { version = version; topology = t; areas = areas })

-- What it keeps for the switch to the other area. The kept cut has an image on a device of its topology. The book is bound to the room of
-- its areas. The device's head has the topology and the places of the areas.
pub record IsOfDevice (keeps : Type 0) (most : Option ℕ) (w : World NodeState) (state : State) (place : Place) (broken : Bool) (t : Topology) : Type 0 where
  pub spelt : CutSpelt t w.base w.net.start
  pub bound : most ≡ Some (room t place.areas.length)
  pub head : keeps → broken ≡ false → HeadSays t place.areas state.now.bytes

-- What it keeps for the groups: an area of the first form may hold each entry that a book of the second may.
abbrev pub HoldsAllOf : Form → Form → Type 0
HoldsAllOf area book = (e : Entry) → is_of book e ≡ true → is_of area e ≡ true

-- Each moment of the device since is that of a world on the way of one run.
abbrev pub Walked : Flushing → Flushing → Type 0
Walked old new = Walks t414 device_areas old.world new.world old.state new.state

-- No call of the device was made, and nothing was stored.
pub record OnlyLooked (old new : Flushing) : Type 0 where
  pub led : RunLeads t414 device_areas old.world new.world
  pub at : new.world.at ≡ old.world.at
  pub stored : new.world.stored ≡ old.world.stored
  pub disk : new.world.disk ≡ old.world.disk
  pub state : new.state ≡ old.state
  pub reads : new.reads ≡ old.reads
  pub size : new.size ≡ old.size
  pub failures : new.failures ≡ old.failures
  pub opened : new.opened ≡ old.opened
  pub place : new.place ≡ old.place
  pub topology : new.topology ≡ old.topology
  pub progress : new.progress ≡ old.progress

-- The process and its device stayed what they were.
pub record IsSameProcess (old new : Flushing) : Type 0 where
  pub opened : new.opened ≡ old.opened
  pub size : new.size ≡ old.size
  pub topology : new.topology ≡ old.topology

-- The backlog was copied: `entries`, which can be spelt, have the numbers that come next on the device, and end below `upto`.
pub record IsBacklog (w : World NodeState) (entries : List (Entry × ℕ)) (upto : ℕ) : Type 0 where
  pub same : unnumbered entries ≡ w.backlog
  pub each : AllByRecursion (λ e. IsSpelt e.0 e.1) entries
  pub next : entries ≡ numbered w.stored (unnumbered entries)
  pub reaches : upto ≡ w.stored + length entries
  pub numbers : w.stored + length entries < NUMBER_LIMIT

-- If this process opened what a run had led to, each moment of the device since is that of a world on the way of one run. The process and
-- its device stay what they are.
pub record FlushedOn (start : Network NodeState) (before : World NodeState) (old new : Flushing) : Type 0 where
  pub premise : WereTrue old.reads new.reads
  pub walks : AreTrue new.reads → Began start before old.opened → Walked old new
  pub process : IsSameProcess old new
