-- Which outputs a run printed, by its journal.
use Rattle.std.specs.Prelude.{◌≡◌, ◌≤◌, ◌⊎◌, ℕ, List, [], get_or, length, take, drop, Some, Result}
use Rattle.tp_run.specs.Lower.{AreTrue, Entry, NodeState, t414, Network, Port, after, LeavesOnly, State, moment, device_areas, next_number, World, RecoversTo, Began, Flushing}
use Rattle.tp_run.specs.declared.fault.RunFault.{RunFault}
use Rattle.tp_run.specs.Outlet.{OutletValue}
use Rattle.tp_run.specs.Prints.{MayBeSilent, PrintsAt}

-- the port of a network; if there is no such port, one at which nothing has happened
abbrev pub port_or_new : Network NodeState → ℕ → Port
port_or_new s port = get_or s.ports port (record { pending = []; in_base = 0; outputs = []; out_base = 0 })

-- The first `number` entries of a journal lead to a network in which the port has exactly `outputs` after the `confirmed` ones.
pub record LeadsToOutputs (start : Network NodeState) (journal : List Entry) (number port confirmed : ℕ) (outputs : List ℕ) : Type 0 where
  pub state : Network NodeState
  pub leads : after t414 start (take number journal) ≡ Some state
  pub base : (port_or_new state port).out_base ≡ confirmed
  pub are : (port_or_new state port).outputs ≡ outputs

-- The outputs come from entries of a world's journal, and all these entries are below its mark.
abbrev pub AreShownIn : Network NodeState → World NodeState → ℕ → ℕ → ℕ → List ℕ → Type 0
AreShownIn start w port confirmed number outputs = (number ≤ w.mark) × LeadsToOutputs start w.journal number port confirmed outputs

-- Bytes that an outlet may be called for: the last ones of a port's outputs that nobody has confirmed. They come from entries of the flusher's journal
-- that are below its mark, so no crash takes them back.
pub record MayTake (start : Network NodeState) (before : World NodeState) (f : Flushing) (bytes : List ℕ) : Type 0 where
  pub port : ℕ
  pub confirmed : ℕ
  pub number : ℕ
  pub outputs : List ℕ
  pub taken : ℕ
  pub rest : bytes ≡ drop taken outputs
  pub shown : AreTrue f.reads → Began start before f.opened → AreShownIn start f.world port confirmed number outputs

-- Bytes open to the network that a prefix of the journal leads to, and the prefix has at most its first `number` entries.
pub record IsUpTo (start : Network NodeState) (journal : List Entry) (number : ℕ) (left : List ℕ) : Type 0 where
  pub recovers : RecoversTo t414 device_areas start journal 0 left
  pub few : next_number recovers.held ≤ number

-- What was printed, by the flusher's journal, which has no more than `least` entries. The first `least` ones lead to a network in which the port has
-- some outputs after the confirmed ones. As many of these were printed as the answer says, the first ones first. Each call of the outlet was for
-- them, while the device was in the state `there`.
pub record HasShown {A : Type 0} (start : Network NodeState) (journal : List Entry) (least port confirmed : ℕ) (there : State) (was now : OutletValue) (r : Result A RunFault) : Type 0 where
  pub number : ℕ
  pub few : number ≤ least
  pub behind : least ≤ number
  pub whole : length journal ≤ number
  pub outputs : List ℕ
  pub shows : LeadsToOutputs start journal number port confirmed outputs
  pub printed : PrintsAt there r was now outputs

-- what may be printed: as `HasShown` says; or nothing, without a call, if the answer allows that
abbrev pub MayShow : {A : Type 0} → Network NodeState → List Entry → ℕ → ℕ → ℕ → State → OutletValue → OutletValue → Result A RunFault → Type 0
MayShow start journal least port confirmed there was now r = ((now ≡ was) × MayBeSilent r) ⊎ HasShown start journal least port confirmed there was now r

-- What was printed while a flusher went on. Some entries, at least those that its journal had at first and those below its mark, lead to a network in
-- which the port has some outputs after the confirmed ones. As many of these were printed as the answer says, the first ones first. Whatever a crash
-- leaves up to then has none of the later entries, and whatever it leaves from then on has each of these entries.
pub record HasPrinted {A : Type 0} (start : Network NodeState) (old new : Flushing) (port confirmed : ℕ) (was now : OutletValue) (r : Result A RunFault) : Type 0 where
  pub number : ℕ
  pub behind : old.world.mark ≤ number
  pub whole : length old.world.journal ≤ number
  pub outputs : List ℕ
  pub shows : LeadsToOutputs start new.world.journal number port confirmed outputs
  pub there : State
  pub printed : PrintsAt there r was now outputs
  pub later : moment old.state ≤ moment there
  pub before : LeavesOnly old.state there (IsUpTo start new.world.journal number)
  pub since : LeavesOnly there new.state (RecoversTo t414 device_areas start new.world.journal number)

-- what may be printed: as `HasPrinted` says; or nothing, without a call, if the answer allows that
abbrev pub MayPrint : {A : Type 0} → Network NodeState → Flushing → Flushing → ℕ → ℕ → OutletValue → OutletValue → Result A RunFault → Type 0
MayPrint start old new port confirmed was now r = ((now ≡ was) × MayBeSilent r) ⊎ HasPrinted start old new port confirmed was now r
