-- How far ports have come when a device opens, and which outputs and inputs may begin there.
use Rattle.std.specs.Prelude.{◌≡◌, ◌⊎◌, ◌<◌, ◌≤◌, ℕ, ◌+◌, List, length, get_or, Some, slice_get}
use Rattle.tp_stream.specs.Lower.{unwrap_or, Port, Opened, fresh_value, BookValue, accepted_of, port_in, shown_upto_of, HasAtMost, HasLength, HasReach, Reaches, GivenInput, HasAtLeast, IsLength, Given}
use Rattle.tp_stream.specs.declared.fault.StreamFault.{StreamFault}
use Rattle.tp_stream.specs.declared.fault.StreamFault.TheVariants.{Opening, Spare, Port as Absent, Unnamed, Short, Long, Gone, NotShown, ShortInput, InputFailed, OutputFailed, FlushFailed, NotStored, JournalFull, Memory}
use Rattle.tp_stream.specs.declared.standing.Standing.{Standing}

-- how many outputs a port has put out in all, including those that were confirmed
abbrev pub put_out : Port → ℕ
put_out port = port.out_base + length port.outputs

-- how far a port of a book has come, by this mark
abbrev pub port_standing : BookValue → ℕ → ℕ → Standing
port_standing b mark p = record { confirmed = (port_in b p).out_base; shown = shown_upto_of b p mark; upto = put_out (port_in b p) }

-- how far a port has come when a device opens: all that it has put out is shown
abbrev pub stands_opened : Opened → ℕ → Standing
stands_opened o p =
    let port = get_or o.now.ports p fresh_value.port in
    record { confirmed = port.out_base; shown = put_out port; upto = put_out port }

-- up to which position the reader of an output has it: as it says, or else up to the confirmed ones
abbrev pub from_of : Standing → Given → ℕ
from_of s g = unwrap_or g.have s.confirmed

-- The reader has all that was confirmed, and no more than is shown.
pub record IsReadUpTo (s : Standing) (from : ℕ) : Type 0 where
  pub confirmed : s.confirmed ≤ from
  pub shown : from ≤ s.shown

-- An output may begin: its sink safely has the bytes that its reader has, and none that the port didn't put out.
pub record MayBegin (s : Standing) (g : Given) : Type 0 where
  pub reader : IsReadUpTo s (from_of s g)
  pub front : Reaches (from_of s g) g.held
  pub behind : HasAtMost s.upto g.held

-- Why an output may not begin: the first of these faults.
abbrev pub Refuses : Standing → Given → StreamFault → Type 0
Refuses s g (Opening unopened) = ⊥
Refuses s g Spare = ⊥
Refuses s g (Absent port) = ⊥
Refuses s g (Unnamed port) = ⊥
Refuses s g (Gone port have confirmed) = (port ≡ g.port) × (have ≡ from_of s g) × (confirmed ≡ s.confirmed) × (have < confirmed)
Refuses s g (NotShown port have shown) = (port ≡ g.port) × (have ≡ from_of s g) × (shown ≡ s.shown) × (s.confirmed ≤ have) × (shown < have)
Refuses s g (ShortInput port has accepted_at) = ⊥
Refuses s g (Short port has from) = (port ≡ g.port) × (from ≡ from_of s g) × IsReadUpTo s from × HasReach has g.held × (has < from)
Refuses s g (Long port has upto) = (port ≡ g.port) × (upto ≡ s.upto) × IsReadUpTo s (from_of s g) × Reaches (from_of s g) g.held × HasLength (Some has) g.held × (upto < has)
Refuses s g (InputFailed port) = ⊥
Refuses s g (OutputFailed port) = ⊥
Refuses s g FlushFailed = ⊥
Refuses s g NotStored = ⊥
Refuses s g JournalFull = ⊥
Refuses s g Memory = ⊥

-- Each of the first `n` outputs may begin at the position of its port.
abbrev pub MayBeginBelow : ℕ → (ℕ → Standing) → List Given → Type 0
MayBeginBelow n stands gs = (k : ℕ) → k < n → (g : Given) → slice_get gs k ≡ Some g → MayBegin (stands g.port) g

-- Each output may begin.
abbrev pub AllMayBegin : (ℕ → Standing) → List Given → Type 0
AllMayBegin stands gs = (k : ℕ) (g : Given) → slice_get gs k ≡ Some g → MayBegin (stands g.port) g

-- The first output that may not begin, and why: how far its port has come, or that there is no such port.
pub record IsFirstRefused (ports : ℕ) (stands : ℕ → Standing) (gs : List Given) (fault : StreamFault) : Type 0 where
  pub at : ℕ
  pub given : Given
  pub there : slice_get gs at ≡ Some given
  pub before : MayBeginBelow at stands gs
  pub why : Refuses (stands given.port) given fault ⊎ ((fault ≡ Absent given.port) × (ports ≤ given.port))

-- ## Inputs

-- how many bytes a port of a book has accepted
abbrev pub accepted_at : BookValue → ℕ → ℕ
accepted_at b p = accepted_of (port_in b p)

abbrev pub accepted_opened : Opened → ℕ → ℕ
accepted_opened o p = accepted_of (get_or o.now.ports p fresh_value.port)

-- Why an input may not begin: it has fewer bytes than its port has accepted.
abbrev pub RefusesInput : ℕ → GivenInput → StreamFault → Type 0
RefusesInput n g (Opening unopened) = ⊥
RefusesInput n g Spare = ⊥
RefusesInput n g (Absent port) = ⊥
RefusesInput n g (Unnamed port) = ⊥
RefusesInput n g (Short port has from) = ⊥
RefusesInput n g (Long port has upto) = ⊥
RefusesInput n g (Gone port have confirmed) = ⊥
RefusesInput n g (NotShown port have shown) = ⊥
RefusesInput n g (ShortInput port has accepted_at) = (port ≡ g.port) × (accepted_at ≡ n) × IsLength (Some has) g.all × (has < accepted_at)
RefusesInput n g (InputFailed port) = ⊥
RefusesInput n g (OutputFailed port) = ⊥
RefusesInput n g FlushFailed = ⊥
RefusesInput n g NotStored = ⊥
RefusesInput n g JournalFull = ⊥
RefusesInput n g Memory = ⊥

-- Each of the first `n` inputs has all bytes that its port has accepted.
abbrev pub HaveAcceptedBelow : ℕ → (ℕ → ℕ) → List GivenInput → Type 0
HaveAcceptedBelow n accepted_at gs = (k : ℕ) → k < n → (g : GivenInput) → slice_get gs k ≡ Some g → HasAtLeast (accepted_at g.port) g.all

-- Each input has all bytes that its port has accepted.
abbrev pub AllHaveAccepted : (ℕ → ℕ) → List GivenInput → Type 0
AllHaveAccepted accepted_at gs = (k : ℕ) (g : GivenInput) → slice_get gs k ≡ Some g → HasAtLeast (accepted_at g.port) g.all

-- The first input that may not begin, and why: how much its port has accepted, or that there is no such port.
pub record IsFirstShort (ports : ℕ) (accepted_at : ℕ → ℕ) (gs : List GivenInput) (fault : StreamFault) : Type 0 where
  pub at : ℕ
  pub given : GivenInput
  pub there : slice_get gs at ≡ Some given
  pub before : HaveAcceptedBelow at accepted_at gs
  pub why : RefusesInput (accepted_at given.port) given fault ⊎ ((fault ≡ Absent given.port) × (ports ≤ given.port))

-- Why a stream doesn't begin: an output may not; or each output may, but an input may not.
abbrev pub IsNotBegun : ℕ → (ℕ → Standing) → (ℕ → ℕ) → List Given → List GivenInput → StreamFault → Type 0
IsNotBegun ports stands accepted_at gs inputs fault = IsFirstRefused ports stands gs fault ⊎ (AllMayBegin stands gs × IsFirstShort ports accepted_at inputs fault)

-- If the fault is one of an input, `P` is true.
abbrev pub OfInput : StreamFault → Type 0 → Type 0
OfInput (Opening unopened) P = Unit {0}
OfInput Spare P = Unit {0}
OfInput (Absent port) P = Unit {0}
OfInput (Unnamed port) P = Unit {0}
OfInput (Short port has from) P = Unit {0}
OfInput (Long port has upto) P = Unit {0}
OfInput (Gone port have confirmed) P = Unit {0}
OfInput (NotShown port have shown) P = Unit {0}
OfInput (ShortInput port has accepted_at) P = P
OfInput (InputFailed port) P = Unit {0}
OfInput (OutputFailed port) P = Unit {0}
OfInput FlushFailed P = Unit {0}
OfInput NotStored P = Unit {0}
OfInput JournalFull P = Unit {0}
OfInput Memory P = Unit {0}

-- If the fault is one of an output, `P` is true.
abbrev pub OfOutput : StreamFault → Type 0 → Type 0
OfOutput (Opening unopened) P = Unit {0}
OfOutput Spare P = Unit {0}
OfOutput (Absent port) P = Unit {0}
OfOutput (Unnamed port) P = Unit {0}
OfOutput (Short port has from) P = P
OfOutput (Long port has upto) P = P
OfOutput (Gone port have confirmed) P = P
OfOutput (NotShown port have shown) P = P
OfOutput (ShortInput port has accepted_at) P = Unit {0}
OfOutput (InputFailed port) P = Unit {0}
OfOutput (OutputFailed port) P = Unit {0}
OfOutput FlushFailed P = Unit {0}
OfOutput NotStored P = Unit {0}
OfOutput JournalFull P = Unit {0}
OfOutput Memory P = Unit {0}
