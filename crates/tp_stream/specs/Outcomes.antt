-- What the steps and turns of a stream come to.
use Rattle.std.specs.Prelude.{◌≡◌, ◌⊎◌, ◌<◌, ◌≤◌, ℕ, Bool, ◌&&◌, length, true, false, Option, Some, None, Result, Ok, Err, nat_eq, if◌then◌else◌}
use Rattle.tp_stream.specs.Lower.{BookValue, after_confirm, shown_upto_of, Standing, NodeHalted, NodeWaits, Free, Ending, Waits, SinkFault, Failed, OutputValue, Refusal, Quiet, Left, MAX_HELD, port_in, room_of}
use Rattle.tp_stream_files.specs.declared.ending.Stopped.{Stopped}
use Rattle.tp_stream_files.specs.declared.ending.Stopped.TheVariants.{Halted}
use Rattle.tp_stream_files.specs.declared.sink.SinkFault.TheVariants.{Gone}
use Rattle.tp_stream.specs.declared.fault.StreamFault.{StreamFault}
use Rattle.tp_stream.specs.declared.fault.StreamFault.TheVariants.{OutputFailed, NotStored as NothingStored, JournalFull as FullJournal, Memory as NoMemory}
use Rattle.tp_book.specs.declared.refusal.Refusal.TheVariants as refusal
use Rattle.tp_stream.specs.declared.output.StepFault.{StepFault}
use Rattle.tp_stream.specs.declared.output.StepFault.TheVariants.{Gone as TakerGone, Fault}
use Rattle.tp_stream.specs.declared.pumping.Pumped.{Pumped}
use Rattle.tp_stream.specs.declared.pumping.Pumped.TheVariants.{Nothing, Moved, Gone as GoneThere}
use Rattle.tp_stream.specs.declared.shift.Refused.{Refused}
use Rattle.tp_stream.specs.Streamed.{CameBetween, OtherThanFull}
use Rattle.tp_work.specs.declared.fault.TurnFault.{TurnFault}
use Rattle.tp_work.specs.declared.fault.TurnFault.TheVariants as turn
use Rattle.tp_stream.specs.Lower.{ConfirmFault, JournalFull, NotShown, StoreBroken, Memory, OfferFault}
use Rattle.tp_work.specs.declared.host_fault.OfferFault.TheVariants as offer

-- why a step of a port's output isn't done, for this answer of its sink
abbrev pub step_fault_of : ℕ → SinkFault → StepFault
step_fault_of port Failed = Fault (OutputFailed port)
step_fault_of port Gone = TakerGone

-- Either whoever takes the output has gone, or the fault isn't one of a device's call.
abbrev pub IsStepFault : StepFault → Type 0
IsStepFault TakerGone = Unit {0}
IsStepFault (Fault fault) = CameBetween fault

-- Either whoever takes the output has gone, or the fault isn't a full journal.
abbrev pub StepsOtherwise : StepFault → Type 0
StepsOtherwise TakerGone = Unit {0}
StepsOtherwise (Fault fault) = OtherThanFull fault

-- why the book may refuse a confirm for which it has room, if what is confirmed is shown
abbrev pub ConfirmsOtherwise : ConfirmFault → Type 0
ConfirmsOtherwise JournalFull = ⊥
ConfirmsOtherwise NotShown = ⊥
ConfirmsOtherwise StoreBroken = Unit {0}
ConfirmsOtherwise Memory = Unit {0}

-- the stream's fault for a confirm that was refused
abbrev pub confirm_fault_of : ConfirmFault → StreamFault
confirm_fault_of JournalFull = FullJournal
confirm_fault_of NotShown = FullJournal
confirm_fault_of StoreBroken = NothingStored
confirm_fault_of Memory = NoMemory

-- What comes of an offer that the book refused. If only room was lacking, its bytes are left for later.
abbrev pub offer_left : OfferFault → Result Bool StreamFault
offer_left offer.Memory = Err NoMemory
offer_left offer.StoreBroken = Err NothingStored
offer_left offer.JournalFull = Ok false
offer_left (offer.PortFull room) = Ok false
offer_left (offer.Already accepted) = Ok false
offer_left (offer.Gap accepted) = Ok false

-- why no more turns are made after one that the book refused; `None` if only room was lacking
abbrev pub turn_fault_of : Refusal → Option StreamFault
turn_fault_of refusal.JournalFull = None
turn_fault_of refusal.StoreBroken = Some NothingStored
turn_fault_of _ = Some NoMemory

-- The number by which a shift notes why a turn was refused; 0 if that is no fault. The shift keeps the greatest number.
abbrev pub refusal_number : TurnFault → ℕ
refusal_number turn.Empty = 0
refusal_number turn.JournalFull = 0
refusal_number turn.Memory = 1
refusal_number turn.StoreBroken = 2

-- what a shift keeps of a refused turn: it ends the shift, unless no process was there
abbrev pub refused_of : TurnFault → Refused
refused_of turn.Empty = record { ends = false; number = refusal_number turn.Empty }
refused_of turn.JournalFull = record { ends = true; number = refusal_number turn.JournalFull }
refused_of turn.Memory = record { ends = true; number = refusal_number turn.Memory }
refused_of turn.StoreBroken = record { ends = true; number = refusal_number turn.StoreBroken }

-- What a shift answers if this is the greatest number of a refused turn. If the book is broken, that is told first.
abbrev pub noted_outcome : ℕ → Result (Unit {0}) StreamFault
noted_outcome number = if nat_eq number 0 then Ok tt else (if nat_eq number 1 then Err NoMemory else Err NothingStored)

-- What comes of a shift: the fault of its flush, if that failed. Otherwise the fault for which turns were refused, or `Ok(None)` if there is none:
-- then the stream goes on.
abbrev pub shift_outcome : Result (Unit {0}) StreamFault → Result (Unit {0}) StreamFault → Result (Option Ending) StreamFault
shift_outcome (Err fault) told = Err fault
shift_outcome (Ok done) (Err fault) = Err fault
shift_outcome (Ok done) (Ok none) = Ok None

-- The answer to an offer. If the book refuses it for a reason, the answer tells that. Otherwise its bytes were taken, or memory ran out.
abbrev pub OfferAnswer : Option OfferFault → Result Bool StreamFault → Type 0
OfferAnswer None answer = (answer ≡ Ok true) ⊎ (answer ≡ Err NoMemory)
OfferAnswer (Some reason) answer = answer ≡ offer_left reason

-- None of these steps found that someone who takes an output has gone.
abbrev pub AreTakersThere : Pumped → Type 0
AreTakersThere Nothing = Unit {0}
AreTakersThere Moved = Unit {0}
AreTakersThere GoneThere = ⊥

-- An output was put up to where a mark shows its port in a book, and all of that is confirmed in the book then.
pub record IsPutWhole (mark : ℕ) (b later : BookValue) (old new : OutputValue) : Type 0 where
  pub put : new.next ≡ shown_upto_of b old.port mark
  pub confirmed : new.confirmed ≡ new.next
  pub book : later ≡ after_confirm b old.port new.next

-- What a step of an output came to. If whoever takes it has gone, it counts as not put any further, and nothing is confirmed. Else all that the mark
-- shows is put and confirmed; the output has moved exactly if some of that wasn't put before.
abbrev pub StepCameTo : ℕ → BookValue → BookValue → OutputValue → OutputValue → Pumped → Type 0
StepCameTo mark b later old new Nothing = IsPutWhole mark b later old new × (new.next ≡ old.next)
StepCameTo mark b later old new Moved = IsPutWhole mark b later old new × (old.next < new.next)
StepCameTo mark b later old new GoneThere = (later ≡ b) × (new.next ≡ old.next) × (new.confirmed ≡ old.confirmed)

-- what some steps and those after them come to together
abbrev pub pumped_then : Pumped → Pumped → Pumped
pumped_then GoneThere more = GoneThere
pumped_then Nothing more = more
pumped_then Moved GoneThere = GoneThere
pumped_then Moved Nothing = Moved
pumped_then Moved Moved = Moved

-- How a node with this standing has stopped: it has halted, or it waits while there is input that no node takes any more; `None` if it hasn't
-- stopped.
abbrev pub stopped_of : Standing → Bool → Option Stopped
stopped_of (NodeHalted fault at) stuck = Some (Halted fault at)
stopped_of NodeWaits true = Some Waits
stopped_of NodeWaits false = None
stopped_of Free stuck = None

-- Each byte of input that a port has accepted was taken by its node.
abbrev pub HasTakenAll : BookValue → Type 0
HasTakenAll b = (p : ℕ) → p < length b.state.ports → MAX_HELD ≤ room_of (port_in b p)

-- whether a stream that ends for this reason leaves input that no node takes any more, if nothing was left to do and such input is there
abbrev pub is_stuck : Ending → Bool → Bool → Bool
is_stuck Quiet rests pending = rests && pending
is_stuck Left rests pending = rests && pending
is_stuck _ rests pending = false
