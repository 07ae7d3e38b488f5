-- What `run --stream` does.
use Rattle.std.specs.Prelude.{◌≡◌, ◌==◌, ℕ, Bool, true, List, [], ◌∷◌, ◌++◌, codes, map, Option, Some, None, Result, Ok, Err, ◌||◌, if◌then◌else◌, is_some, min, unwrap_or}
use Rattle.tp_stream_files.specs.declared.ends.EndFault.TheVariants as ends
use Rattle.tp_program.specs.Lower.{decimal, memory_text, NodeState, Network, State, LeavesNothingNew, Unopened, StaysUnstreamed, StreamedInto, OutputValue, outputs_named, GivenInput, given_input, PortFile, Ends, Ended, Ending, Halted, StreamFault, Opening, Spare, Port, Unnamed, Task, EndFault, SameFile, Twice, StreamRun}
use Rattle.tp_program.specs.declared.streaming.FilesFault.{FilesFault}
use Rattle.tp_program.specs.declared.streaming.FilesFault.TheVariants.{End, Stop, Stream}

-- The task of a stream. It may always be asked to stop, whatever was typed. If more frames were typed than any node has, their number is the greatest
-- of its kind.
abbrev pub task_of : StreamRun → Task
task_of run = record {
  turns = run.turns;
  until_quiet = run.until_quiet;
  stop_on_halt = run.stop_on_halt;
  until_asked = true;
  workers = unwrap_or run.workers 0;
  quantum = run.quantum;
  spare = min run.spare 65535;
  every = run.every;
  tells = run.has_progress || is_some run.progress_every;
}

-- the task with progress told if standard error may be a terminal, whatever was typed
abbrev pub shown_on : Bool → Task → Task
shown_on on_terminal task = record {
  turns = task.turns;
  until_quiet = task.until_quiet;
  stop_on_halt = task.stop_on_halt;
  until_asked = task.until_asked;
  workers = task.workers;
  quantum = task.quantum;
  spare = task.spare;
  every = task.every;
  tells = task.tells || on_terminal;
}

-- the task with as many threads as there are processors, up to 4, if no number was typed
abbrev pub spread_over : ℕ → Task → Task
spread_over processors task = record {
  turns = task.turns;
  until_quiet = task.until_quiet;
  stop_on_halt = task.stop_on_halt;
  until_asked = task.until_asked;
  workers = if task.workers == 0 then min processors 4 else task.workers;
  quantum = task.quantum;
  spare = task.spare;
  every = task.every;
  tells = task.tells;
}

-- after how many seconds a stream tells again how far it has come
abbrev pub seconds_of : StreamRun → ℕ
seconds_of run = unwrap_or run.progress_every 10

-- the status of a stream whose outputs and inputs can't be opened
abbrev pub end_status : EndFault → ℕ
end_status (SameFile port) = 2
end_status (Twice port) = 2
end_status _ = 1

-- what is explained of outputs and inputs that aren't opened; `None` where that is for the file to say
abbrev pub end_text : EndFault → Option (List ℕ)
end_text (SameFile port) = Some (codes "  Nothing was opened." ++ 10 ∷ [])
end_text (Twice port) = Some (codes "  Nothing was opened." ++ 10 ∷ [])
end_text ends.Memory = Some memory_text
end_text _ = None

-- the line that says of outputs and inputs that they aren't opened; `None` if their fault's name says it
abbrev pub end_line : EndFault → Option (List ℕ)
end_line (SameFile port) =
    Some (codes "tpnet: --out " ++ (decimal port ++ (codes " goes into the file of the device, an input, another port or standard error: give it one of its own" ++ 10 ∷ [])))
end_line (Twice port) = Some (codes "tpnet: port " ++ (decimal port ++ (codes " and another one have the same end" ++ 10 ∷ [])))
end_line _ = None

-- the status of a stream that is refused or fails
abbrev pub fault_status : StreamFault → ℕ
fault_status Spare = 2
fault_status (Port port) = 2
fault_status (Unnamed port) = 2
fault_status _ = 1

-- the status of a stream that was done
abbrev pub ending_status : Ending → ℕ
ending_status Halted = 3
ending_status _ = 0

-- the status of a stream
abbrev pub stream_status : Result Ended FilesFault → ℕ
stream_status (Ok ended) = ending_status ended.why
stream_status (Err (End fault)) = end_status fault
stream_status (Err (Stop fault)) = 2
stream_status (Err (Stream fault)) = fault_status fault

-- what is known of the inputs that were named: which port each is for
abbrev pub inputs_for : Ends → List GivenInput
inputs_for ends = map (λ (end : PortFile). given_input end.port None) ends.ins.items

-- What a stream leaves, and what each output that was named got, in the file at its own path. It handed in bytes at the ports of the inputs that were
-- named, and at no others. If the stream ended before the device was read, the device is as it was.
abbrev pub StreamedOn : Network NodeState → Ends → Result Ended FilesFault → State → State → Type 0
StreamedOn start ends (Ok ended) old new = (got : List OutputValue) × StreamedInto start (inputs_for ends) (Ok ended) (outputs_named ends) got old new
StreamedOn start ends (Err (End fault)) old new = new ≡ old
StreamedOn start ends (Err (Stop fault)) old new = new ≡ old
StreamedOn start ends (Err (Stream fault)) old new = (got : List OutputValue) × StreamedInto start (inputs_for ends) (Err fault) (outputs_named ends) got old new

-- If the stream didn't begin, it left nothing new on the device.
abbrev pub FindsNothingNew : Result Ended FilesFault → State → State → Type 0
FindsNothingNew (Ok ended) old new = Unit {0}
FindsNothingNew (Err (End fault)) old new = new ≡ old
FindsNothingNew (Err (Stop fault)) old new = new ≡ old
FindsNothingNew (Err (Stream fault)) old new = StaysUnstreamed {A = Ended} (Err fault) → LeavesNothingNew old new

-- a fault that comes before the device is read
abbrev pub IsOfEnds : FilesFault → Type 0
IsOfEnds (End fault) = Unit {0}
IsOfEnds (Stop fault) = Unit {0}
IsOfEnds (Stream fault) = ⊥

-- If the outputs and inputs can be opened, a device that doesn't open is refused with its own reason.
abbrev pub IsUnopened : Result Ended FilesFault → Type 0
IsUnopened (Ok ended) = ⊥
IsUnopened (Err (End fault)) = Unit {0}
IsUnopened (Err (Stop fault)) = Unit {0}
IsUnopened (Err (Stream fault)) = (unopened : Unopened) × (fault ≡ Opening unopened)

-- If the outputs and inputs were opened, this is true.
abbrev pub OnOpened : Result Ended FilesFault → Type 0 → Type 0
OnOpened (Ok ended) P = P
OnOpened (Err (End fault)) P = Unit {0}
OnOpened (Err (Stop fault)) P = Unit {0}
OnOpened (Err (Stream fault)) P = P
