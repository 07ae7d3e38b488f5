-- What the program does for the words of a command line.
use Rattle.std.specs.Prelude.{◌≡◌, ◌⊎◌, ◌≤◌, ◌++◌, ◌∷◌, ℕ, Bool, true, false, List, [], Option, Some, string_bytes}
use Rattle.tp_program.specs.Lower.{Appends, Global, String, History, HasCommandPlaces, IsRefusedLine, WasCommandTyped, Asked, Help, Try, Trace, TraceDevice, Check, Format, Runs, Compact, Recover, Show, Status, Command, CommandFault, Stream, Stop, Backup, Other, StreamRun, recovered, shown, is_help, asks_help}
use Rattle.tp_words.specs.declared.args.Asked.TheVariants.{View}
use Rattle.tp_program.specs.Backups.{PrintsCopied}
use Rattle.tp_program.specs.CompactFile.{CompactedFile}
use Rattle.tp_program.specs.Devices.{DeviceCall, Holds, MadeAtMost, WasRefused}
use Rattle.tp_program.specs.RunFile.{RanFile}
use Rattle.tp_program.specs.Stops.{StopAnswered}
use Rattle.tp_program.specs.StreamFile.{StreamedFile}
use Rattle.tp_program.specs.Uses.{Checked, FormattedFile, HasBackup, HasRequested, HasStatus, LooksAtOne, ReadsOne, Shows, TracedBy, TracedFiles, Tried, ViewedBy, WasUnbegun, part_of}

-- Help was printed if the status says so. No device was opened.
pub record Helped (text : List ℕ) (old new : List DeviceCall) (was now : Option (List ℕ)) (status : ℕ) : Type 0 where
  pub unopened : new ≡ old
  pub printed : status ≡ 0 → Appends was now text

-- whether a run is asked for
abbrev pub is_of_run : Asked → Bool
is_of_run (Runs run) = true
is_of_run _ = false

-- What a command did. `format` makes its device, in a file that it makes at most once. A command that changes no device makes none, and opens none to
-- be written.
abbrev pub CarriedOut : History → Asked → (old new : List DeviceCall) → (was now : Option (List ℕ)) → ℕ → Type 0
CarriedOut history (Runs run) old new was now status = RanFile history run old new was now status
CarriedOut history (Compact device wait_lock) old new was now status = CompactedFile history (string_bytes device) old new was now status
CarriedOut history (Format device) old new was now status = MadeAtMost (string_bytes device.device) old new
CarriedOut history (Help text) old new was now status = Helped (string_bytes text) old new was now status
CarriedOut history _ old new was now status = new ≡ old

-- Either the command was refused before, or it did what was asked for.
abbrev pub AnsweredHeld : History → Asked → (old new : List DeviceCall) → (was now : Option (List ℕ)) → ℕ → Type 0
AnsweredHeld history asked old new was now status = WasRefused old new was now status ⊎ CarriedOut history asked old new was now status

-- the call that asks for the device that is to be written, for as many seconds as were typed; no call if the command writes none
abbrev pub asking_for : Asked → Bool → List DeviceCall
asking_for (Format new) ok = Holds (string_bytes new.device) new.wait_lock ok ∷ []
asking_for (Runs run) ok = Holds (string_bytes run.device) run.wait_lock ok ∷ []
asking_for (Compact device wait_lock) ok = Holds (string_bytes device) wait_lock ok ∷ []
asking_for _ ok = []

-- The device that is to be written is held, if the command writes one.
abbrev pub HoldsWritten : Asked → (held : Option (List ℕ)) → Type 0
HoldsWritten (Format new) held = held ≡ Some (string_bytes new.device)
HoldsWritten (Runs run) held = held ≡ Some (string_bytes run.device)
HoldsWritten (Compact device wait_lock) held = held ≡ Some (string_bytes device)
HoldsWritten _ held = Unit {0}

-- Before anything else, the command asked for the device that it writes, if there is one. Either another process had it, and the command was refused;
-- or the command got it, and then was refused or did what was asked for.
abbrev pub AnsweredAs : History → Asked → (old new : List DeviceCall) → (was now : Option (List ℕ)) → ℕ → Type 0
AnsweredAs history asked old new was now status =
    WasRefused (old ++ asking_for asked false) new was now status
    ⊎ AnsweredHeld history asked (old ++ asking_for asked true) new was now status

-- Before anything else, the stream asked for its device. Either another process had it, and the stream was refused before it read anything of
-- standard input (`unread`); or it got the device and went on.
abbrev pub StreamedHeld : History → (unread : Type 0) → StreamRun → (old new : List DeviceCall) → (was now : Option (List ℕ)) → ℕ → Type 0
StreamedHeld history unread run old new was now status =
    WasRefused (old ++ Holds (string_bytes run.device) run.wait_lock false ∷ []) new was now status × unread
    ⊎ StreamedFile history run (old ++ Holds (string_bytes run.device) run.wait_lock true ∷ []) new was now status

-- What was done for a command. Only a stream reads standard input. `backup` and `stop` open no device to be written.
abbrev pub CommandDone : History → (unread : Type 0) → Command → (old new : List DeviceCall) → (was now : Option (List ℕ)) → ℕ → Type 0
CommandDone history unread (Stream run) old new was now status = StreamedHeld history unread run old new was now status
CommandDone history unread (Stop request) old new was now status = unread × StopAnswered request old new was now status
CommandDone history unread (Backup backup) old new was now status = unread × (new ≡ old) × (status ≡ 0 → PrintsCopied was now)
CommandDone history unread (Other asked) old new was now status = unread × AnsweredAs history asked old new was now status

-- What a command printed, and did with files other than those it writes; `run` and `compact` use theirs as said above.
abbrev pub FilesUsed : Asked → (old new : List DeviceCall) → (was now : Option (List ℕ)) → ℕ → Type 0
FilesUsed (Help text) old new was now status = new ≡ old
FilesUsed (Try image turns) old new was now status = ReadsOne (string_bytes image) old new (Tried turns was now status)
FilesUsed (Trace trace) old new was now status = WasUnbegun was now status ⊎ TracedFiles trace old new was now status
FilesUsed (Check topology images json) old new was now status = status ≡ 0 → Checked json (string_bytes topology) (string_bytes images) old new was now
FilesUsed (Format device) old new was now status = FormattedFile device old new was now status
FilesUsed (Runs run) old new was now status = Unit {0}
FilesUsed (Compact device wait_lock) old new was now status = Unit {0}
FilesUsed (Recover device workers) old new was now status = LooksAtOne (string_bytes device) old new (Shows recovered was now status)
FilesUsed (Show device json) old new was now status = LooksAtOne (string_bytes device) old new (Shows (shown json) was now status)
FilesUsed (Status device every json) old new was now status = HasStatus json (string_bytes device) old new was now status
FilesUsed (TraceDevice device part maps) old new was now status = LooksAtOne (string_bytes device) old new (TracedBy part maps was now status)
FilesUsed (View device view maps) old new was now status = LooksAtOne (string_bytes device) old new (ViewedBy view maps was now status)

-- Either the command was refused with nothing printed and no such file used, or it used them in that way.
abbrev pub UsedFor : Asked → (old new : List DeviceCall) → (was now : Option (List ℕ)) → ℕ → Type 0
UsedFor asked old new was now status = WasRefused old new was now status ⊎ FilesUsed asked old new was now status

-- That is true of each command. A stream uses its outputs and inputs as said above.
abbrev pub CommandUsed : Command → (old new : List DeviceCall) → (was now : Option (List ℕ)) → ℕ → Type 0
CommandUsed (Stream run) old new was now status = Unit {0}
CommandUsed (Stop request) old new was now status = status ≡ 0 → HasRequested (string_bytes request.device) old new
CommandUsed (Backup backup) old new was now status =
    status ≡ 0 → HasBackup (string_bytes backup.device) (part_of (string_bytes backup.copy)) (string_bytes backup.copy) old new was now
CommandUsed (Other asked) old new was now status = UsedFor asked old new was now status

-- the greatest status of a command; only a stream that ended because a node halted has 3
abbrev pub most_status : Command → ℕ
most_status (Stream run) = 3
most_status (Stop request) = 2
most_status (Backup backup) = 2
most_status (Other asked) = 2

-- The words were read as a command, which is help just if a word asks for that. The command was done: with devices that are written (`old` and `new`),
-- and with other files (`unused` and `used`).
pub record DidCommand (history : History) (unread : Type 0) (words : List (String Global)) (old new unused used : List DeviceCall) (was now : Option (List ℕ)) (status : ℕ) : Type 0 where
  pub command : Command
  pub typed : WasCommandTyped words command
  pub places : HasCommandPlaces words command
  pub help : is_help command ≡ asks_help words
  pub few : status ≤ most_status command
  pub done : CommandDone history unread command old new was now status
  pub files : CommandUsed command unused used was now status

-- The words were refused: they are too many, no command takes them, or not with these values, or memory ran out. No device was opened, and no file.
pub record RefusedWords (words : List (String Global)) (old new unused used : List DeviceCall) (was now : Option (List ℕ)) (status : ℕ) : Type 0 where
  pub fault : CommandFault
  pub reason : IsRefusedLine words fault
  pub refused : WasRefused old new was now status
  pub idle : used ≡ unused

-- What the program did for the words of a command line: either it refused them, or it read them as a command, and did it.
abbrev pub Answered : History → (unread : Type 0) → List (String Global) → (old new unused used : List DeviceCall) → (was now : Option (List ℕ)) → ℕ → Type 0
Answered history unread words old new unused used was now status =
    RefusedWords words old new unused used was now status ⊎ DidCommand history unread words old new unused used was now status
