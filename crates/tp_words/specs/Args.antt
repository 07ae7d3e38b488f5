-- The values of a command line.
use Rattle.std.specs.Prelude.{◌≡◌, ◌≤◌, ◌<◌, ◌^◌, ℕ, false, true, List, Option, Some, None, IfSome, codes, string_bytes}
use Rattle.tp_words.specs.Lower.{decimal, option_map, Global, String, MAX_STEPS}
use Rattle.tp_words.specs.declared.args.Asked.{Asked}
use Rattle.tp_words.specs.declared.args.Asked.TheVariants.{Help, Try, Trace, TraceDevice, Format, Run as Runs, Compact, Recover, Show, Status, Check, View as Views}
use Rattle.tp_words.specs.declared.args.Run.{Run}
use Rattle.tp_words.specs.declared.args.TheConstants.{MAX_AREA, MAX_WORKERS, QUANTUM}
use Rattle.tp_words.specs.declared.views.JournalPart.{JournalPart}
use Rattle.tp_words.specs.declared.views.TracePart.{TracePart}
use Rattle.tp_words.specs.declared.views.View.{View}
use Rattle.tp_words.specs.declared.views.View.TheVariants.{Node, Image, Journal, Pending, Outputs, NodeJson, PendingJson, OutputsJson, Waits, WaitsJson, WaitsDot}
use Rattle.tp_words.specs.Given.{given, has_flag, IsGivenOr}
use Rattle.tp_words.specs.TraceArgs.{HasNoTurns, IsImageTrace, IsTypedImage}

-- a snapshot begins after a number of entries, or a device is checked again after a number of seconds, if one is given
abbrev pub IsEvery : Option ℕ → Type 0
IsEvery None = Unit {0}
IsEvery (Some every) = (0 < every) × (every < 2 ^ 32)

-- each number of a run is in its range
unfoldable pub IsRun : Run → Type 0
IsRun run = (run.turns < 2 ^ 32) × (0 < run.workers) × (run.workers ≤ MAX_WORKERS) × (0 < run.quantum) × (run.quantum ≤ MAX_STEPS) × IsEvery run.every

-- the last number of a journal, if given, isn't below the first one; a count of entries, if given, isn't 0
abbrev pub IsPart : JournalPart → Type 0
IsPart part = IfSome part.to (λ to. part.from ≤ to) × IfSome part.last (λ last. 0 < last)

abbrev pub IsView : View → Type 0
IsView (Journal part) = IsPart part
IsView (Node node) = Unit {0}
IsView (Image node) = Unit {0}
IsView (Pending port) = Unit {0}
IsView (Outputs port) = Unit {0}
IsView (NodeJson node) = Unit {0}
IsView (PendingJson port) = Unit {0}
IsView (OutputsJson port) = Unit {0}
IsView Waits = Unit {0}
IsView WaitsJson = Unit {0}
IsView WaitsDot = Unit {0}

-- each number is in its range
abbrev pub IsInRange : Asked → Type 0
IsInRange (Help text) = Unit {0}
IsInRange (Try image turns) = turns < 2 ^ 32
IsInRange (Trace trace) = IsImageTrace trace
IsInRange (TraceDevice device part maps) = IfSome part.to (λ to. part.from ≤ to)
IsInRange (Format new) = IfSome new.area (λ area. area ≤ MAX_AREA)
IsInRange (Runs run) = IsRun run
IsInRange (Compact device wait_lock) = Unit {0}
IsInRange (Recover device workers) = (0 < workers) × (workers ≤ MAX_WORKERS)
IsInRange (Show device json) = Unit {0}
IsInRange (Status device every json) = IsEvery every
IsInRange (Check topology images json) = Unit {0}
IsInRange (Views device view maps) = IsView view

-- each option of a journal is what was typed for it; it is shown from its first entry if none was typed, and as JSON if that was
abbrev pub IsTypedPart : List (String Global) → JournalPart → Type 0
IsTypedPart words part = IsGivenOr 0 part.from (given (codes "from") words)
    × (given (codes "to") words ≡ option_map decimal part.to)
    × (given (codes "node") words ≡ option_map decimal part.node)
    × (given (codes "last") words ≡ option_map decimal part.last)
    × (part.json ≡ has_flag (codes "--json") words)

-- the entries of a trace are what was typed; it begins with the first entry if none was typed
abbrev pub IsTypedTrace : List (String Global) → TracePart → Type 0
IsTypedTrace words part = IsGivenOr 0 part.from (given (codes "from") words)
    × (given (codes "to") words ≡ option_map decimal part.to)

-- JSON is shown if it is asked for, and a graph if that is
abbrev pub HasTyped : List (String Global) → View → Type 0
HasTyped words (Node node) = has_flag (codes "--json") words ≡ false
HasTyped words (Image node) = Unit {0}
HasTyped words (Journal part) = IsTypedPart words part
HasTyped words (Pending port) = has_flag (codes "--json") words ≡ false
HasTyped words (Outputs port) = has_flag (codes "--json") words ≡ false
HasTyped words (NodeJson node) = has_flag (codes "--json") words ≡ true
HasTyped words (PendingJson port) = has_flag (codes "--json") words ≡ true
HasTyped words (OutputsJson port) = has_flag (codes "--json") words ≡ true
HasTyped words Waits = (has_flag (codes "--json") words ≡ false) × (has_flag (codes "--dot") words ≡ false)
HasTyped words WaitsJson = (has_flag (codes "--json") words ≡ true) × (has_flag (codes "--dot") words ≡ false)
HasTyped words WaitsDot = (has_flag (codes "--json") words ≡ false) × (has_flag (codes "--dot") words ≡ true)

-- the folder of a view's maps is what was typed for it; a view that names no address has none
abbrev pub IsTypedMaps : List (String Global) → View → Option (String Global) → Type 0
IsTypedMaps words (Node node) maps = given (codes "map") words ≡ option_map string_bytes maps
IsTypedMaps words (NodeJson node) maps = given (codes "map") words ≡ option_map string_bytes maps
IsTypedMaps words Waits maps = given (codes "map") words ≡ option_map string_bytes maps
IsTypedMaps words WaitsJson maps = given (codes "map") words ≡ option_map string_bytes maps
IsTypedMaps words WaitsDot maps = given (codes "map") words ≡ option_map string_bytes maps
IsTypedMaps words (Image node) maps = maps ≡ None
IsTypedMaps words (Journal part) maps = maps ≡ None
IsTypedMaps words (Pending port) maps = maps ≡ None
IsTypedMaps words (Outputs port) maps = maps ≡ None
IsTypedMaps words (PendingJson port) maps = maps ≡ None
IsTypedMaps words (OutputsJson port) maps = maps ≡ None

-- each option of a run is what was typed for it, and else what docs/PROGRAM.md says
abbrev pub IsTypedRun : List (String Global) → Run → Type 0
IsTypedRun words run = (given (codes "turns") words ≡ Some (decimal run.turns))
    × IsGivenOr 2 run.workers (given (codes "workers") words)
    × IsGivenOr QUANTUM run.quantum (given (codes "quantum") words)
    × IsGivenOr 4 run.spare (given (codes "spare") words)
    × (given (codes "every") words ≡ option_map decimal run.every)
    × IsGivenOr 0 run.port (given (codes "port") words)
    × (given (codes "in") words ≡ option_map string_bytes run.input)
    × IsGivenOr 0 run.wait_lock (given (codes "wait-lock") words)

-- each option is what was typed for it, or else what docs/PROGRAM.md says, and JSON is asked for if its flag was typed
abbrev pub WasTyped : List (String Global) → Asked → Type 0
WasTyped words (Help text) = Unit {0}
WasTyped words (Try image turns) = given (codes "turns") words ≡ Some (decimal turns)
WasTyped words (Trace trace) = IsTypedImage words trace × HasNoTurns words trace.lines
WasTyped words (TraceDevice device part maps) = IsTypedTrace words part × (given (codes "map") words ≡ option_map string_bytes maps)
WasTyped words (Format new) = IsGivenOr 0 new.wait_lock (given (codes "wait-lock") words)
WasTyped words (Runs run) = IsTypedRun words run
WasTyped words (Compact device wait_lock) = IsGivenOr 0 wait_lock (given (codes "wait-lock") words)
WasTyped words (Recover device workers) = IsGivenOr 1 workers (given (codes "workers") words)
WasTyped words (Show device json) = json ≡ has_flag (codes "--json") words
WasTyped words (Status device every json) = (given (codes "every") words ≡ option_map decimal every) × (json ≡ has_flag (codes "--json") words)
WasTyped words (Check topology images json) = json ≡ has_flag (codes "--json") words
WasTyped words (Views device view maps) = HasTyped words view × IsTypedMaps words view maps
