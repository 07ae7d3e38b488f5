-- What a line is taken as, by the command that it names and by its places, in order.
use Rattle.std.specs.Prelude.{◌≡◌, ℕ, true, false, List, [], ◌∷◌, Option, Some, None, codes, string_bytes}
use Rattle.tp_words.specs.Lower.{decimal, Global, String}
use Rattle.tp_words.specs.declared.args.Asked.{Asked}
use Rattle.tp_words.specs.declared.args.Asked.TheVariants.{Help, Try, Trace, TraceDevice, Format, Run as Runs, Compact, Recover, Show, Status, Check, View as Views}
use Rattle.tp_words.specs.declared.args.NewDevice.{NewDevice}
use Rattle.tp_words.specs.declared.views.View.{View}
use Rattle.tp_words.specs.declared.views.View.TheVariants.{Node, Image, Journal, Pending, Outputs, NodeJson, PendingJson, OutputsJson, Waits, WaitsJson, WaitsDot}
use Rattle.tp_words.specs.declared.words.Name.{Name}
use Rattle.tp_words.specs.declared.words.Name.TheVariants as of
use Rattle.tp_words.specs.Given.{given, has_flag}
use Rattle.tp_words.specs.Lines.{asks_help, taken}
use Rattle.tp_words.specs.Size.{IsAreaOf}
use Rattle.tp_words.specs.TraceArgs.{lines_command}

-- the line is taken as this command, with these places after it
abbrev pub IsTakenAs : List (String Global) → Name → List (List ℕ) → Type 0
IsTakenAs words name places = taken words ≡ Some (record { name = name; places = places })

-- the line asks for help, and no command takes it
abbrev pub AsksHelp : List (String Global) → Type 0
AsksHelp words = (taken words ≡ None) × (asks_help words ≡ true)

-- a last place that may be there
abbrev pub last_place : Option (List ℕ) → List (List ℕ)
last_place None = []
last_place (Some text) = text ∷ []

-- The places of `format`: what it makes, from what, and the size of an area, if that is no option.
abbrev pub HasFormatPlaces : List (String Global) → NewDevice → Type 0
HasFormatPlaces words new = (place : Option (List ℕ)) × IsAreaOf (given (codes "area") words) place new.area
    × IsTakenAs words of.Format (string_bytes new.device ∷ string_bytes new.topology ∷ string_bytes new.images ∷ last_place place)

-- the command that shows a view
abbrev pub view_command : View → Name
view_command (Node node) = of.Node
view_command (NodeJson node) = of.Node
view_command (Image node) = of.Image
view_command (Journal part) = of.Journal
view_command (Pending port) = of.Port
view_command (PendingJson port) = of.Port
view_command (Outputs port) = of.Port
view_command (OutputsJson port) = of.Port
view_command Waits = of.Waits
view_command WaitsJson = of.Waits
view_command WaitsDot = of.Waits

-- the places of a view after its device
abbrev pub view_places : View → List (List ℕ)
view_places (Node node) = decimal node ∷ []
view_places (NodeJson node) = decimal node ∷ []
view_places (Image node) = decimal node ∷ []
view_places (Journal part) = []
view_places (Pending port) = decimal port ∷ []
view_places (PendingJson port) = decimal port ∷ []
view_places (Outputs port) = decimal port ∷ []
view_places (OutputsJson port) = decimal port ∷ []
view_places Waits = []
view_places WaitsJson = []
view_places WaitsDot = []

-- A port's pending inputs are shown if `--pending` was typed, and else its outputs.
abbrev pub HasViewFlag : List (String Global) → View → Type 0
HasViewFlag words (Pending port) = has_flag (codes "--pending") words ≡ true
HasViewFlag words (PendingJson port) = has_flag (codes "--pending") words ≡ true
HasViewFlag words (Outputs port) = has_flag (codes "--pending") words ≡ false
HasViewFlag words (OutputsJson port) = has_flag (codes "--pending") words ≡ false
HasViewFlag words _ = Unit {0}

-- The line is taken as the command, whose places are what the command says, each at its own place, and no more. `format` refuses a file that is
-- there if `--new` was typed. Help is for a line that asks for it.
abbrev pub HasPlaces : List (String Global) → Asked → Type 0
HasPlaces words (Help text) = AsksHelp words
HasPlaces words (Try image turns) = IsTakenAs words of.Try (string_bytes image ∷ [])
HasPlaces words (Trace trace) = IsTakenAs words (lines_command trace.lines) (string_bytes trace.image ∷ [])
HasPlaces words (TraceDevice device part maps) = IsTakenAs words of.Trace (string_bytes device ∷ decimal part.node ∷ [])
HasPlaces words (Format new) = HasFormatPlaces words new × (new.only_new ≡ has_flag (codes "--new") words)
HasPlaces words (Runs run) = IsTakenAs words of.Run (string_bytes run.device ∷ [])
HasPlaces words (Compact device wait_lock) = IsTakenAs words of.Compact (string_bytes device ∷ [])
HasPlaces words (Recover device workers) = IsTakenAs words of.Recover (string_bytes device ∷ [])
HasPlaces words (Show device json) = IsTakenAs words of.Show (string_bytes device ∷ [])
HasPlaces words (Status device every json) = IsTakenAs words of.Status (string_bytes device ∷ [])
HasPlaces words (Check topology images json) = IsTakenAs words of.Check (string_bytes topology ∷ string_bytes images ∷ [])
HasPlaces words (Views device view maps) = IsTakenAs words (view_command view) (string_bytes device ∷ view_places view) × HasViewFlag words view
