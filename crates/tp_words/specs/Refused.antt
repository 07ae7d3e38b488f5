-- Why a line asks for nothing.
use Rattle.std.specs.Prelude.{◌≡◌, ◌≢◌, ◌⊎◌, ◌<◌, ◌≤◌, ℕ, true, false, List, [], ◌∷◌, Option, Some, None, codes, drop, length}
use Rattle.tp_words.specs.Lower.{decimal, Global, String}
use Rattle.tp_words.specs.declared.arg_fault.ArgFault.{ArgFault}
use Rattle.tp_words.specs.declared.arg_fault.ArgFault.TheVariants.{Words, Order, Many, Stream, BothExplain, Missing, Memory}
use Rattle.tp_words.specs.declared.args.TheConstants.{MAX_WORDS}
use Rattle.tp_words.specs.declared.command.CommandFault.{CommandFault}
use Rattle.tp_words.specs.declared.command.CommandFault.TheVariants.{Arg, Ends}
use Rattle.tp_words.specs.declared.words.Name.{Name}
use Rattle.tp_words.specs.declared.words.Name.TheVariants as of
use Rattle.tp_words.specs.Explaining.{explaining_typed}
use Rattle.tp_words.specs.Given.{all_given, given, has_flag, IsGivenOr}
use Rattle.tp_words.specs.Lines.{Taken, asks_help, is_used, taken}
use Rattle.tp_words.specs.Numbers.{IsFirstNumberFault, IsNumberFault, IsPlaceFault, every_option, image_options, journal_options, recover_option, run_options, stop_option, trace_options, turns_option, wait_option}
use Rattle.tp_words.specs.Parsing.{IsMistake}
use Rattle.tp_words.specs.Size.{IsAreaFault}
use Rattle.tp_words.specs.StreamRefused.{IsRunRefused}
use Rattle.tp_words.specs.TraceArgs.{IsInputFault}
use Rattle.tp_words.specs.Typed.{has_word}

-- There is another count of places, which no line has that is taken.
abbrev pub IsMiscounted : ℕ → List (List ℕ) → ArgFault → Type 0
IsMiscounted count places fault = (fault ≡ Missing) × (length places ≢ count)

-- memory ran out
abbrev pub IsMemory : ArgFault → Type 0
IsMemory fault = fault ≡ Memory

-- the last entry that is asked for is before the first one
abbrev pub IsOrderFault : List (String Global) → ArgFault → Type 0
IsOrderFault words fault =
    (fault ≡ Order) × (from : ℕ) × (to : ℕ) × IsGivenOr 0 from (given (codes "from") words) × (given (codes "to") words ≡ Some (decimal to)) × (to < from)

-- why a part of a journal isn't taken
abbrev pub IsJournalFault : List (String Global) → ArgFault → Type 0
IsJournalFault words fault = IsFirstNumberFault words journal_options fault ⊎ IsOrderFault words fault

-- why a node of a device and its entries aren't
abbrev pub IsTraceFault : List (String Global) → List ℕ → ArgFault → Type 0
IsTraceFault words node fault = IsPlaceFault node fault ⊎ IsFirstNumberFault words trace_options fault ⊎ IsOrderFault words fault

-- why steps of an image aren't
abbrev pub IsImageFault : List (String Global) → ArgFault → Type 0
IsImageFault words fault = IsFirstNumberFault words image_options fault ⊎ IsInputFault (all_given (codes "in") words) fault

-- why the numbers of a run aren't; a line without turns isn't taken
abbrev pub IsRunNumbersFault : List (String Global) → ArgFault → Type 0
IsRunNumbersFault words fault = IsFirstNumberFault words run_options fault ⊎ ((fault ≡ Missing) × (given (codes "turns") words ≡ None))

-- two forms were typed for who waits for whom; no line with both is taken
abbrev pub IsGraphFault : List (String Global) → ArgFault → Type 0
IsGraphFault words fault = (fault ≡ Missing) × (has_flag (codes "--json") words ≡ true) × (has_flag (codes "--dot") words ≡ true)

-- why a number after a device isn't taken
abbrev pub IsNumberedFault : List (List ℕ) → ArgFault → Type 0
IsNumberedFault (device ∷ number ∷ []) fault = IsPlaceFault number fault
IsNumberedFault places fault = IsMiscounted 2 places fault

-- why a trace isn't: of an image, or of a device's node
abbrev pub IsTracedFault : List (String Global) → List (List ℕ) → ArgFault → Type 0
IsTracedFault words (image ∷ []) fault = IsImageFault words fault
IsTracedFault words (device ∷ node ∷ []) fault = IsTraceFault words node fault
IsTracedFault words places fault = (fault ≡ Missing) × (length places ≢ 1) × (length places ≢ 2)

-- why a new device isn't
abbrev pub IsFormatFault : List (String Global) → List (List ℕ) → ArgFault → Type 0
IsFormatFault words (device ∷ topology ∷ images ∷ []) fault = IsAreaFault (given (codes "area") words) None fault ⊎ IsNumberFault words wait_option fault
IsFormatFault words (device ∷ topology ∷ images ∷ area ∷ []) fault =
    IsAreaFault (given (codes "area") words) (Some area) fault ⊎ IsNumberFault words wait_option fault
IsFormatFault words places fault = (fault ≡ Missing) × (length places ≢ 3) × (length places ≢ 4)

-- Why a line that is taken as a command asks for nothing: memory ran out, or a value isn't one that the command takes. Other reasons are of no line
-- that is taken.
abbrev pub IsRefusedAs : Name → List (String Global) → List (List ℕ) → ArgFault → Type 0
IsRefusedAs of.Try words places fault = IsNumberFault words turns_option fault ⊎ IsImageFault words fault ⊎ IsMiscounted 1 places fault
IsRefusedAs of.Trace words places fault = IsTracedFault words places fault
IsRefusedAs of.Check words places fault = IsMemory fault ⊎ IsMiscounted 2 places fault
IsRefusedAs of.Format words places fault = IsFormatFault words places fault
IsRefusedAs of.Run words places fault = IsRunNumbersFault words fault ⊎ IsMiscounted 1 places fault
IsRefusedAs of.Stop words places fault = IsNumberFault words stop_option fault ⊎ IsMiscounted 1 places fault
IsRefusedAs of.Compact words places fault = IsNumberFault words wait_option fault ⊎ IsMiscounted 1 places fault
IsRefusedAs of.Backup words places fault = IsMemory fault ⊎ IsMiscounted 2 places fault
IsRefusedAs of.Recover words places fault = IsNumberFault words recover_option fault ⊎ IsMiscounted 1 places fault
IsRefusedAs of.Show words places fault = IsMemory fault ⊎ IsMiscounted 1 places fault
IsRefusedAs of.Status words places fault = IsNumberFault words every_option fault ⊎ IsMiscounted 1 places fault
IsRefusedAs of.Waits words places fault = IsMemory fault ⊎ IsGraphFault words fault ⊎ IsMiscounted 1 places fault
IsRefusedAs of.Node words places fault = IsNumberedFault places fault
IsRefusedAs of.Image words places fault = IsNumberedFault places fault
IsRefusedAs of.Journal words places fault = IsJournalFault words fault ⊎ IsMiscounted 1 places fault
IsRefusedAs of.Port words places fault = IsNumberedFault places fault
IsRefusedAs of.Stream words places fault = ⊥

-- that of any command but a stream
abbrev pub IsOtherRefused : Name → List (String Global) → List (List ℕ) → CommandFault → Type 0
IsOtherRefused name words places (Arg fault) = IsRefusedAs name words places fault
IsOtherRefused name words places (Ends fault) = ⊥

-- that of a stream
abbrev pub IsStreamRefused : List (String Global) → List (List ℕ) → CommandFault → Type 0
IsStreamRefused words places fault =
    IsRunRefused words fault ⊎ ((fault ≡ Arg Missing) × ((length places ≢ 1) ⊎ (has_word (codes "--stream") words ≡ false)))

abbrev pub IsLineRefused : Name → List (String Global) → List (List ℕ) → CommandFault → Type 0
IsLineRefused of.Stream words places fault = IsStreamRefused words places fault
IsLineRefused name words places fault = IsOtherRefused name words places fault

abbrev pub IsTakenRefused : Taken → List (String Global) → CommandFault → Type 0
IsTakenRefused line words fault = IsLineRefused line.name words line.places fault

-- What is told of a line that no command takes: what `clap` says of it, that an option of it goes with `--stream`, or that a word is missing. A line that
-- asks for help isn't told that a word is missing.
abbrev pub IsUntaken : List (String Global) → ArgFault → Type 0
IsUntaken words (Words error) = IsMistake error
IsUntaken words (Stream id) = is_used id.now (drop 1 words) ≡ true
IsUntaken words Missing = asks_help words ≡ false
IsUntaken words Memory = Unit {0}
IsUntaken words _ = ⊥

abbrev pub IsUntakenRefused : List (String Global) → CommandFault → Type 0
IsUntakenRefused words (Arg fault) = IsUntaken words fault
IsUntakenRefused words (Ends fault) = ⊥

abbrev pub IsRefusedBy : Option Taken → List (String Global) → CommandFault → Type 0
IsRefusedBy None words fault = IsUntakenRefused words fault
IsRefusedBy (Some line) words fault = IsTakenRefused line words fault

-- Why a line of at most `MAX_WORDS` words asks for nothing: memory ran out; or no command takes it; or one does, but not with these values; or both words
-- for explanations are there, and the line doesn't ask for help.
abbrev pub IsRefusedShort : List (String Global) → CommandFault → Type 0
IsRefusedShort words fault =
    (fault ≡ Arg Memory) ⊎ IsRefusedBy (taken words) words fault
    ⊎ ((fault ≡ Arg BothExplain) × (explaining_typed words ≡ None) × (asks_help words ≡ false))

-- Why a line asks for nothing. If it has more words, just that is told.
abbrev pub IsRefusedLine : List (String Global) → CommandFault → Type 0
IsRefusedLine words fault =
    ((fault ≡ Arg Many) × (MAX_WORDS < length words)) ⊎ (IsRefusedShort words fault × (length words ≤ MAX_WORDS))
