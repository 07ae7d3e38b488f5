-- What a command line asks for, whatever its command.
use Rattle.std.specs.Prelude.{◌≡◌, true, List, [], ◌∷◌, codes, string_bytes}
use Rattle.tp_words.specs.Lower.{Global, String}
use Rattle.tp_words.specs.declared.command.Command.{Command}
use Rattle.tp_words.specs.declared.command.Command.TheVariants.{Stream, Stop, Backup, Other}
use Rattle.tp_words.specs.declared.stream_args.StreamRun.{StreamRun}
use Rattle.tp_words.specs.declared.words.Name.TheVariants as of
use Rattle.tp_words.specs.Args.{IsInRange, WasTyped}
use Rattle.tp_words.specs.BackupArgs.{HasBackupPlaces}
use Rattle.tp_words.specs.Ends.{AreEnds}
use Rattle.tp_words.specs.Given.{has_flag}
use Rattle.tp_words.specs.Places.{HasPlaces, IsTakenAs}
use Rattle.tp_words.specs.StopArgs.{HasStopPlaces, IsWait, WasStopTyped}
use Rattle.tp_words.specs.StreamArgs.{IsStreamRun, IsTypedStream}
use Rattle.tp_words.specs.Typed.{has_word}

-- each number is in its range
abbrev pub IsCommandInRange : Command → Type 0
IsCommandInRange (Stream run) = IsStreamRun run × AreEnds run.ends
IsCommandInRange (Stop request) = IsWait request.wait
IsCommandInRange (Backup backup) = Unit {0}
IsCommandInRange (Other asked) = IsInRange asked

-- each option is what was typed for it; a stream has the word for it
abbrev pub WasCommandTyped : List (String Global) → Command → Type 0
WasCommandTyped words (Stream run) = IsTypedStream words run × (has_word (codes "--stream") words ≡ true)
WasCommandTyped words (Stop request) = WasStopTyped words request
WasCommandTyped words (Backup backup) = Unit {0}
WasCommandTyped words (Other asked) = WasTyped words asked

-- Each flag of a stream is what was typed.
abbrev pub HasStreamFlags : List (String Global) → StreamRun → Type 0
HasStreamFlags words run = (run.until_quiet ≡ has_flag (codes "--until-quiet") words)
    × (run.stop_on_halt ≡ has_flag (codes "--stop-on-halt") words)
    × (run.has_progress ≡ has_flag (codes "--progress") words)

-- The line is taken as a stream, whose one place is the device.
abbrev pub HasStreamPlaces : List (String Global) → StreamRun → Type 0
HasStreamPlaces words run = IsTakenAs words of.Stream (string_bytes run.device ∷ []) × HasStreamFlags words run

-- The line is taken as this command, with these places, and so were its flags typed. Help is for a line that asks for it.
abbrev pub HasCommandPlaces : List (String Global) → Command → Type 0
HasCommandPlaces words (Stream run) = HasStreamPlaces words run
HasCommandPlaces words (Stop request) = HasStopPlaces words request
HasCommandPlaces words (Backup backup) = HasBackupPlaces words backup
HasCommandPlaces words (Other asked) = HasPlaces words asked
