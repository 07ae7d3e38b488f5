-- The words of a command line of `stop`.
use Rattle.std.specs.Prelude.{◌≡◌, ◌≤◌, ◌<◌, ℕ, List, [], ◌∷◌, Option, Some, None, codes, string_bytes}
use Rattle.tp_words.specs.Lower.{decimal, option_map, Global, String}
use Rattle.tp_words.specs.declared.args.TheConstants.{MAX_WAIT}
use Rattle.tp_words.specs.declared.stop_args.StopRequest.{StopRequest}
use Rattle.tp_words.specs.declared.words.Name.TheVariants as of
use Rattle.tp_words.specs.Given.{given}
use Rattle.tp_words.specs.Places.{IsTakenAs}

-- the seconds for which it is waited are in their range, if some were typed
abbrev pub IsWait : Option ℕ → Type 0
IsWait None = Unit {0}
IsWait (Some seconds) = (0 < seconds) × (seconds ≤ MAX_WAIT)

-- the command waits for it exactly if seconds were typed, and for as many
abbrev pub WasStopTyped : List (String Global) → StopRequest → Type 0
WasStopTyped words request = given (codes "wait") words ≡ option_map decimal request.wait

-- the line is taken as `stop`, whose one place is the device
abbrev pub HasStopPlaces : List (String Global) → StopRequest → Type 0
HasStopPlaces words request = IsTakenAs words of.Stop (string_bytes request.device ∷ [])
