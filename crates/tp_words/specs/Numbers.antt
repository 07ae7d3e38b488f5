-- Options that take numbers, and why what was typed for one of them is refused.
use Rattle.std.specs.Prelude.{◌≡◌, ◌≢◌, ◌⊎◌, ◌≤◌, ◌<◌, ◌^◌, ℕ, List, [], ◌∷◌, IfSome, IsSomeAnd, codes}
use Rattle.tp_words.specs.Lower.{decimal, Global, String, MAX_STEPS}
use Rattle.tp_words.specs.declared.arg_fault.ArgFault.{ArgFault}
use Rattle.tp_words.specs.declared.arg_fault.ArgFault.TheVariants.{Range, Number, Memory}
use Rattle.tp_words.specs.declared.args.TheConstants.{MAX_TURNS, MAX_WAIT, MAX_WORKERS}
use Rattle.tp_words.specs.declared.trace_args.TheConstants.{MAX_WATCHED}
use Rattle.tp_words.specs.Given.{given}

-- An option that takes a number: its name, and the least and the most that it takes.
pub record NumberOption : Type 0 where
  pub id : List ℕ
  pub least : ℕ
  pub most : ℕ

-- that of entries after which a snapshot begins, or of seconds after which a device is checked again
abbrev pub every_option : NumberOption
every_option = record { id = codes "every"; least = 1; most = 4294967295 }

-- that of seconds to wait for another process that holds the device
abbrev pub wait_option : NumberOption
wait_option = record { id = codes "wait-lock"; least = 0; most = MAX_WAIT }

-- that of turns
abbrev pub turns_option : NumberOption
turns_option = record { id = codes "turns"; least = 0; most = MAX_TURNS }

-- that of seconds to wait until a stream has ended
abbrev pub stop_option : NumberOption
stop_option = record { id = codes "wait"; least = 1; most = MAX_WAIT }

-- that of threads that open a device
abbrev pub recover_option : NumberOption
recover_option = record { id = codes "workers"; least = 1; most = MAX_WORKERS }

-- that of entries, nodes and ports, which may be any
abbrev pub any_option : List ℕ → NumberOption
any_option id = record { id = id; least = 0; most = 18446744073709551615 }

-- those of a journal, in the order in which they are checked
abbrev pub journal_options : List NumberOption
journal_options = any_option (codes "from") ∷ any_option (codes "to") ∷ any_option (codes "node")
    ∷ record { id = codes "last"; least = 1; most = 18446744073709551615 } ∷ []

-- those of a trace of a device
abbrev pub trace_options : List NumberOption
trace_options = any_option (codes "from") ∷ any_option (codes "to") ∷ []

-- those of a trace of an image
abbrev pub image_options : List NumberOption
image_options = record { id = codes "steps"; least = 1; most = MAX_TURNS } ∷ record { id = codes "bytes"; least = 1; most = MAX_WATCHED } ∷ []

-- those of a run
abbrev pub run_options : List NumberOption
run_options =
    turns_option
    ∷ record { id = codes "workers"; least = 1; most = MAX_WORKERS }
    ∷ record { id = codes "quantum"; least = 1; most = MAX_STEPS }
    ∷ any_option (codes "spare")
    ∷ every_option
    ∷ any_option (codes "port")
    ∷ wait_option
    ∷ []

-- it takes this number
abbrev pub Takes : NumberOption → ℕ → Type 0
Takes option number = (option.least ≤ number) × (number ≤ option.most)

-- what was typed for it, if something was, is the decimal of a number that it takes
abbrev pub Fits : List (String Global) → NumberOption → Type 0
Fits words option = IfSome (given option.id words) (λ text. (number : ℕ) × Takes option number × (text ≡ decimal number))

-- something was typed for it, and is the decimal of no such number
abbrev pub IsUnfit : List (String Global) → NumberOption → Type 0
IsUnfit words option = IsSomeAnd (given option.id words) (λ text. (number : ℕ) → Takes option number → text ≢ decimal number)

-- Why what was typed for it isn't taken: out of memory, or it is no decimal of a number that it takes.
abbrev pub IsNumberFault : List (String Global) → NumberOption → ArgFault → Type 0
IsNumberFault words option Memory = Unit {0}
IsNumberFault words option (Range id least most) = (option ≡ record { id = id.now; least = least; most = most }) × IsUnfit words option
IsNumberFault words option _ = ⊥

-- That is told of the first of several options for which something is; what was typed for each one before it fits.
abbrev pub IsFirstNumberFault : List (String Global) → List NumberOption → ArgFault → Type 0
IsFirstNumberFault words [] fault = ⊥
IsFirstNumberFault words (option ∷ options) fault =
    IsNumberFault words option fault ⊎ (Fits words option × IsFirstNumberFault words options fault)

-- the text is the decimal of no number that a node, a port or an entry may have
abbrev pub IsNoNumber : List ℕ → Type 0
IsNoNumber text = (number : ℕ) → number < 2 ^ 64 → text ≢ decimal number

-- why a number at its place isn't taken
abbrev pub IsPlaceFault : List ℕ → ArgFault → Type 0
IsPlaceFault text Memory = Unit {0}
IsPlaceFault text Number = IsNoNumber text
IsPlaceFault text _ = ⊥

-- what was typed for each of several options fits
abbrev pub AllFit : List (String Global) → List NumberOption → Type 0
AllFit words [] = Unit {0}
AllFit words (option ∷ options) = Fits words option × AllFit words options
