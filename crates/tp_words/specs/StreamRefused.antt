-- Why a line that is taken as a stream asks for none, and what is told first if several things are wrong.
use Rattle.std.specs.Prelude.{List, [], ◌∷◌, codes}
use Rattle.tp_words.specs.Lower.{Global, String, MAX_STEPS}
use Rattle.tp_words.specs.declared.args.TheConstants.{MAX_WORKERS}
use Rattle.tp_words.specs.declared.command.CommandFault.{CommandFault}
use Rattle.tp_words.specs.declared.command.CommandFault.TheVariants.{Arg, Ends}
use Rattle.tp_words.specs.declared.stream_args.TheConstants.{MAX_PROGRESS}
use Rattle.tp_words.specs.Ends.{IsRefused}
use Rattle.tp_words.specs.Numbers.{AllFit, IsFirstNumberFault, NumberOption, every_option, turns_option, wait_option}

-- the options of a stream that take numbers, in the order in which they are checked
abbrev pub number_options : List NumberOption
number_options =
    turns_option
    ∷ record { id = codes "progress-every"; least = 1; most = MAX_PROGRESS }
    ∷ record { id = codes "workers"; least = 1; most = MAX_WORKERS }
    ∷ record { id = codes "quantum"; least = 1; most = MAX_STEPS }
    ∷ record { id = codes "spare"; least = 0; most = 18446744073709551615 }
    ∷ every_option
    ∷ wait_option
    ∷ []

-- First its numbers are checked, in order, and then the ends of its ports: the first fault is told. Memory may run out at any place.
abbrev pub IsRunRefused : List (String Global) → CommandFault → Type 0
IsRunRefused words (Arg fault) = IsFirstNumberFault words number_options fault
IsRunRefused words (Ends fault) = AllFit words number_options × IsRefused words fault
