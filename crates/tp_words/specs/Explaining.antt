-- When more is said of what a command did.
use Rattle.std.specs.Prelude.{◌≡◌, ◌⊎◌, Bool, true, false, if◌then◌else◌, List, Option, Some, None, codes}
use Rattle.tp_words.specs.Lower.{Global, String}
use Rattle.tp_words.specs.declared.command.Command.{Command}
use Rattle.tp_words.specs.declared.command.Command.TheVariants.{Other}
use Rattle.tp_words.specs.declared.args.Asked.TheVariants.{Help}
use Rattle.tp_words.specs.declared.explaining.Explaining.{Explaining}
use Rattle.tp_words.specs.declared.explaining.Explaining.TheVariants.{Always, Never, OnTerminal}
use Rattle.tp_words.specs.declared.explaining.More.{More}
use Rattle.tp_words.specs.Given.{has_flag}

-- what was typed of explanations: `--explain`, `--no-explain`, or neither; none if both were
abbrev pub explaining_typed : List (String Global) → Option Explaining
explaining_typed words =
    if has_flag (codes "--explain") words then (if has_flag (codes "--no-explain") words then None else Some Always)
    else (if has_flag (codes "--no-explain") words then Some Never else Some OnTerminal)

-- What more is said, if standard error is a terminal or isn't. A refusal is explained if `--explain` was typed, or on a terminal if neither word was.
-- Nodes that have halted are told if `--explain` was typed.
abbrev pub more_said : Explaining → Bool → More
more_said Always on_terminal = record { of_refusals = true; of_halts = true }
more_said Never on_terminal = record { of_refusals = false; of_halts = false }
more_said OnTerminal on_terminal = record { of_refusals = on_terminal; of_halts = false }

-- it is asked how to call the program, or which version it is
abbrev pub is_help : Command → Bool
is_help (Other (Help text)) = true
is_help _ = false

-- What was typed of explanations is this. A command for which both words were typed is refused, except help.
abbrev pub SaysExplaining : List (String Global) → Command → Explaining → Type 0
SaysExplaining words command explaining = (explaining_typed words ≡ Some explaining) ⊎ ((explaining_typed words ≡ None) × (is_help command ≡ true))
