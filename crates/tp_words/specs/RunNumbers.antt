-- The numbers of a command line of `run`, and those of them that a stream has, too.
use Rattle.std.specs.Prelude.{◌≡◌, ◌≤◌, ◌<◌, ◌^◌, List, Some, [], ◌∷◌, codes}
use Rattle.tp_words.specs.Lower.{decimal, option_map, Global, String, MAX_STEPS}
use Rattle.tp_words.specs.declared.args.TheConstants.{MAX_WORKERS, QUANTUM}
use Rattle.tp_words.specs.declared.device_args.Pace.{Pace}
use Rattle.tp_words.specs.declared.device_args.RunNumbers.{RunNumbers}
use Rattle.tp_words.specs.Args.{IsEvery}
use Rattle.tp_words.specs.Given.{given, IsGivenOr}
use Rattle.tp_words.specs.Numbers.{NumberOption, every_option}

-- the options that say how turns are made, in the order in which they are checked
abbrev pub pace_options : List NumberOption
pace_options =
    record { id = codes "quantum"; least = 1; most = MAX_STEPS }
    ∷ record { id = codes "spare"; least = 0; most = 18446744073709551615 }
    ∷ every_option
    ∷ []

-- Their numbers are in their ranges.
pub record IsPace (pace : Pace) : Type 0 where
  pub quantum : (0 < pace.quantum) × (pace.quantum ≤ MAX_STEPS)
  pub every : IsEvery pace.every

-- They are what was typed for them, and else what docs/PROGRAM.md says.
pub record IsTypedPace (words : List (String Global)) (pace : Pace) : Type 0 where
  pub quantum : IsGivenOr QUANTUM pace.quantum (given (codes "quantum") words)
  pub spare : IsGivenOr 4 pace.spare (given (codes "spare") words)
  pub every : given (codes "every") words ≡ option_map decimal pace.every

-- The numbers of a run are in their ranges.
pub record AreRunNumbers (numbers : RunNumbers) : Type 0 where
  pub turns : numbers.turns < 2 ^ 32
  pub workers : (0 < numbers.workers) × (numbers.workers ≤ MAX_WORKERS)
  pub pace : IsPace numbers.pace

-- They are what was typed for them, and else what docs/PROGRAM.md says.
pub record AreTypedRunNumbers (words : List (String Global)) (numbers : RunNumbers) : Type 0 where
  pub turns : given (codes "turns") words ≡ Some (decimal numbers.turns)
  pub workers : IsGivenOr 2 numbers.workers (given (codes "workers") words)
  pub pace : IsTypedPace words numbers.pace
  pub port : IsGivenOr 0 numbers.port (given (codes "port") words)
  pub wait_lock : IsGivenOr 0 numbers.wait_lock (given (codes "wait-lock") words)
