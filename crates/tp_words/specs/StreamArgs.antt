-- The values of a command line with `--stream`.
use Rattle.std.specs.Prelude.{◌≡◌, ◌≤◌, ◌<◌, ◌^◌, ℕ, List, Option, Some, None, codes, string_bytes}
use Rattle.tp_words.specs.Lower.{decimal, option_map, Global, String, MAX_STEPS}
use Rattle.tp_words.specs.declared.args.TheConstants.{MAX_WORKERS, QUANTUM}
use Rattle.tp_words.specs.declared.stream_args.StreamNumbers.{StreamNumbers}
use Rattle.tp_words.specs.declared.stream_args.StreamRun.{StreamRun}
use Rattle.tp_words.specs.Args.{IsEvery}
use Rattle.tp_words.specs.Ends.{WereTyped}
use Rattle.tp_words.specs.Given.{given, IsGivenOr}
use Rattle.tp_words.specs.Standard.{AreStandard}

-- turns have no bound, or one in its range
abbrev pub IsBound : Option ℕ → Type 0
IsBound None = Unit {0}
IsBound (Some turns) = turns < 2 ^ 32

-- the seconds after which it is said again how far a stream has come are in their range, if some were typed
abbrev pub IsProgressEvery : Option ℕ → Type 0
IsProgressEvery None = Unit {0}
IsProgressEvery (Some seconds) = (0 < seconds) × (seconds ≤ 3600)

-- the threads that make turns are in theirs, if some were typed
abbrev pub IsTeam : Option ℕ → Type 0
IsTeam None = Unit {0}
IsTeam (Some workers) = (0 < workers) × (workers ≤ MAX_WORKERS)

-- each number of a stream is in its range
unfoldable pub IsStreamRun : StreamRun → Type 0
IsStreamRun run = IsBound run.turns × (0 < run.quantum) × (run.quantum ≤ MAX_STEPS) × IsEvery run.every × IsProgressEvery run.progress_every × IsTeam run.workers

-- Each number of a stream is what was typed for it, or else what docs/PROGRAM.md says. Its turns have a bound exactly if one was typed, and it ends
-- by a file exactly if one was typed. Each end of a port is what was typed for it.
abbrev pub IsTypedStream : List (String Global) → StreamRun → Type 0
IsTypedStream words run = (given (codes "turns") words ≡ option_map decimal run.turns)
    × (given (codes "stop-file") words ≡ option_map string_bytes run.stop_file)
    × (given (codes "progress-every") words ≡ option_map decimal run.progress_every)
    × (given (codes "workers") words ≡ option_map decimal run.workers)
    × IsGivenOr QUANTUM run.quantum (given (codes "quantum") words)
    × IsGivenOr 4 run.spare (given (codes "spare") words)
    × (given (codes "every") words ≡ option_map decimal run.every)
    × IsGivenOr 0 run.wait_lock (given (codes "wait-lock") words)
    × WereTyped words run.ends
    × AreStandard words run.ends

-- The numbers of a stream are in their ranges.
pub record AreInRange (numbers : StreamNumbers) : Type 0 where
  pub turns : IsBound numbers.turns
  pub progress_every : IsProgressEvery numbers.progress_every
  pub workers : IsTeam numbers.workers
  pub quantum : (0 < numbers.quantum) × (numbers.quantum ≤ MAX_STEPS)
  pub every : IsEvery numbers.every

-- They are what was typed for them, and else what docs/PROGRAM.md says.
pub record AreTyped (words : List (String Global)) (numbers : StreamNumbers) : Type 0 where
  pub turns : given (codes "turns") words ≡ option_map decimal numbers.turns
  pub progress_every : given (codes "progress-every") words ≡ option_map decimal numbers.progress_every
  pub workers : given (codes "workers") words ≡ option_map decimal numbers.workers
  pub quantum : IsGivenOr QUANTUM numbers.quantum (given (codes "quantum") words)
  pub spare : IsGivenOr 4 numbers.spare (given (codes "spare") words)
  pub every : given (codes "every") words ≡ option_map decimal numbers.every
  pub wait_lock : IsGivenOr 0 numbers.wait_lock (given (codes "wait-lock") words)
