-- How many calls have failed.
use Rattle.std.specs.Prelude.{ℕ}
use Rattle.tp_disk.specs.declared.failures.Failures.{Failures}

-- the number of failed calls that the history tells
abbrev pub failure_count : Failures → ℕ
failure_count failures = failures.history.told.failures
