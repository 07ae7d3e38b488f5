-- The statuses of commands.
use Rattle.std.proofs.Common.{◌≡◌, ◌≤◌, ℕ, true, List, arith, codes}
use Rattle.tp_program.proofs.Lower.{Global, String, WasCommandTyped, has_word, Command, Stream, Stop, Backup, Other}
use Rattle.tp_program.specs.Answers.{most_status}

-- a status is at most 3
pub at_most_3 : (command : Command) (status : ℕ) → status ≤ most_status command → status ≤ 3
at_most_3 (Stream run) status few = few
at_most_3 (Stop request) status few = omega (arith, few)
at_most_3 (Backup backup) status few = omega (arith, few)
at_most_3 (Other asked) status few = omega (arith, few)

-- and 3 for a stream alone, whose words have `--stream`
pub of_a_stream : (words : List (String Global)) (command : Command) (status : ℕ) → WasCommandTyped words command → status ≤ most_status command → status ≡ 3
    → has_word (codes "--stream") words ≡ true
of_a_stream words (Stream run) status typed few three = typed.1
of_a_stream words (Stop request) status typed few three = absurd (omega (arith, few, three))
of_a_stream words (Backup backup) status typed few three = absurd (omega (arith, few, three))
of_a_stream words (Other asked) status typed few three = absurd (omega (arith, few, three))
