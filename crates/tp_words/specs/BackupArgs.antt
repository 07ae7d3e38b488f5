-- The words of a command line of `backup`.
use Rattle.std.specs.Prelude.{List, [], ◌∷◌, string_bytes}
use Rattle.tp_words.specs.Lower.{Global, String}
use Rattle.tp_words.specs.declared.backup_args.Backup.{Backup}
use Rattle.tp_words.specs.declared.words.Name.TheVariants as of
use Rattle.tp_words.specs.Places.{IsTakenAs}

-- the line is taken as `backup`, whose two places are the device and the copy, in this order
abbrev pub HasBackupPlaces : List (String Global) → Backup → Type 0
HasBackupPlaces words backup = IsTakenAs words of.Backup (string_bytes backup.device ∷ string_bytes backup.copy ∷ [])
