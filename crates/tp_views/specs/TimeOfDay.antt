-- The time of a check, by the seconds since 1970, if they are known.
use Rattle.std.specs.Prelude.{ℕ, ◌/◌, ◌%◌, List, [], ◌++◌, Option, Some, None, codes}
use Rattle.std.specs.Fmt.{decimal}

-- hours, minutes and seconds, two digits each, in UTC
abbrev pub day_part : ℕ → ℕ → ℕ → List ℕ
day_part hours minutes seconds =
    decimal (hours / 10) ++ (decimal (hours % 10) ++ (codes ":"
    ++ (decimal (minutes / 10) ++ (decimal (minutes % 10) ++ (codes ":"
    ++ (decimal (seconds / 10) ++ (decimal (seconds % 10) ++ codes "Z ")))))))

-- the time of day
abbrev pub time_part : Option ℕ → List ℕ
time_part None = []
time_part (Some clock) = day_part (clock % 86_400 / 3_600) (clock % 3_600 / 60) (clock % 60)

-- the time for scripts, and what ends the object
abbrev pub time_field : Option ℕ → List ℕ
time_field None = codes "}\n"
time_field (Some clock) = codes ",\"time\":" ++ (decimal clock ++ codes "}\n")
