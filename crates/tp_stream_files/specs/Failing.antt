-- A sink that fails one call.
use Rattle.std.specs.Prelude.{ℕ, ◌-◌, Bool, true, not, Option, Some, None, if◌then◌else◌, nat_eq}

-- whether the next call succeeds, if one fails after this many that succeed; with `None` all calls succeed
abbrev pub goes_on : Option ℕ → Bool
goes_on None = true
goes_on (Some left) = not (nat_eq left 0)

-- how many calls still succeed after one; after the call that failed all succeed
abbrev pub calls_behind : Option ℕ → Option ℕ
calls_behind None = None
calls_behind (Some left) = if nat_eq left 0 then None else Some (left - 1)
