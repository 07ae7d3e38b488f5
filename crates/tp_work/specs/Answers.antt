-- The answer to a call that may fail.
use Rattle.std.specs.Prelude.{◌≡◌, Option, Some, None, Result, Ok, Err}

-- The call fails for this reason, if there is one. If there is none, memory may still be out.
abbrev pub RefusesFor : {A F : Type 0} → F → Option F → Result A F → Type 0
RefusesFor memory None (Ok x) = Unit {0}
RefusesFor memory None (Err e) = e ≡ memory
RefusesFor memory (Some reason) (Ok x) = ⊥
RefusesFor memory (Some reason) (Err e) = e ≡ reason
