-- The rights of a copy.
use Rattle.std.specs.Prelude.{ℕ, bit_and, bit_or, ◌==◌, if◌then◌else◌}

-- this right, if both a file's group and all others have it
abbrev pub shared_right : (bits right : ℕ) → ℕ
shared_right bits right = if bit_and bits right == right then right else 0

-- the owner's rights, and those that both the group and all others have
abbrev pub shared_rights : ℕ → ℕ
shared_rights bits = bit_or (bit_or (bit_or (bit_and bits 0o700) (shared_right bits 0o044)) (shared_right bits 0o022)) (shared_right bits 0o011)

-- the rights with which a copy's file is made: only the owner's
abbrev pub first_rights : ℕ → ℕ
first_rights bits = bit_and bits 0o700

-- the rights of a copy in a file of the group `copy`, if its device's group is `device`
abbrev pub rights_in : (device copy bits : ℕ) → ℕ
rights_in device copy bits = if copy == device then bits else shared_rights bits
