use Rattle.std.proofs.Common.{ℕ, ◌≡◌, ◌≤◌, ◌+◌, ◌*◌, Bool, true, false, refl}
use Rattle.std.specs.Prelude.{◌||◌, nat_lt}
use Rattle.tp_law_device.proofs.Lower.{ltb-false, entry_room, reserve, has_no_numbers}
use Rattle.tp_law_device.proofs.GroupsFit as GroupsFit
use Rattle.tp_law_device.proofs.groups_fit.Goals as goal

-- neither test holds
first_false : (a b : Bool) → (a || b) ≡ false → a ≡ false
first_false true b h = cc
first_false false b h = refl

within : (most bytes : ℕ) (b : Bool) → (nat_lt most bytes || b) ≡ false → bytes ≤ most
within most bytes b h = ltb-false most bytes (first_false (nat_lt most bytes) b h)

pub returns-clause-divided : goal.returns-clause-divided
returns-clause-divided c = GroupsFit.groups_fit

pub returns-clause-opened : goal.returns-clause-opened
returns-clause-opened c = GroupsFit.verdict_has_room

pub returns-clause-ordinary : goal.returns-clause-ordinary
returns-clause-ordinary c = λ most lines entries reserved number more h.
    within most (entry_room * (entries + reserved + more) + reserve lines) (has_no_numbers (number + reserved + more)) h

pub returns-clause-reserved : goal.returns-clause-reserved
returns-clause-reserved c = λ most entries reserved number h.
    within most (entry_room * (entries + reserved + 1)) (has_no_numbers (number + reserved + 1)) h
