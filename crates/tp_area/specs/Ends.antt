-- Which numbers of a head are those of ends.
use Rattle.std.specs.Prelude.{ℕ, ◌-◌, ◌*◌, Bool, nat_lt, nat_le, if◌then◌else◌}
use Rattle.tp_area.specs.Lower.{HeadVersion, MAX_NODES, MAX_PORTS, first_port}

-- it is the number of no end, or of an end that a network may have: a link of one of its nodes, or one of its ports
abbrev pub is_end_number : HeadVersion → ℕ → Bool
is_end_number version number =
    if nat_lt number (first_port version) then nat_le number (4 * MAX_NODES) else nat_lt (number - first_port version) MAX_PORTS
