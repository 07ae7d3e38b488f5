-- A port that can count one more byte.
use Rattle.std.specs.Prelude.{Bool, nat_lt, ◌^◌, ◌-◌}
use Rattle.tp_model.specs.Network.{Port}

abbrev pub can_count : Port → Bool
can_count port = nat_lt port.in_base (2 ^ 64 - 1)
