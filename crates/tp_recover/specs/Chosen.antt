-- What comes before the areas, and which of these is chosen.
use Rattle.std.specs.Prelude.{Bool, List, ℕ, Result, Ok}
use Rattle.tp_recover.specs.Lower.{OpenFault, Head, head_of, chosen_area, ◌>>=◌}

-- the head of a device with these bytes, and whether its second area is chosen
abbrev pub chosen_in : List ℕ → Result (Head × Bool) OpenFault
chosen_in bytes = do
  head ← head_of bytes
  second ← chosen_area head.areas bytes
  Ok (head, second)
