-- The ends of wires, as a text names them.
use Rattle.std.specs.Prelude.{ℕ, ◌-◌, if◌then◌else◌, List, [], ◌∷◌, Option, Some, None}
use Rattle.tp_net.specs.Lower.{option_map, is_link_digit, is_name}

-- the number of a link, a digit from 0 to 3
abbrev pub link_in : List ℕ → Option ℕ
link_in (digit ∷ []) = if is_link_digit digit then Some (digit - 48) else None
link_in digits = None

-- the end with this name, and with this number after a dot or without one
abbrev pub end_of_parts : List ℕ → Option (List ℕ) → Option (List ℕ × Option ℕ)
end_of_parts name None = if is_name name then Some (name, None) else None
end_of_parts name (Some digits) = if is_name name then option_map (λ k. (name, Some k)) (link_in digits) else None
