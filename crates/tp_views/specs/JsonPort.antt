-- What `port --json` prints of a port.
use Rattle.std.specs.Prelude.{ℕ, List, ◌++◌, map, codes}
use Rattle.tp_views.specs.Lower.{decimal, Port}
use Rattle.tp_views.specs.Json.{json_list}

-- the object of a port: its number, how many bytes came before these, and these bytes
abbrev pub port_json : ℕ → ℕ → List ℕ → List ℕ
port_json number from bytes =
    codes "{\"port\":" ++ (decimal number ++ (codes ",\"from\":" ++ (decimal from ++ (codes ",\"bytes\":" ++ (json_list (map decimal bytes) ++ codes "}\n")))))

-- the object of the inputs that no node has taken
abbrev pub pending_json : ℕ → Port → List ℕ
pending_json number port = port_json number port.in_base port.pending

-- the object of the outputs that aren't confirmed
abbrev pub outputs_json : ℕ → Port → List ℕ
outputs_json number port = port_json number port.out_base port.outputs
