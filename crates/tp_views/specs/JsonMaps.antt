-- What a map says of an address, for scripts.
use Rattle.std.specs.Prelude.{ℕ, ◌-◌, true, false, List, [], ◌++◌, Option, Some, None, codes}
use Rattle.std.specs.Fmt.{decimal}
use Rattle.tp_views.specs.Maps.{Row, nearest}

-- a label, and how far an address is past it
abbrev pub name_fields : ℕ → ℕ → Option (List ℕ) → List ℕ
name_fields a at None = []
name_fields a at (Some label) = codes ",\"label\":\"" ++ (label ++ (codes "\",\"offset\":" ++ decimal (a - at)))

abbrev pub label_fields : ℕ → Option Row → List ℕ
label_fields a None = []
label_fields a (Some row) = name_fields a row.address row.label

-- the label and the place, if there is a place
abbrev pub fields_if : ℕ → Option Row → Option Row → List ℕ
fields_if a label None = []
fields_if a label (Some row) = label_fields a label ++ (codes ",\"place\":\"" ++ (row.place ++ codes "\""))

-- All that a map says of an address; no field if it says nothing.
abbrev pub spot_fields : List Row → ℕ → List ℕ
spot_fields rows a = fields_if a (nearest true a rows) (nearest false a rows)
