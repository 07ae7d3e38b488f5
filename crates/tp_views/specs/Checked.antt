-- What `check` prints of a topology: lines, or an object of JSON on a line.
use Rattle.std.specs.Prelude.{ℕ, ◌+◌, ◌*◌, Bool, List, [], ◌∷◌, ◌++◌, Option, Some, None, length, codes}
use Rattle.tp_views.specs.Lower.{Turns, AREA_HEAD_BYTES, version_byte, version_for, cut_length, entry_room, reserve, Topology, line_count}
use Rattle.tp_views.specs.Fields.{Field, Named, After, Words, Comma, Number, Name, fields_text}
use Rattle.tp_views.specs.Names.{form_name}

-- how many bytes an area needs for entries that any process may make, each in a group of its own
abbrev pub area_for : Topology → ℕ → ℕ
area_for t entries = cut_length t + (AREA_HEAD_BYTES + 1) + (reserve (line_count t) + entry_room * entries)

-- how many bytes an area has by default: the least with room for 65,536 entries
abbrev pub default_area : Topology → ℕ
default_area t = area_for t 65536

-- how many bytes an area has: as many as were asked for, or the default
abbrev pub wanted_area : Topology → Option ℕ → ℕ
wanted_area t None = default_area t
wanted_area t (Some area) = area

-- how many nodes and ports there are, which version of the head would be written, and the form of the areas
abbrev pub shape_fields : ℕ → ℕ → ℕ → List Field
shape_fields nodes ports version =
    After (codes "nodes ") (codes "{\"nodes\":") (Number nodes) ∷ Named (codes "ports") (Number ports) ∷ Named (codes "version") (Number version)
    ∷ Named (codes "form") (Name (form_name Turns)) ∷ []

-- how many bytes an area has at least, and by default
abbrev pub size_fields : ℕ → ℕ → List Field
size_fields least default =
    After (codes "\nleast area ") (codes ",\"least_area\":") (Number least) ∷ After (codes "\ndefault area ") (codes ",\"default_area\":") (Number default)
    ∷ Words (codes "\n") (codes ",\"areas\":[") ∷ []

-- the area whose journal has room for this many entries, after `before` other areas
abbrev pub area_fields : ℕ → ℕ → ℕ → List Field
area_fields before entries area =
    Comma before ∷ After (codes "entries ") (codes "{\"entries\":") (Number entries) ∷ Named (codes "area") (Number area) ∷ Words (codes "\n") (codes "}") ∷ []

-- one for each of several journals
abbrev pub areas_text : Bool → Topology → ℕ → List ℕ → List ℕ
areas_text json t before [] = []
areas_text json t before (entries ∷ journals) = fields_text json (area_fields before entries (area_for t entries)) ++ areas_text json t (before + 1) journals

-- All that is printed of a topology, as JSON or not.
abbrev pub topology_said : Bool → Topology → List ℕ
topology_said json t =
    fields_text json (shape_fields (length t.pages) t.ports (version_byte (version_for t))) ++ (fields_text json (size_fields (area_for t 1) (default_area t))
    ++ (areas_text json t 0 (4096 ∷ 65536 ∷ 1048576 ∷ []) ++ fields_text json (Words [] (codes "]}\n") ∷ [])))
