-- The bytes before an area's cut image.
use Rattle.std.specs.Prelude.{ℕ, ◌+◌, List, ◌++◌, Result, Ok}
use Rattle.tp_area.specs.Lower.{Form, OpenFault, ◌>>=◌, u8_at, u32_bytes, u64_at, u64_bytes, base_number, generation_of, is_open, base_of, front_in, Topology}
use Rattle.tp_area.specs.declared.encoding.front.AreaFront.{AreaFront}
use Rattle.tp_area.specs.declared.encoding.front.CutFront.{CutFront}

-- the gate and the generation of the area that begins here
abbrev pub area_front : ℕ → List ℕ → AreaFront
area_front start bytes = record { is_open = is_open (u8_at bytes start); generation = u64_at bytes (start + 1) }

-- the generation of a content of this form and the number of entries in its cut, if the fields before its images are good
abbrev pub cut_front : List ℕ → Form → CutFront
cut_front content form = record { generation = generation_of content; form = form; base = base_of content }

abbrev pub front_given : Topology → ℕ → List ℕ → Result CutFront OpenFault
front_given t at content = front_in t at content >>= (λ form. Ok (cut_front content form))

-- the fields as they are written: a generation, the length of a cut image, and the number of entries in its cut with the form of the area
abbrev pub fields_bytes : ℕ → ℕ → Form → ℕ → List ℕ
fields_bytes generation cut form base = u64_bytes generation ++ (u32_bytes cut ++ u64_bytes (base_number form base))
