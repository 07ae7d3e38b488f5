-- A map, which says at which addresses a source's labels and instructions are. It has a line for each:
--     ADDRESS NAME FILE:LINE
-- ADDRESS is eight hexadecimal digits with capital letters. NAME is a label, or - for an instruction. Empty lines are skipped.
use Rattle.std.specs.Prelude.{◌≡◌, ℕ, ◌+◌, ◌-◌, ◌==◌, nat_le, Bool, true, false, not, ◌&&◌, ◌||◌, if◌then◌else◌, List, [], ◌∷◌, ◌++◌, length, map, take, drop, get_or, position, bytes_eq, Option, Some, None, is_some, option_copied, Result, Ok, Err, codes}
use Rattle.tp_views.specs.Lower.{decimal, list_all, slice_split, is_utf8, digits_value, ◌>>=◌, is_digit}
use Rattle.tp_views.specs.declared.maps.MapFault.{MapFault}
use Rattle.tp_views.specs.declared.maps.MapFault.TheVariants.{Line, Memory}
use Rattle.tp_views.specs.declared.maps.MapRow.{MapRow}

-- ## A line

-- an address, the label there if the line is a label's, and the source's file and line
pub record Row : Type 0 where
  pub address : ℕ
  pub label : Option (List ℕ)
  pub place : List ℕ

abbrev pub is_hex_digit : ℕ → Bool
is_hex_digit byte = is_digit byte || (nat_le 65 byte && nat_le byte 70)

abbrev pub is_address : List ℕ → Bool
is_address word = length word == 8 && list_all is_hex_digit word

-- whether a byte can be in a text for scripts as it is: it is no control character, no quotation mark and no backslash
abbrev pub is_plain : ℕ → Bool
is_plain byte = nat_le 32 byte && (not (byte == 34) && (not (byte == 92) && not (byte == 127)))

abbrev pub is_text : List ℕ → Bool
is_text bytes = list_all is_plain bytes && is_utf8 bytes

abbrev pub is_name : List ℕ → Bool
is_name word = not (length word == 0) && is_text word

-- whether a byte begins the number of a line, after the colon, or continues it, after another digit
abbrev pub is_of_number : Bool → Bool → ℕ → Bool
is_of_number is_colon is_number byte = (is_colon || is_number) && is_digit byte

-- Whether bytes end with a colon and one digit or more. The byte before them is a colon, or such a digit.
abbrev pub ends_in_line : Bool → Bool → List ℕ → Bool
ends_in_line is_colon is_number [] = is_number
ends_in_line is_colon is_number (byte ∷ bytes) = ends_in_line (byte == 58) (is_of_number is_colon is_number byte) bytes

abbrev pub has_line : List ℕ → Bool
has_line place = ends_in_line false false place

-- whether bytes are a file and a line
abbrev pub is_place : List ℕ → Bool
is_place bytes = has_line bytes && is_text bytes

-- the label that a name is; `None` for -
abbrev pub label_in : List ℕ → Option (List ℕ)
label_in name = if bytes_eq name (codes "-") then None else Some name

-- the row of these words; `None` if they aren't those of a row
abbrev pub row_if : List ℕ → List ℕ → List ℕ → Option Row
row_if word name place =
    if is_address word && (is_name name && is_place place)
    then Some (record { address = digits_value 16 word; label = label_in name; place = place })
    else None

-- the row of an address's word and of what comes after it, if its first space is known
abbrev pub cut_row : List ℕ → List ℕ → Option ℕ → Option Row
cut_row word rest None = None
cut_row word rest (Some at) = row_if word (take at rest) (drop (at + 1) rest)

-- the row that a line is; `None` if it isn't one
abbrev pub line_row : List ℕ → Option Row
line_row line =
    if get_or line 8 0 == 32 then cut_row (take 8 line) (drop 9 line) (position (λ byte. byte == 32) (drop 9 line)) else None

-- ## A text

-- the rows with one more row; or the number of the line, if it isn't one of a map
abbrev pub after_row : List Row → ℕ → Option Row → Result (List Row) ℕ
after_row rows number None = Err number
after_row rows number (Some row) = Ok (rows ++ row ∷ [])

abbrev pub after_line : List Row → ℕ → List ℕ → Result (List Row) ℕ
after_line rows number line = if length line == 0 then Ok rows else after_row rows number (line_row line)

-- the rows after all lines, numbered from the given number on; or the number of the first line that isn't one of a map
unfoldable pub after_lines : List Row → ℕ → List (List ℕ) → Result (List Row) ℕ
after_lines rows number [] = Ok rows
after_lines rows number (line ∷ lines) = do
  after ← after_line rows number line
  after_lines after (number + 1) lines

-- the lines of what comes after the end of a line
abbrev pub parts_behind : Option (List ℕ) → List (List ℕ)
parts_behind None = []
parts_behind (Some rest) = slice_split (λ byte. byte == 10) rest

-- The rows of a map, or the number of the first line that isn't one of a map, counted from 1. Lines end in LF; the last LF may be missing.
abbrev pub read_map : List ℕ → Result (List Row) ℕ
read_map text = after_lines [] 1 (slice_split (λ byte. byte == 10) text)

-- why this map can't be read
abbrev pub IsMapFault : Result (List Row) ℕ → MapFault → Type 0
IsMapFault said Memory = Unit {0}
IsMapFault said (Line number) = said ≡ Err number

-- ## Rows as code keeps them

abbrev pub row_seen : MapRow → Row
row_seen row = record { address = row.address; label = option_copied row.label; place = row.place.now }

abbrev pub rows_seen : List MapRow → List Row
rows_seen rows = map row_seen rows

-- ## What a map says of an address

-- whether a row counts: all do, or only those of labels
abbrev pub counts : Bool → Row → Bool
counts of_labels row = not of_labels || is_some row.label

-- the address of a row that was found; 0 if none was
abbrev pub least : Option Row → ℕ
least None = 0
least (Some row) = row.address

-- whether a row counts, and is at or below an address, and no further from it than the row that was found
abbrev pub is_nearer : Option Row → Bool → ℕ → Row → Bool
is_nearer found of_labels a row = counts of_labels row && (nat_le (least found) row.address && nat_le row.address a)

-- The row that counts and is the nearest at or below an address; the last one if several are at one address. It is `found` if no row is as near.
abbrev pub nearest_from : Option Row → Bool → ℕ → List Row → Option Row
nearest_from found of_labels a [] = found
nearest_from found of_labels a (row ∷ rows) = nearest_from (if is_nearer found of_labels a row then Some row else found) of_labels a rows

abbrev pub nearest : Bool → ℕ → List Row → Option Row
nearest of_labels a rows = nearest_from None of_labels a rows

-- whether the row has this label
abbrev pub is_labelled : List ℕ → Option (List ℕ) → Bool
is_labelled label None = false
is_labelled label (Some other) = bytes_eq other label

-- the address of a label; that of the first one if several have this name
abbrev pub address_of : List ℕ → List Row → Option ℕ
address_of label [] = None
address_of label (row ∷ rows) = if is_labelled label row.label then Some row.address else address_of label rows

-- a label, and how far an address is past it
abbrev pub name_part : ℕ → ℕ → Option (List ℕ) → List ℕ
name_part a at None = []
name_part a at (Some label) = codes " " ++ (label ++ (codes "+" ++ decimal (a - at)))

abbrev pub label_part : ℕ → Option Row → List ℕ
label_part a None = []
label_part a (Some row) = name_part a row.address row.label

-- after words, the label and the place, if there is a place
abbrev pub spot_if : List ℕ → ℕ → Option Row → Option Row → List ℕ
spot_if words a label None = []
spot_if words a label (Some row) = words ++ (label_part a label ++ (codes " (" ++ (row.place ++ codes ")")))

-- All that a map says of an address, after these words: the nearest label at or below it, and the place of what is there. If the map has no row at or
-- below it, that is nothing.
abbrev pub spot_text : List ℕ → List Row → ℕ → List ℕ
spot_text words rows a = spot_if words a (nearest true a rows) (nearest false a rows)

-- ## The maps of a device's nodes

-- each node's own rows, and those for all nodes without rows of their own
pub record Maps : Type 0 where
  pub own : List (List Row)
  pub all : List Row

abbrev pub own_or : List Row → List Row → List Row
own_or own all = if length own == 0 then all else own

-- the rows of node i
abbrev pub rows_of : Maps → ℕ → List Row
rows_of maps i = own_or (get_or maps.own i []) maps.all

abbrev pub no_maps : Maps
no_maps = record { own = []; all = [] }

-- the rows of a text; none if it is no map
abbrev pub rows_read : Result (List Row) ℕ → List Row
rows_read (Ok rows) = rows
rows_read (Err number) = []

-- the maps of these texts; each node's own one is at its number
abbrev pub maps_in : List (List ℕ) → List ℕ → Maps
maps_in own all = record { own = map (λ text. rows_read (read_map text)) own; all = rows_read (read_map all) }
