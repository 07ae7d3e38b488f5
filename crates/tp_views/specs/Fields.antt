-- What is printed of a thing: a list of fields, as words of a line or as JSON.
use Rattle.std.specs.Prelude.{ℕ, Bool, if◌then◌else◌, List, [], ◌∷◌, ◌++◌, Option, Some, None, codes}
use Rattle.tp_views.specs.Lower.{decimal, hex_byte, hex_word}
use Rattle.tp_views.specs.Json.{comma, json_bool}
use Rattle.tp_views.specs.declared.text.fields.Field.{Field as GivenField}
use Rattle.tp_views.specs.declared.text.fields.Field.TheVariants.{Named as GivenNamed, After as GivenAfter, InJson as GivenInJson, Words as GivenWords, Item as GivenItem, Comma as GivenComma}
use Rattle.tp_views.specs.declared.text.fields.Value.{Value as GivenValue}
use Rattle.tp_views.specs.declared.text.fields.Value.TheVariants.{Number as GivenNumber, Large as GivenLarge, Byte as GivenByte, Word as GivenWord, Name as GivenName, Bit as GivenBit, Flag as GivenFlag, Rate as GivenRate}

-- What a field says: a number; a byte or a word of a node; a name; whether something is true, by a digit or by a word; or by how much a count grew in
-- a second, if that is known.
pub data Value : Type 0 where
  Number : ℕ → Value
  Byte : ℕ → Value
  Word : ℕ → Value
  Name : List ℕ → Value
  Bit : Bool → Value
  Flag : Bool → Value
  Rate : Option ℕ → Value

-- A value after its name; a value after words of a line, or after words of JSON; a value that only JSON has; words of a line, or of JSON; which item of
-- a list it is, which a line says; that items come before it, which JSON says.
pub data Field : Type 0 where
  Named : (name : List ℕ) (value : Value) → Field
  After : (line json : List ℕ) (value : Value) → Field
  InJson : (words : List ℕ) (value : Value) → Field
  Words : (line json : List ℕ) → Field
  Item : (name : List ℕ) (number : ℕ) → Field
  Comma : (before : ℕ) → Field

-- how a value is spelt in a line, and in JSON
abbrev pub value_line : Value → List ℕ
value_line (Number n) = decimal n
value_line (Byte byte) = hex_byte byte
value_line (Word word) = hex_word word
value_line (Name name) = name
value_line (Bit is_so) = if is_so then codes "1" else codes "0"
value_line (Flag is_so) = if is_so then codes "yes" else codes "no"
value_line (Rate None) = []
value_line (Rate (Some rate)) = codes " +" ++ (decimal rate ++ codes "/s")

abbrev pub value_json : Value → List ℕ
value_json (Number n) = decimal n
value_json (Byte byte) = decimal byte
value_json (Word word) = decimal word
value_json (Name name) = codes "\"" ++ (name ++ codes "\"")
value_json (Bit is_so) = json_bool is_so
value_json (Flag is_so) = json_bool is_so
value_json (Rate None) = codes "null"
value_json (Rate (Some rate)) = decimal rate

-- how a field is
abbrev pub field_line : Field → List ℕ
field_line (Named name value) = (codes " " ++ (name ++ codes " ")) ++ value_line value
field_line (After line json value) = line ++ value_line value
field_line (InJson words value) = []
field_line (Words line json) = line
field_line (Item name number) = name ++ (codes " " ++ decimal number)
field_line (Comma before) = []

abbrev pub field_json : Field → List ℕ
field_json (Named name value) = (codes ",\"" ++ (name ++ codes "\":")) ++ value_json value
field_json (After line json value) = json ++ value_json value
field_json (InJson words value) = words ++ value_json value
field_json (Words line json) = json
field_json (Item name number) = comma number
field_json (Comma before) = comma before

-- fields, one after the other
abbrev pub fields_text : Bool → List Field → List ℕ
fields_text json [] = []
fields_text json (field ∷ fields) = (if json then field_json field else field_line field) ++ fields_text json fields

-- the fields that are given to the printer
abbrev pub value_given : GivenValue → Value
value_given (GivenNumber n) = Number n
value_given (GivenLarge n) = Number n
value_given (GivenByte byte) = Byte byte
value_given (GivenWord word) = Word word
value_given (GivenName name) = Name name.now
value_given (GivenBit is_so) = Bit is_so
value_given (GivenFlag is_so) = Flag is_so
value_given (GivenRate rate) = Rate rate

abbrev pub field_given : GivenField → Field
field_given (GivenNamed name value) = Named name.now (value_given value)
field_given (GivenAfter line json value) = After line.now json.now (value_given value)
field_given (GivenInJson words value) = InJson words.now (value_given value)
field_given (GivenWords line json) = Words line.now json.now
field_given (GivenItem name number) = Item name.now number
field_given (GivenComma before) = Comma before
