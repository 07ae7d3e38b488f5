-- A text as a list of parts: words, numbers, and bytes and words in hexadecimal.
use Rattle.std.specs.Prelude.{ℕ, List, [], ◌∷◌, ◌++◌}
use Rattle.tp_views.specs.Lower.{decimal, hex_byte, hex_word}
use Rattle.tp_views.specs.declared.text.parts.Part.{Part}
use Rattle.tp_views.specs.declared.text.parts.Part.TheVariants.{Text, Number, Large, Byte, Word}

-- how a part is spelt
abbrev pub part_text : Part → List ℕ
part_text (Text text) = text.now
part_text (Number number) = decimal number
part_text (Large number) = decimal number
part_text (Byte byte) = hex_byte byte
part_text (Word word) = hex_word word

-- the texts of the parts, one after the other
abbrev pub parts_text : List Part → List ℕ
parts_text [] = []
parts_text (part ∷ parts) = part_text part ++ parts_text parts
