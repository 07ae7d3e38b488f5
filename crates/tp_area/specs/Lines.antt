-- The tokens on a line of a cut.
use Rattle.std.specs.Prelude.{List, [], ◌∷◌}
use Rattle.tp_area.specs.Lower.{Token, Byte, Answer}
use Rattle.tp_area.specs.declared.encoding.line.LineTokens.{LineTokens}
use Rattle.tp_area.specs.declared.encoding.line.LineTokens.TheVariants.{Empty, Data, Ack, DataAck, AckData}

abbrev pub tokens_on : LineTokens → List Token
tokens_on Empty = []
tokens_on (Data byte) = Byte byte ∷ []
tokens_on Ack = Answer ∷ []
tokens_on (DataAck byte) = Byte byte ∷ Answer ∷ []
tokens_on (AckData byte) = Answer ∷ Byte byte ∷ []
