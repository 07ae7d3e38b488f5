-- The tokens before a line's first Marker.
use Rattle.std.specs.Prelude.{Option, Some, None}
use Rattle.tp_book.specs.Lower.{Token, Data, Ack, Marker, Received, Nothing, JustData, JustAck, DataThenAck, AckThenData}

-- by the first two tokens of a line with at most one Data and one Ack
abbrev pub by_two : Option Token → Option Token → Received
by_two (Some (Data b)) (Some Ack) = DataThenAck b
by_two (Some (Data b)) (Some (Data c)) = JustData b
by_two (Some (Data b)) (Some Marker) = JustData b
by_two (Some (Data b)) None = JustData b
by_two (Some Ack) (Some (Data b)) = AckThenData b
by_two (Some Ack) (Some Ack) = JustAck
by_two (Some Ack) (Some Marker) = JustAck
by_two (Some Ack) None = JustAck
by_two (Some Marker) second = Nothing
by_two None second = Nothing
