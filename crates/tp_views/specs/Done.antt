-- What nodes have done since the checkpoint, by the entries of the journal after it.
use Rattle.std.specs.Prelude.{ℕ, ◌+◌, ◌==◌, ◌&&◌, not, Bool, true, false, if◌then◌else◌, List, [], ◌∷◌, length, filter, Option, None}
use Rattle.tp_views.specs.Lower.{Entry, Token, Data, Ack, Marker, WireEnd, Opened}
use Rattle.tp_views.specs.EntriesTraced.{steps_in, tokens_in}
use Rattle.tp_views.specs.JournalText.{is_of}
use Rattle.tp_views.specs.declared.text.done.Count.{Count}
use Rattle.tp_views.specs.declared.text.done.Count.TheVariants.{Entries, Steps, BytesIn, BytesOut}

-- whether a token is a byte or, if `is_byte` is `false`, an acknowledge; no entry takes a Marker
abbrev pub is_kind : Bool → Token → Bool
is_kind is_byte (Data byte) = is_byte
is_kind is_byte Ack = not is_byte
is_kind is_byte Marker = false

-- whether it also came in on this link
abbrev pub is_counted : Bool → ℕ → ℕ × Token → Bool
is_counted is_byte link m = is_kind is_byte m.1 && (m.0 == link)

-- What is counted of an entry: itself, the steps that it made, the bytes that came in on a link, or those that went out there. A byte went out
-- once its acknowledge came in.
abbrev pub amount : Count → List (Option WireEnd) → Entry → ℕ
amount Entries wires e = 1
amount Steps wires e = steps_in e
amount (BytesIn link) wires e = length (filter (is_counted true link) (tokens_in wires e))
amount (BytesOut link) wires e = length (filter (is_counted false link) (tokens_in wires e))

-- that of an entry if it is one of the node, or if no node is given, in a network of these wires and N nodes; else 0
abbrev pub amount_of : Count → Option ℕ → List (Option WireEnd) → ℕ → Entry → ℕ
amount_of what whose wires N e = if is_of whose wires N e then amount what wires e else 0

-- the sum over these entries
abbrev pub total : Count → Option ℕ → List (Option WireEnd) → ℕ → List (Entry × ℕ) → ℕ
total what whose wires N [] = 0
total what whose wires N (kept ∷ more) = amount_of what whose wires N kept.0 + total what whose wires N more

-- How many steps all nodes of an opened device have made since its checkpoint.
abbrev pub steps_made : Opened → ℕ
steps_made o = total Steps None o.head.topology.wires (length o.now.nodes) o.kept
