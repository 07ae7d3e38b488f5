-- What `status` prints of one check of a device: a line, or an object of JSON on a line.
use Rattle.std.specs.Prelude.{◌≡◌, ℕ, ◌+◌, ◌-◌, ◌*◌, ◌/◌, ◌==◌, Bool, false, true, if◌then◌else◌, List, [], ◌∷◌, ◌++◌, length, map, codes, Option, Some, None, slice_get}
use Rattle.tp_views.specs.Lower.{decimal, option_map, journal_of, NodeState, Port, Opened, next_of, Entry, Form, WireEnd, standing, entries_left, Standing, Halted, Free, fault_name}
use Rattle.tp_node.specs.declared.standing.Standing.TheVariants.{Waits}
use Rattle.tp_views.specs.Done.{steps_made, total}
use Rattle.tp_views.specs.Fields.{Field, Named, After, Words, Item, Comma, Number, Word, Name, Flag, Rate, fields_text}
use Rattle.tp_views.specs.Json.{json_items}
use Rattle.tp_views.specs.Names.{form_name}
use Rattle.tp_views.specs.TimeOfDay.{time_field, time_part}
use Rattle.tp_views.specs.declared.text.done.Count.TheVariants.{Entries, Steps}
use Rattle.tp_views.specs.declared.text.status.PortSeen.{PortSeen}
use Rattle.tp_views.specs.declared.text.status.Seen.{Seen}
use Rattle.tp_views.specs.declared.text.status.Since.{Since}

-- how many bytes a port has accepted, and how many it has put out
abbrev pub bytes_accepted : Port → ℕ
bytes_accepted port = port.in_base + length port.pending

abbrev pub bytes_put_out : Port → ℕ
bytes_put_out port = port.out_base + length port.outputs

-- what a check sees of a port
abbrev pub port_seen : Port → PortSeen
port_seen port = record { accepted = bytes_accepted port; out = bytes_put_out port }

-- what a check sees, with which the next one compares
pub record IsSeen (at : ℕ) (o : Opened) (seen : Seen) : Type 0 where
  pub time : seen.at ≡ at
  pub next : seen.next ≡ next_of o
  pub ports : seen.ports.items ≡ map port_seen o.now.ports

-- the number of the next entry at the check before, and how many milliseconds ago that was
abbrev pub next_before : ℕ → Option Seen → Option Since
next_before at before = option_map (λ seen. record { count = seen.next; millis = at - seen.at }) before

-- what the check before saw of a port; `None` if there was no such check or port
abbrev pub port_before : Option Seen → ℕ → Option PortSeen
port_before None number = None
port_before (Some seen) number = slice_get seen.ports.items number

-- how many milliseconds ago the check before was
abbrev pub millis_since : ℕ → Option Seen → ℕ
millis_since at None = 0
millis_since at (Some seen) = at - seen.at

-- what the check before counted of a port
abbrev pub accepted_before : ℕ → Option PortSeen → Option Since
accepted_before millis before = option_map (λ port. record { count = port.accepted; millis = millis }) before

abbrev pub out_before : ℕ → Option PortSeen → Option Since
out_before millis before = option_map (λ port. record { count = port.out; millis = millis }) before

-- by how much a count grew in a second, rounded down, if it was seen before
abbrev pub rate : ℕ → Option Since → Option ℕ
rate now None = None
rate now (Some since) = if since.millis == 0 then None else Some ((now - since.count) * 1000 / since.millis)

-- how much of the room is in use, in percent, rounded down
abbrev pub percent : ℕ → ℕ → ℕ
percent entries room = if room == 0 then 0 else entries * 100 / room

-- whether a process holds the device, which checkpoint it has, the form of its area, and the number of the next entry
abbrev pub front_fields : Bool → ℕ → Form → ℕ → Option Since → List Field
front_fields held generation form next since =
    After (codes "running ") (codes "{\"running\":") (Flag held) ∷ Named (codes "generation") (Number generation) ∷ Named (codes "form") (Name (form_name form))
    ∷ Named (codes "next") (Number next) ∷ After [] (codes ",\"next_per_second\":") (Rate (rate next since)) ∷ []

-- how many entries the journal has, and how many it has room for
abbrev pub journal_fields : ℕ → ℕ → List Field
journal_fields entries room =
    Named (codes "entries") (Number entries) ∷ After (codes " of ") (codes ",\"room\":") (Number room)
    ∷ After (codes " (") (codes ",\"percent\":") (Number (percent entries room)) ∷ Words (codes " %)") (codes ",\"ports\":[") ∷ []

-- how many steps the journal's entries made
abbrev pub steps_part : ℕ → List ℕ
steps_part steps = codes " steps " ++ decimal steps

-- what a port has accepted, and how much of that no node has taken; what it has put out, and how much of that isn't confirmed
abbrev pub port_fields : ℕ → ℕ → Option ℕ → ℕ → ℕ → Option ℕ → ℕ → List Field
port_fields number accepted accepted_rate pending out out_rate unconfirmed =
    Item (codes " port") number ∷ After (codes " accepted ") (codes "{\"accepted\":") (Number accepted)
    ∷ After [] (codes ",\"accepted_per_second\":") (Rate accepted_rate) ∷ Named (codes "pending") (Number pending) ∷ Named (codes "put_out") (Number out)
    ∷ After [] (codes ",\"put_out_per_second\":") (Rate out_rate) ∷ Named (codes "unconfirmed") (Number unconfirmed) ∷ Words [] (codes "}") ∷ []

abbrev pub port_seen_fields : ℕ → ℕ → Option PortSeen → Port → List Field
port_seen_fields number millis before port =
    port_fields number (bytes_accepted port) (rate (bytes_accepted port) (accepted_before millis before)) (length port.pending)
    (bytes_put_out port) (rate (bytes_put_out port) (out_before millis before)) (length port.outputs)

-- each port is at its number
abbrev pub ports_text : Bool → ℕ → ℕ → Option Seen → List Port → List ℕ
ports_text json number at before [] = []
ports_text json number at before (port ∷ ports) =
    fields_text json (port_seen_fields number (millis_since at before) (port_before before number) port) ++ ports_text json (number + 1) at before ports

-- why a node halted, and the instruction at which it did, after `before` others that have
abbrev pub halted_fields : ℕ → ℕ → Standing → List Field
halted_fields before number (Halted fault at) =
    Comma before ∷ After (codes " halted ") (codes "{\"node\":") (Number number) ∷ After (codes " ") (codes ",\"fault\":") (Name (fault_name fault))
    ∷ After (codes " at ") (codes ",\"address\":") (Word at) ∷ Words [] (codes "}") ∷ []
halted_fields before number Waits = []
halted_fields before number Free = []

abbrev pub halted_after : ℕ → Standing → ℕ
halted_after before (Halted fault at) = before + 1
halted_after before Waits = before
halted_after before Free = before

abbrev pub halts_text : Bool → ℕ → ℕ → List NodeState → List ℕ
halts_text json before number [] = []
halts_text json before number (node ∷ nodes) =
    fields_text json (halted_fields before number (standing node)) ++ halts_text json (halted_after before (standing node)) (number + 1) nodes

-- each node that has halted, or that none has
abbrev pub halted_or_none : List ℕ → List ℕ
halted_or_none [] = codes " halted none"
halted_or_none (byte ∷ bytes) = byte ∷ bytes

abbrev pub halts_json : List NodeState → List ℕ
halts_json nodes = codes "],\"halted\":[" ++ (halts_text true 0 0 nodes ++ codes "]")

-- how many entries and steps a node has made since the checkpoint, in a network of these wires and N nodes
abbrev pub counts_item : ℕ → ℕ → List ℕ
counts_item entries steps = codes "{\"entries\":" ++ (decimal entries ++ (codes ",\"steps\":" ++ (decimal steps ++ codes "}")))

abbrev pub node_item : ℕ → List (Option WireEnd) → ℕ → List (Entry × ℕ) → List ℕ
node_item number wires N kept = counts_item (total Entries (Some number) wires N kept) (total Steps (Some number) wires N kept)

-- each node is at its number
abbrev pub node_items : ℕ → List (Option WireEnd) → ℕ → List (Entry × ℕ) → List NodeState → List (List ℕ)
node_items number wires N kept [] = []
node_items number wires N kept (node ∷ nodes) = node_item number wires N kept ∷ node_items (number + 1) wires N kept nodes

-- how many steps all nodes made, and how many each of them made
abbrev pub steps_json : ℕ → List ℕ
steps_json steps = codes ",\"steps\":" ++ (decimal steps ++ codes ",\"nodes\":[")

abbrev pub done_json : Opened → List ℕ
done_json o =
    steps_json (steps_made o)
    ++ (json_items 0 (node_items 0 o.head.topology.wires (length o.now.nodes) o.kept o.now.nodes) ++ codes "]")

-- How many entries the journal has room for, the first one after its cut.
abbrev pub entries_room : Opened → ℕ
entries_room o = entries_left 0 o.base (journal_of o.head.topology o.head.areas.length)

-- The line of a device that opened. `held` says whether a process held it, `at` is the time in milliseconds, and `before` is what the check before
-- saw. `clock` is the time of day; with `None` the line has none.
abbrev pub status_line : Bool → ℕ → Option ℕ → Option Seen → Opened → List ℕ
status_line held at clock before o =
    time_part clock
    ++ (fields_text false (front_fields held o.generation o.form (next_of o) (next_before at before))
    ++ (fields_text false (journal_fields (length o.kept) (entries_room o))
    ++ (steps_part (steps_made o)
    ++ (ports_text false 0 at before o.now.ports ++ (halted_or_none (halts_text false 0 0 o.now.nodes) ++ 10 ∷ [])))))

-- The object of a device that opened. `held` says whether a process held it, `at` is the time in milliseconds, and `before` is what the check before
-- saw. `clock` is the time since 1970; with `None` the object has no time of day.
abbrev pub status_json : Bool → ℕ → Option ℕ → Option Seen → Opened → List ℕ
status_json held at clock before o =
    fields_text true (front_fields held o.generation o.form (next_of o) (next_before at before))
    ++ (fields_text true (journal_fields (length o.kept) (entries_room o))
    ++ (ports_text true 0 at before o.now.ports ++ (halts_json o.now.nodes ++ (done_json o ++ time_field clock))))

-- What is printed of the device, as JSON or not.
abbrev pub look_text : Bool → Bool → ℕ → Option ℕ → Option Seen → Opened → List ℕ
look_text json held at clock before o = if json then status_json held at clock before o else status_line held at clock before o
