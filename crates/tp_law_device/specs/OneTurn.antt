-- A device whose journal has a turn, computed: what it opens to, and that a plain area holds none.
use Rattle.std.specs.Prelude.{◌≡◌, ℕ, ◌+◌, ◌-◌, ◌*◌, false, List, [], ◌∷◌, ◌++◌, length, Ok, Err}
use Rattle.tp_law_device.specs.Lower.{Form, Plain, Turns, Narrow, Data, Nothing, JustAck, Entry, Run, Take, Turn, Damaged, ENTRY_BYTES, GATE_OPEN, GATE_CLOSED, GROUP_HEAD_BYTES, zeros, area_start, numbered, rows_of, group_bytes, head_bytes, Opened, groups_place, verdict, front_bytes, one_node, one_before, one_after}
use Rattle.tp_law_device.specs.OneCheckpoint.{one_areas}

-- The node sends a byte and the host takes it. In one entry the node then takes the Ack and goes on.
abbrev pub turning : List Entry
turning = Run 0 3 ∷ Take 0 (Data 0x41) ∷ Turn 0 (JustAck ∷ Nothing ∷ Nothing ∷ Nothing ∷ []) 16 ∷ []

-- the fields and the cut of an area of this form, those entries in a group, and a closed gate
abbrev pub turned_front : Form → List ℕ
turned_front form = front_bytes one_node 1 form 0 one_before ++ (group_bytes (rows_of (numbered 0 turning)) ++ GATE_CLOSED ∷ [])

abbrev pub turned_device : Form → List ℕ
turned_device form =
    head_bytes Narrow one_node one_areas
    ++ (GATE_OPEN ∷ (turned_front form ++ (zeros (one_areas.length - 1 - length (turned_front form)) ++ (GATE_CLOSED ∷ zeros (one_areas.length - 1)))))

-- where the turn is
abbrev pub turn_place : ℕ
turn_place = area_start one_areas false + 1 + groups_place one_node + GROUP_HEAD_BYTES + 2 * ENTRY_BYTES

-- With an area with turns it opens to the three entries and to where they lead. With a plain area it is damaged at the turn's place.
pub record OneTurn : Type 0 where
  pub opened : Opened
  pub opens : verdict (turned_device Turns) ≡ Ok opened
  pub of_form : opened.form ≡ Turns
  pub kept : opened.kept ≡ numbered 0 turning
  pub now : opened.now ≡ one_after
  pub plain : verdict (turned_device Plain) ≡ Err (Damaged turn_place)
