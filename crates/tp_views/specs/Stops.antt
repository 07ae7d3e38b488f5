-- Where a trace of an image stops, and what is printed there.
use Rattle.std.specs.Prelude.{◌≡◌, ℕ, zero, suc, ◌+◌, ◌/◌, ◌==◌, Bool, false, true, not, ◌||◌, if◌then◌else◌, List, [], ◌∷◌, ◌++◌, length, bytes_eq, Option, Some, None, is_some, codes}
use Rattle.tp_views.specs.Lower.{u32_at, NodeState, hex_byte, hex_word, instruction_at, memory_of, TraceLines, Every, Sending}
use Rattle.tp_views.specs.Maps.{Row, spot_text}
use Rattle.tp_views.specs.NodeText.{cpu_text}
use Rattle.tp_views.specs.declared.trace.stops.Range.{Range}
use Rattle.tp_views.specs.declared.trace.stops.Stops.{Stops}

-- ## When

-- the next step is the instruction at this address
abbrev pub is_here : Option ℕ → Option ℕ → Bool
is_here None at = false
is_here (Some address) None = false
is_here (Some address) (Some at) = at == address

-- the instruction at the address of `--until` is the next step
abbrev pub is_until : Stops → NodeState → Bool
is_until stops node = is_here stops.until (instruction_at node)

-- the bytes of the range of `--watch`; none if none is watched
abbrev pub watched : Option Range → NodeState → List ℕ
watched None node = []
watched (Some range) node = memory_of node range.from range.count

-- one of them isn't what it was
abbrev pub is_changed : Stops → NodeState → NodeState → Bool
is_changed stops was now = not (bytes_eq (watched stops.watch was) (watched stops.watch now))

-- not each line is printed
abbrev pub is_sending : TraceLines → Bool
is_sending Every = false
is_sending Sending = true

-- the state is printed in the end: a stop was asked for, or not each line is printed
abbrev pub has_state : Stops → Bool
has_state stops = is_some stops.until || (is_some stops.watch || is_sending stops.lines)

-- ## What is printed

-- words of a workspace, `count` of them, from a place among its bytes on
abbrev pub words_text : List ℕ → ℕ → ℕ → List ℕ
words_text bytes zero at = []
words_text bytes (suc count) at = codes " " ++ (hex_word (u32_at bytes at) ++ words_text bytes count (at + 4))

abbrev pub bytes_text : List ℕ → List ℕ
bytes_text [] = []
bytes_text (byte ∷ bytes) = codes " " ++ (hex_byte byte ++ bytes_text bytes)

-- the workspace: where it is, and its first eight words, as far as they are in memory
abbrev pub workspace_line : ℕ → List ℕ → List ℕ
workspace_line wptr bytes = codes "workspace " ++ (hex_word wptr ++ (words_text bytes (length bytes / 4) 0 ++ 10 ∷ []))

-- the range of `--watch`: where it is, and its bytes, as far as they are in memory
abbrev pub memory_line : Option Range → NodeState → List ℕ
memory_line None node = []
memory_line (Some range) node = codes "memory " ++ (hex_word range.from ++ (bytes_text (memory_of node range.from range.count) ++ 10 ∷ []))

-- the registers and queues, the workspace, and the range
abbrev pub state_text : List Row → Stops → NodeState → List ℕ
state_text rows stops node =
    cpu_text false rows node.cpu ++ (workspace_line node.cpu.wptr (memory_of node node.cpu.wptr 32) ++ memory_line stops.watch node)

-- that, if it is printed
abbrev pub state_if : List Row → Stops → NodeState → List ℕ
state_if rows stops node = if has_state stops then state_text rows stops node else []

-- before the instruction at an address
abbrev pub until_text : List Row → Stops → NodeState → List ℕ
until_text rows stops node =
    codes "stop until " ++ (hex_word node.cpu.iptr ++ (spot_text [] rows node.cpu.iptr ++ (10 ∷ [] ++ state_text rows stops node)))

-- after what changed the range
abbrev pub watch_text : List Row → Stops → NodeState → List ℕ
watch_text rows stops node = codes "stop watch" ++ (10 ∷ [] ++ state_text rows stops node)

-- after as many steps as were asked for
abbrev pub steps_line : Stops → List ℕ
steps_line stops = if has_state stops then codes "stop steps" ++ 10 ∷ [] else []
