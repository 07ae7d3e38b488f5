-- What `trace` of an image prints, and `try` of its steps.
use Rattle.std.specs.Prelude.{◌≡◌, ◌⊎◌, ℕ, Bool, false, true, zero, suc, ◌+◌, List, [], ◌∷◌, ◌++◌, if◌then◌else◌, Option, Some, None, IsSome, Result, Ok, Err, codes}
use Rattle.tp_views.specs.Lower.{decimal, Appends, node_of, NodeState, NodeContents, standing, step_text, stop_line, take_line, Attended, came, seen, stepped, Heard, Seen, TryFault, BadImage, NodeMemory, Token, Data, Ack, Marker, TraceLines, Every, Sending}
use Rattle.tp_views.specs.Front.{AppendsFront}
use Rattle.tp_views.specs.Maps.{Row, spot_text}
use Rattle.tp_views.specs.Stops.{is_changed, is_until, state_if, steps_line, until_text, watch_text}
use Rattle.tp_views.specs.declared.refusal.Refusal.{Refusal}
use Rattle.tp_views.specs.declared.refusal.Refusal.TheVariants.{DeviceFailed, Memory, Trial}
use Rattle.tp_views.specs.declared.trace.stops.Stops.{Stops}

-- ## A line

-- a step, and what the map says of its instruction
abbrev pub step_line : List Row → ℕ → Seen → List ℕ
step_line rows number one = step_text number one ++ (spot_text [] rows one.at ++ 10 ∷ [])

-- a token is a byte
abbrev pub is_byte : Token → Bool
is_byte (Data byte) = true
is_byte Ack = false
is_byte Marker = false

-- a token that comes in, with its number
abbrev pub came_line : ℕ → Heard → List ℕ
came_line number one = decimal number ++ (codes " " ++ take_line one)

-- a byte leaves
abbrev pub is_byte_out : Option (ℕ × Token) → Bool
is_byte_out None = false
is_byte_out (Some sent) = is_byte sent.1

-- a line in which that leaves is printed
abbrev pub is_printed : TraceLines → Option (ℕ × Token) → Bool
is_printed Every sent = true
is_printed Sending sent = is_byte_out sent

-- the line, if it is
abbrev pub printed : TraceLines → Option (ℕ × Token) → List ℕ → List ℕ
printed lines sent line = if is_printed lines sent then line else []

-- what happens next, as what is printed of its line, and what comes of it: a step, if the node has one, ..
abbrev pub by_step : TraceLines → List Row → ℕ → Attended → Option NodeState → Option (List ℕ × Attended)
by_step lines rows number a None = None
by_step lines rows number a (Some next) =
    Some (printed lines (seen a.node next).sent (step_line rows number (seen a.node next)), record a { node = next })

-- .. unless a token comes in before
abbrev pub by_coming : TraceLines → List Row → ℕ → Attended → Option (Heard × Attended) → Option (List ℕ × Attended)
by_coming lines rows number a None = by_step lines rows number a (stepped a.node)
by_coming lines rows number a (Some one) = Some (printed lines one.0.sent (came_line number one.0), one.1)

abbrev pub event : TraceLines → List Row → ℕ → Attended → Option (List ℕ × Attended)
event lines rows number a = by_coming lines rows number a (came a)

-- nothing happens any more: why, and, if it is shown, the state
abbrev pub ended_text : List Row → Stops → NodeState → List ℕ
ended_text rows stops node = stop_line (standing node) ++ state_if rows stops node

-- ## All lines

-- What is printed at a moment, and with what it goes on; none if the trace ends there.
pub record Moment : Type 0 where
  pub text : List ℕ
  pub next : Option Attended

-- after a line the trace goes on, unless it changed what is watched
abbrev pub moment_behind : List Row → Stops → NodeState → List ℕ → Attended → Moment
moment_behind rows stops was line a =
    if is_changed stops was a.node then record { text = line ++ watch_text rows stops a.node; next = None } else record { text = line; next = Some a }

abbrev pub moment_by : List Row → Stops → NodeState → Option (List ℕ × Attended) → Moment
moment_by rows stops node None = record { text = ended_text rows stops node; next = None }
moment_by rows stops node (Some one) = moment_behind rows stops node one.0 one.1

-- the moment before the line of a number
abbrev pub moment : List Row → Stops → ℕ → Attended → Moment
moment rows stops number a =
    if is_until stops a.node then record { text = until_text rows stops a.node; next = None } else moment_by rows stops a.node (event stops.lines rows number a)

-- why no further line is printed after the last one that was asked for
abbrev pub last_line : Stops → NodeState → Option (List ℕ × Attended) → List ℕ
last_line stops node None = stop_line (standing node)
last_line stops node (Some one) = steps_line stops

-- what is printed after that line
abbrev pub last_text : List Row → Stops → Attended → List ℕ
last_text rows stops a =
    if is_until stops a.node then until_text rows stops a.node else (last_line stops a.node (event stops.lines rows 0 a) ++ state_if rows stops a.node)

-- what is printed after a moment, if the trace goes on
abbrev pub behind : Option Attended → (Attended → List ℕ) → List ℕ
behind None lines = []
behind (Some a) lines = lines a

-- the lines from the one of a number on, as many as there are at most, and what is printed after them
unfoldable pub traced : List Row → Stops → ℕ → ℕ → Attended → List ℕ
traced rows stops zero number a = last_text rows stops a
traced rows stops (suc left) number a =
    (moment rows stops number a).text ++ behind (moment rows stops number a).next (traced rows stops left (number + 1))

-- ## Passing through them

-- Something happened, and exactly its line was appended, or nothing does any more, and all is as it was.
abbrev pub Happens : Bool → Option (List ℕ × Attended) → Attended → Attended → List ℕ → List ℕ → Type 0
Happens true there was now old new = (line : List ℕ) × (there ≡ Some (line, now)) × (new ≡ old ++ line)
Happens false there was now old new = (there ≡ None) × (now ≡ was) × (new ≡ old)

-- a trace goes on with this, or ends
abbrev pub GoesTo : Bool → Option Attended → Attended → Type 0
GoesTo true next now = next ≡ Some now
GoesTo false next now = next ≡ None

-- what is printed after a line: nothing if the trace goes on
abbrev pub text_behind : Bool → List Row → Stops → NodeState → List ℕ
text_behind true rows stops node = []
text_behind false rows stops node = watch_text rows stops node

-- A moment passed, and exactly its text was appended: to a text, and to what was printed.
pub record PassesText (m : Moment) (goes : Bool) (now : Attended) (old new : List ℕ) : Type 0 where
  pub next : GoesTo goes m.next now
  pub text : new ≡ old ++ m.text

pub record Passes (m : Moment) (goes : Bool) (now : Attended) (old new : Option (List ℕ)) : Type 0 where
  pub next : GoesTo goes m.next now
  pub shown : Appends old new m.text

-- ## The command

-- What reading an image answers: the node, not frozen, or a fault. Memory is wanting only where the bytes are an image.
abbrev pub ReadsNode : List ℕ → Result NodeContents TryFault → Type 0
ReadsNode image (Ok node) = (node_of image ≡ Some node.live) × (node.frozen ≡ None)
ReadsNode image (Err BadImage) = node_of image ≡ None
ReadsNode image (Err NodeMemory) = IsSome (node_of image)

-- All that is printed of a node, with what the other ends of its links send: `steps` lines at most.
abbrev pub node_traced : List Row → Stops → ℕ → List (Option (List ℕ)) → NodeState → List ℕ
node_traced rows stops steps others node = traced rows stops steps 1 (record { node = node; others = others })

-- The bytes are the image of a node, and exactly what is printed of it was appended.
pub record Traces (text : NodeState → List ℕ) (image : List ℕ) (was now : Option (List ℕ)) : Type 0 where
  pub node : NodeState
  pub is : node_of image ≡ Some node
  pub shown : Appends was now (text node)

-- The bytes are such an image, and a front of that was appended.
abbrev pub TracesSome : (NodeState → List ℕ) → List ℕ → Option (List ℕ) → Option (List ℕ) → Type 0
TracesSome text image was now = (node : NodeState) × (node_of image ≡ Some node) × AppendsFront was now (text node)

-- Nothing was appended, or the bytes are such an image, and a front of that was.
abbrev pub TracesFront : (NodeState → List ℕ) → List ℕ → Option (List ℕ) → Option (List ℕ) → Type 0
TracesFront text image was now = (now ≡ was) ⊎ TracesSome text image was now

-- why a line was not printed
abbrev pub IsLineFault : Refusal → Type 0
IsLineFault DeviceFailed = Unit {0}
IsLineFault Memory = Unit {0}
IsLineFault other = ⊥

-- The answer: an image that is none is refused, and nothing was written then, nor where memory was wanting for its node. Where the output
-- fails, or memory is wanting for a line, a front of the lines was.
abbrev pub TraceAnswer : (NodeState → List ℕ) → List ℕ → Option (List ℕ) → Option (List ℕ) → Result (Unit {0}) Refusal → Type 0
TraceAnswer text image was now (Ok done) = Traces text image was now
TraceAnswer text image was now (Err (Trial BadImage)) = (node_of image ≡ None) × (now ≡ was)
TraceAnswer text image was now (Err (Trial NodeMemory)) = IsSome (node_of image) × (now ≡ was)
TraceAnswer text image was now (Err DeviceFailed) = TracesSome text image was now
TraceAnswer text image was now (Err Memory) = TracesSome text image was now
TraceAnswer text image was now (Err other) = ⊥
