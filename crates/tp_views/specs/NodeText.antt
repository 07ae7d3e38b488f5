-- What `node` prints of a node: lines, or JSON.
use Rattle.std.specs.Prelude.{ℕ, ◌+◌, Bool, false, true, List, [], ◌∷◌, ◌++◌, Option, Some, None, codes}
use Rattle.tp_views.specs.Lower.{InEnd, InIdle, Enabled, OutEnd, OutIdle, Transfer, Cpu, Fault, Queue, State, halt_byte, page_count, NodeState, state_name}
use Rattle.tp_model.specs.declared.link.InEnd.TheVariants.{Inputs}
use Rattle.tp_model.specs.declared.link.OutEnd.TheVariants.{Waits}
use Rattle.tp_views.specs.Fields.{Field, Named, After, Words, Item, Number, Byte, Word, Name, Bit, fields_text}
use Rattle.tp_views.specs.JsonMaps.{spot_fields}
use Rattle.tp_views.specs.Maps.{Row, spot_text}
use Rattle.tp_views.specs.Names.{halt_name}

-- ## The processor

-- its number, its pages, and why it halted: the code and its name
abbrev pub number_fields : ℕ → ℕ → Option Fault → List Field
number_fields number pages halt =
    After (codes "node ") (codes "{\"node\":") (Number number) ∷ Named (codes "pages") (Number pages) ∷ Named (codes "halt") (Number (halt_byte halt))
    ∷ After (codes " ") (codes ",\"halt_name\":") (Name (halt_name halt)) ∷ Words (codes "\n") [] ∷ []

-- what the map's rows say of an address
abbrev pub spot_of : Bool → List Row → ℕ → List ℕ
spot_of true = spot_fields
spot_of false = spot_text []

-- the next instruction, which the map's rows name, and the workspace
abbrev pub pointers_text : Bool → List Row → ℕ → ℕ → List ℕ
pointers_text json rows iptr wptr =
    fields_text json (After (codes "Iptr ") (codes ",\"iptr\":") (Word iptr) ∷ [])
    ++ (spot_of json rows iptr ++ fields_text json (After (codes " Wptr ") (codes ",\"wptr\":") (Word wptr) ∷ Words (codes "\n") [] ∷ []))

-- the evaluation stack
abbrev pub stack_fields : ℕ → ℕ → ℕ → List Field
stack_fields a b c =
    After (codes "A ") (codes ",\"a\":") (Word a) ∷ After (codes " B ") (codes ",\"b\":") (Word b) ∷ After (codes " C ") (codes ",\"c\":") (Word c)
    ∷ Words (codes "\n") [] ∷ []

-- the first and the last process of the queue that is named by these words
abbrev pub queue_fields : List ℕ → List ℕ → Queue → List Field
queue_fields line json queue = After line json (Word queue.front) ∷ Named (codes "back") (Word queue.back) ∷ Words (codes "\n") (codes "}") ∷ []

-- the Error flag, what runs, and the slice count
abbrev pub state_fields : Bool → State → ℕ → List Field
state_fields error state slice =
    After (codes "error ") (codes ",\"error\":") (Bit error) ∷ Named (codes "state") (Name (state_name state)) ∷ Named (codes "slice") (Number slice)
    ∷ Words (codes "\n") [] ∷ []

-- the queues and these
abbrev pub queues_text : Bool → Cpu → List ℕ
queues_text json cpu =
    fields_text json (queue_fields (codes "high front ") (codes ",\"high\":{\"front\":") cpu.high)
    ++ (fields_text json (queue_fields (codes "low front ") (codes ",\"low\":{\"front\":") cpu.low)
    ++ fields_text json (state_fields cpu.regs.error cpu.state cpu.slice))

abbrev pub cpu_text : Bool → List Row → Cpu → List ℕ
cpu_text json rows cpu =
    pointers_text json rows cpu.iptr cpu.wptr ++ (fields_text json (stack_fields cpu.regs.a cpu.regs.b cpu.regs.c) ++ queues_text json cpu)

-- ## The links

-- an end at which nothing is under way
abbrev pub idle_fields : List ℕ → ℕ → List Field
idle_fields side link = Item side link ∷ After (codes " ") (codes "{\"state\":") (Name (codes "idle")) ∷ Words (codes "\n") (codes "}") ∷ []

-- an end at which a process waits: what it does, the process, the address of the next byte, and how many bytes are left
abbrev pub working_fields : List ℕ → ℕ → List ℕ → Transfer → List Field
working_fields side link what t =
    Item side link ∷ After (codes " ") (codes "{\"state\":") (Name what) ∷ Named (codes "process") (Word t.process) ∷ Named (codes "pointer") (Word t.pointer)
    ∷ Named (codes "left") (Word t.left) ∷ Words (codes "\n") (codes "}") ∷ []

abbrev pub output_fields : ℕ → OutEnd → List Field
output_fields link OutIdle = idle_fields (codes "out") link
output_fields link (Waits t) = working_fields (codes "out") link (codes "waits") t

-- an input end that holds a byte
abbrev pub held_fields : ℕ → ℕ → List Field
held_fields link byte =
    Item (codes "in") link ∷ After (codes " ") (codes "{\"state\":") (Name (codes "idle")) ∷ Named (codes "held") (Byte byte) ∷ Words (codes "\n") (codes "}") ∷ []

-- an input end in an alternative has only its process; a line has zeros for the rest
abbrev pub enabled_fields : ℕ → ℕ → List Field
enabled_fields link process =
    Item (codes "in") link ∷ After (codes " ") (codes "{\"state\":") (Name (codes "enabled")) ∷ Named (codes "process") (Word process)
    ∷ Words (codes " pointer 00000000 left 00000000\n") (codes "}") ∷ []

abbrev pub input_fields : ℕ → InEnd → List Field
input_fields link (InIdle None) = idle_fields (codes "in") link
input_fields link (InIdle (Some byte)) = held_fields link byte
input_fields link (Inputs t) = working_fields (codes "in") link (codes "inputs") t
input_fields link (Enabled process) = enabled_fields link process

abbrev pub outputs_text : Bool → ℕ → List OutEnd → List ℕ
outputs_text json link [] = []
outputs_text json link (end ∷ ends) = fields_text json (output_fields link end) ++ outputs_text json (link + 1) ends

abbrev pub inputs_text : Bool → ℕ → List InEnd → List ℕ
inputs_text json link [] = []
inputs_text json link (end ∷ ends) = fields_text json (input_fields link end) ++ inputs_text json (link + 1) ends

-- each end is at its link's number
abbrev pub ends_text : Bool → List OutEnd → List InEnd → List ℕ
ends_text json outputs inputs =
    fields_text json (Words [] (codes ",\"out\":[") ∷ []) ++ (outputs_text json 0 outputs
    ++ (fields_text json (Words [] (codes "],\"in\":[") ∷ []) ++ (inputs_text json 0 inputs ++ fields_text json (Words [] (codes "]") ∷ []))))

-- ## The node

-- the node with this number, by its pages, its processor and its ends
abbrev pub node_of_parts : Bool → List Row → ℕ → ℕ → Cpu → List OutEnd → List InEnd → List ℕ
node_of_parts json rows number pages cpu outputs inputs =
    fields_text json (number_fields number pages cpu.halt) ++ (cpu_text json rows cpu ++ ends_text json outputs inputs)

-- All that is printed of a node, as JSON or not, up to what it has done, if its map has these rows.
abbrev pub node_text : Bool → List Row → ℕ → NodeState → List ℕ
node_text json rows number node = node_of_parts json rows number (page_count node.memory) node.cpu node.outputs node.inputs
