-- Why a process still waits at a link: what the other end does.
use Rattle.std.specs.Prelude.{ℕ, ◌+◌, ◌*◌, Bool, true, false, not, ◌&&◌, ◌||◌, if◌then◌else◌, List, Option, Some, None, is_none, get_or, slice_get}
use Rattle.tp_views.specs.Lower.{receiver, Token, Data, Ack, Marker, WireEnd, Link, AtPort, Waiter}
use Rattle.tp_views.specs.Scene.{Seen, is_halted, is_resting}
use Rattle.tp_views.specs.declared.waits.scene.NodeSeen.{NodeSeen}
use Rattle.tp_views.specs.declared.waits.scene.PortHeld.{PortHeld}
use Rattle.tp_views.specs.declared.waits.why.Reason.{Reason}
use Rattle.tp_views.specs.declared.waits.why.Reason.TheVariants.{UnderWay, Halted, Runs, BothSend, BothInput, Elsewhere, Full, NoInput, NoWire}

-- ## Ends, lines and ports

-- the process that waits at the end of a link
abbrev pub waiter_at : List (Option Waiter) → ℕ → Option Waiter
waiter_at ends link = get_or ends link None

-- The process that waits at an end of a node's link. In a node that has halted none waits, since none will ever run.
abbrev pub waiting_at : NodeSeen → Bool → ℕ → Option Waiter
waiting_at own sends link =
    if is_halted own.doing then None else if sends then waiter_at own.senders link else waiter_at own.listeners link

-- the token that comes next on a line
abbrev pub front_at : Seen → ℕ → Option Token
front_at s line = get_or s.fronts line None

abbrev pub is_still : Seen → ℕ → Bool
is_still s line = is_none (front_at s line)

abbrev pub is_data : Option Token → Bool
is_data (Some (Data byte)) = true
is_data (Some Ack) = false
is_data (Some Marker) = false
is_data None = false

-- whether a port has no room for another byte of output
abbrev pub is_full_port : Option PortHeld → Bool
is_full_port None = false
is_full_port (Some held) = held.is_full

abbrev pub is_full : Seen → ℕ → Bool
is_full s port = is_full_port (slice_get s.ports port)

abbrev pub has_port_input : Option PortHeld → Bool
has_port_input None = false
has_port_input (Some held) = held.has_input

abbrev pub has_input : Seen → ℕ → Bool
has_input s port = has_port_input (slice_get s.ports port)

-- ## Why

-- Why a process waits if both nodes rest and nothing is on the wire between them. At the other end a process does what this one does, or none does
-- anything.
abbrev pub one_of : Reason → Option Waiter → Reason
one_of both None = Elsewhere
one_of both (Some waiter) = both

abbrev pub stuck_why : Bool → NodeSeen → ℕ → Reason
stuck_why sends other link =
    if sends then one_of BothSend (waiter_at other.senders link) else one_of BothInput (waiter_at other.listeners link)

-- why a process of a node waits for another node, if nothing is on the wire between them
abbrev pub other_why : Bool → NodeSeen → NodeSeen → ℕ → Reason
other_why sends own other link =
    if is_halted other.doing then Halted
    else if is_resting own.doing && is_resting other.doing then stuck_why sends other link
    else Runs

abbrev pub node_why : Bool → NodeSeen → Option NodeSeen → ℕ → Reason
node_why sends own None link = NoWire
node_why sends own (Some other) link = other_why sends own other link

-- Why a process waits if the other end is link k of node j. `line` is the line that this end sends; a wire has two lines, this one and the other
-- end's.
abbrev pub link_why : Seen → Bool → NodeSeen → ℕ → ℕ → ℕ → Reason
link_why s sends own line j k =
    if not (is_still s line) || not (is_still s (4 * j + k)) then UnderWay else node_why sends own (slice_get s.nodes j) k

-- Why a process waits if the other end is a port. A full port takes no byte off its line. A port without input sends none.
abbrev pub port_why : Seen → Bool → ℕ → ℕ → Reason
port_why s sends line port =
    if sends && (is_data (front_at s line) && is_full s port) then Full
    else if not sends && not (has_input s port) then NoInput
    else UnderWay

abbrev pub end_why : Seen → Bool → NodeSeen → ℕ → Option WireEnd → Reason
end_why s sends own line None = NoWire
end_why s sends own line (Some (Link j k)) = link_why s sends own line j k
end_why s sends own line (Some (AtPort port)) = port_why s sends line port

-- why a process of a node waits, to send or to input, at the end that sends this line
abbrev pub why : Seen → Bool → NodeSeen → ℕ → Reason
why s sends own line = end_why s sends own line (receiver s.wires line)
