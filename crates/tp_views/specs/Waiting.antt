-- The processes that wait at the links of a network's nodes, each with what it waits for.
use Rattle.std.specs.Prelude.{ℕ, ◌+◌, ◌*◌, nat_lt, Bool, true, false, ◌||◌, if◌then◌else◌, List, [], ◌∷◌, Option, Some, None}
use Rattle.tp_views.specs.Lower.{list_any, option_map, line_of, receiver, WireEnd, Link, AtPort, Waiter}
use Rattle.tp_views.specs.Scene.{Seen}
use Rattle.tp_views.specs.Since.{since_at}
use Rattle.tp_views.specs.Why.{waiting_at, why}
use Rattle.tp_views.specs.declared.waits.scene.NodeSeen.{NodeSeen}
use Rattle.tp_views.specs.declared.waits.waiting.LinkWaits.{LinkWaits}
use Rattle.tp_views.specs.declared.waits.waiting.Wait.{Wait}
use Rattle.tp_views.specs.declared.waits.why.Reason.{Reason}
use Rattle.tp_views.specs.declared.waits.why.Reason.TheVariants.{UnderWay, Halted, Runs, BothSend, BothInput, Elsewhere, Full, NoInput, NoWire}

-- a process of node i that waits at an end of link k, since when, with the other end of the wire and why it still waits
abbrev pub wait_of : Seen → Bool → ℕ → NodeSeen → ℕ → Waiter → Wait
wait_of s sends i own k waiter = record {
  sends = sends;
  node = i;
  link = k;
  line = 4 * i + k;
  waiter = waiter;
  since = since_at s.since sends i k;
  other = receiver s.wires (4 * i + k);
  why = why s sends own (4 * i + k);
}

abbrev pub end_wait : Seen → Bool → ℕ → NodeSeen → ℕ → Option Wait
end_wait s sends i own k = option_map (wait_of s sends i own k) (waiting_at own sends k)

-- who waits at both ends of link k
abbrev pub link_waits : Seen → ℕ → NodeSeen → ℕ → LinkWaits
link_waits s i own k = record { output = end_wait s true i own k; input = end_wait s false i own k }

-- who waits at links 0 to 3
abbrev pub links_of : Seen → ℕ → NodeSeen → List LinkWaits
links_of s i own = link_waits s i own 0 ∷ link_waits s i own 1 ∷ link_waits s i own 2 ∷ link_waits s i own 3 ∷ []

abbrev pub side_of : Bool → LinkWaits → Option Wait
side_of sends link = if sends then link.output else link.input

-- ## Among nodes

abbrev pub is_link : Option WireEnd → Bool
is_link None = false
is_link (Some (Link j k)) = true
is_link (Some (AtPort p)) = false

-- a process waits for another node
abbrev pub is_inner : Option Wait → Bool
is_inner None = false
is_inner (Some wait) = is_link wait.other

abbrev pub has_inner_end : LinkWaits → Bool
has_inner_end link = is_inner link.output || is_inner link.input

-- a process of node i does
abbrev pub node_waits_inside : Seen → ℕ → NodeSeen → Bool
node_waits_inside s i own = list_any has_inner_end (links_of s i own)

-- a process of one of these nodes does, which begin with node i
abbrev pub waits_inside : Seen → ℕ → List NodeSeen → Bool
waits_inside s i [] = false
waits_inside s i (own ∷ nodes) = node_waits_inside s i own || waits_inside s (i + 1) nodes

-- ## What is said once more

-- the end that sends `line` is the first one of its wire, among N nodes
abbrev pub is_first : ℕ → ℕ → Option WireEnd → Bool
is_first N line None = false
is_first N line (Some end) = nat_lt line (line_of N end)

-- All that nobody in the network can end. Of two ends that wait for one another it is said at the first one.
abbrev pub is_told_at : Reason → Bool → Bool
is_told_at BothSend first = first
is_told_at BothInput first = first
is_told_at Halted first = true
is_told_at Full first = true
is_told_at NoInput first = true
is_told_at NoWire first = true
is_told_at UnderWay first = false
is_told_at Runs first = false
is_told_at Elsewhere first = false

abbrev pub is_told : ℕ → Wait → Bool
is_told N wait = is_told_at wait.why (is_first N wait.line wait.other)
