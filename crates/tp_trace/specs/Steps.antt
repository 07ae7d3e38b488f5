-- A step of a lone node, or a token that it takes, and what is seen of that. What it sends is seen, then dropped.
use Rattle.std.specs.Prelude.{◌≡◌, ℕ, Bool, true, false, List, Option, Some, None, slice_get}
use Rattle.tp_trace.specs.Lower.{option_map, option_and_then, node_step, took, NodeState, Token}
use Rattle.tp_trace.specs.Act.{act_of}
use Rattle.tp_trace.specs.declared.hearing.Heard.{Heard}
use Rattle.tp_trace.specs.declared.stepping.Seen.{Seen}

-- the node after its next step; `None` if it has no step
abbrev pub stepped : NodeState → Option NodeState
stepped node = option_map (λ after. after.0) (node_step node)

-- A step was made, or there is none, and the node is as it was.
abbrev pub Stepped : Bool → NodeState → NodeState → Type 0
Stepped true was now = stepped was ≡ Some now
Stepped false was now = (stepped was ≡ None) × (now ≡ was)

-- What leaves, if anything does. A step, or a token that is taken, sends one token at most.
abbrev pub leaving : Option (NodeState × List (ℕ × Token)) → Option (ℕ × Token)
leaving after = option_and_then (λ (after : NodeState × List (ℕ × Token)). slice_get after.1 0) after

-- what leaves at the next step of a node, with its link
abbrev pub sent_by : NodeState → Option (ℕ × Token)
sent_by node = leaving (node_step node)

-- what is seen of the step from one node to another: the act, its address, the processor afterwards, and what left
abbrev pub seen : NodeState → NodeState → Seen
seen was now = record { act = act_of was; at = was.cpu.iptr; cpu = now.cpu; sent = sent_by was }

-- A step was made and seen; or there is none, and the node is as before.
abbrev pub Saw : Option Seen → NodeState → NodeState → Type 0
Saw (Some one) was now = (stepped was ≡ Some now) × (one ≡ seen was now)
Saw None was now = (stepped was ≡ None) × (now ≡ was)

-- ## Tokens that come in

-- the node after a token on a link; `None` if it can't take it
abbrev pub took_one : NodeState → ℕ → Token → Option NodeState
took_one node link token = option_map (λ after. after.0) (took node link token)

-- what is seen of a token that a node takes: its link, the token, and what left in answer
abbrev pub heard : NodeState → ℕ → Token → Heard
heard was link token = record { link = link; token = token; sent = leaving (took was link token) }

-- A token was taken and seen; or the node can't take it, and is as before.
abbrev pub Hears : Option Heard → NodeState → ℕ → Token → NodeState → Type 0
Hears (Some one) was link token now = (took_one was link token ≡ Some now) × (one ≡ heard was link token)
Hears None was link token now = (took_one was link token ≡ None) × (now ≡ was)
