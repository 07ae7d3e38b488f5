-- A node, and who is at the other ends of its links.
-- Who is there acknowledges each byte that comes from the node, and has bytes to send: the first comes in at once, and each further one once the
-- one before it was acknowledged. A node acknowledges a byte when it lets it go, so a byte comes in as soon as its link holds none.
use Rattle.std.specs.Prelude.{◌≡◌, ℕ, List, [], ◌∷◌, get_or, map, option_copied, set, Option, Some, None}
use Rattle.tp_trace.specs.Lower.{option_map, option_or, IsNodeOfBytes, NodeState, Data, Ack}
use Rattle.tp_trace.specs.Steps.{heard, took_one}
use Rattle.tp_trace.specs.declared.hearing.Heard.{Heard}
use Rattle.tp_trace.specs.declared.others.Linked.{Linked}

-- A node, and of each of its links, from link 0 on, what its other end has still to send; none where nobody is there.
pub record Attended : Type 0 where
  pub node : NodeState
  pub others : List (Option (List ℕ))

-- an acknowledge that comes in on link k, if the node waits for one, and what comes of it
abbrev pub ack_at : Attended → ℕ → Option (Heard × Attended)
ack_at a k = option_map (λ node. (heard a.node k Ack, record a { node = node })) (took_one a.node k Ack)

-- the first of these bytes, if the node can take it there
abbrev pub data_at : Attended → ℕ → List ℕ → Option (Heard × Attended)
data_at a k [] = None
data_at a k (byte ∷ rest) =
    option_map (λ node. (heard a.node k (Data byte), record { node = node; others = set a.others k (Some rest) })) (took_one a.node k (Data byte))

-- what comes in on link k, by what its other end has to send: an acknowledge before a byte
abbrev pub came_by : Attended → ℕ → Option (List ℕ) → Option (Heard × Attended)
came_by a k None = None
came_by a k (Some rest) = option_or (ack_at a k) (data_at a k rest)

abbrev pub came_at : Attended → ℕ → Option (Heard × Attended)
came_at a k = came_by a k (get_or a.others k None)

-- what comes in next: at the first link at which something does
abbrev pub came_late : Attended → Option (Heard × Attended)
came_late a = option_or (came_at a 2) (came_at a 3)

abbrev pub came : Attended → Option (Heard × Attended)
came a = option_or (came_at a 0) (option_or (came_at a 1) (came_late a))

-- That came in, or nothing does, and all is as it was.
abbrev pub Comes : Option (Heard × Attended) → Option Heard → Attended → Attended → Type 0
Comes there (Some one) was now = there ≡ Some (one, now)
Comes there None was now = (there ≡ None) × (now ≡ was)

-- ## As it is kept

abbrev pub attended : Linked → Attended
attended l = record { node = l.node.live; others = map option_copied l.others }

-- its node isn't frozen, and is one whose bytes are bytes
pub record IsLinked (l : Linked) : Type 0 where
  pub thawed : l.node.frozen ≡ None
  pub bytes : IsNodeOfBytes l.node.live
