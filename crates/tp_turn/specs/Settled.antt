-- The open part of a node's turn.
use Rattle.std.specs.Prelude.{◌≡◌, ◌<◌, ℕ, true, if◌then◌else◌, List, [], ◌∷◌, length, replicate, Some, Result, Ok, Err}
use Rattle.tp_turn.specs.Lower.{Act, Record, NodeContents, is_asked, Refusal, BookValue}
use Rattle.tp_turn.specs.declared.left.Left.{Left}
use Rattle.tp_turn.specs.Turns.{Then, InOrder}
use Rattle.tp_turn.specs.Moments.{TurnMoment, Added, entries_among}
use Rattle.tp_turn.specs.Fronts.{OnLink}

-- a node records once, if it is asked to
abbrev pub record_acts : BookValue → ℕ → List Act
record_acts b number = if is_asked b.state.snapshot number then Record number ∷ [] else []

-- the node, frozen as it is now: all its pages are shared
abbrev pub frozen_now : NodeContents → NodeContents
frozen_now node = record node { frozen = Some node.live; shared = replicate (length node.shared) true }

-- it is then kept as it is
abbrev pub recorded_node : BookValue → ℕ → NodeContents → NodeContents
recorded_node b number node =
    if is_asked b.state.snapshot number then frozen_now node else node

-- The node records if it is asked to.
pub record Records (number : ℕ) (s : TurnMoment) (acts : List Act) (t : TurnMoment) : Type 0 where
  pub are : acts ≡ record_acts s.book number
  pub added : Added number t.node.live acts s.book t.book
  pub node : t.node ≡ recorded_node s.book number s.node

-- The node does what it may at a link's line, and leaves it for a reason.
pub record LeavesLink (number link : ℕ) (s : TurnMoment) (acts : List Act) (t : TurnMoment) : Type 0 where
  pub why : Left
  pub did : OnLink number link (Ok why) s acts t

-- The node records if it is asked to, and then does what it may on links 0 to 3 in order.
abbrev pub Settles : ℕ → TurnMoment → List Act → TurnMoment → Type 0
Settles number = Then (Records number) (InOrder (λ link. LeavesLink number link) 4)

-- Its turn ends at a link. What comes before in the turn was done whole, and nothing of what comes after.
pub record EndsAtLink (number : ℕ) (e : Refusal) (s : TurnMoment) (acts : List Act) (t : TurnMoment) : Type 0 where
  pub link : ℕ
  pub there : link < 4
  pub did : Then (Records number) (Then (InOrder (λ link. LeavesLink number link) link) (OnLink number link (Err e))) s acts t

-- `takes` of the acts are takes
pub record SettlesWith (number takes : ℕ) (s : TurnMoment) (acts : List Act) (t : TurnMoment) : Type 0 where
  pub many : takes ≡ length (entries_among acts)
  pub did : Settles number s acts t

-- the open part is done, with `takes` takes; or the turn ends within it
abbrev pub SettledAs : ℕ → Result ℕ Refusal → TurnMoment → List Act → TurnMoment → Type 0
SettledAs number (Ok takes) = SettlesWith number takes
SettledAs number (Err e) = EndsAtLink number e
