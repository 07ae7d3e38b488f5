-- What a node receives for a turn that is one entry: tokens that it takes while they stay at the front of their lines. A part of the
-- receiving is seen as the node before it, what it answers in order, and the node after it.
use Rattle.std.specs.Prelude.{◌≡◌, ◌≤◌, ℕ, ◌+◌, ◌*◌, Bool, true, false, ◌||◌, if◌then◌else◌, List, [], ◌∷◌, ◌++◌, get_or, length, Option, Some, None, Result, Ok, Err}
use Rattle.tp_turn.specs.Lower.{Token, Received, Nothing, NodeState, t414, took, waits, holds, back, on_line, took_ranges, LacksFrames, kept_behind, before, datas, acks, by_link, received, took_all, bit, IsReceived, IsNodeOfBytes, NodeContents, memory_kept, Refusal, BookValue, world_of, needs_take}
use Rattle.tp_turn.specs.declared.receiving.Taken.{Taken}
use Rattle.tp_turn.specs.Turns.{Then, InOrder}
use Rattle.tp_turn.specs.Moments.{IsNodeOf}

-- A part of the receiving was done, and what it answers comes after the answers so far.
pub record Answered (part : NodeContents → List (ℕ × Token) → NodeContents → Type 0) (old : NodeContents) (first : List (ℕ × Token)) (new : NodeContents) (all : List (ℕ × Token)) : Type 0 where
  pub answers : List (ℕ × Token)
  pub are : all ≡ first ++ answers
  pub did : part old answers new

-- ## Tokens

-- The node takes a token on a link, and stays frozen as it was, or not frozen. The pages that the token was written to are shared no more,
-- and all others are as before.
pub record TakesOne (link : ℕ) (token : Token) (s : NodeContents) (answers : List (ℕ × Token)) (t : NodeContents) : Type 0 where
  pub took : took s.live link token ≡ Some (t.live, answers)
  pub kept : t.frozen ≡ s.frozen
  pub shared : memory_kept t ≡ kept_behind (memory_kept s) (took_ranges s.live link token)

-- It was taken; or memory has no frame for it, and nothing changes: the shared pages that it would be written to outnumber the free frames.
abbrev pub TakesOrLacks : ℕ → Token → Bool → NodeContents → List (ℕ × Token) → NodeContents → List (ℕ × Token) → Type 0
TakesOrLacks link token true old first new all = Answered (TakesOne link token) old first new all
TakesOrLacks link token false old first new all =
    (new ≡ old) × (all ≡ first) × LacksFrames (memory_kept old) (took_ranges old.live link token)

-- it takes tokens on a link, one after the other
unfoldable pub TakesEach : ℕ → List Token → NodeContents → List (ℕ × Token) → NodeContents → Type 0
TakesEach link [] s answers t = (answers ≡ []) × (t ≡ s)
TakesEach link (token ∷ tokens) s answers t = Then (TakesOne link token) (TakesEach link tokens) s answers t

-- There is place for these tokens at a link's ends, whatever comes in on others. There is no Data beside one that its input holds, and no
-- Ack for which its output doesn't wait.
pub record HasPlace (link : ℕ) (tokens : List Token) (node : NodeState) : Type 0 where
  pub free : datas tokens + bit (holds node link) ≤ 1
  pub awaited : acks tokens ≤ bit (waits node link)

-- ## Links

-- nothing more was there, or the next token finds no frame
abbrev pub IsAtEnd : ℕ → List Token → NodeContents → Type 0
IsAtEnd link [] node = Unit {0}
IsAtEnd link (token ∷ rest) node = LacksFrames (memory_kept node) (took_ranges node.live link token)

-- Of what was on a link's line these were received: all, or what comes before a token that finds no frame.
pub record ReceivesOf (link : ℕ) (there : List Token) (one : Received) (s : NodeContents) (answers : List (ℕ × Token)) (t : NodeContents) : Type 0 where
  pub rest : List Token
  pub are : there ≡ received one ++ rest
  pub did : TakesEach link (received one) s answers t
  pub end : IsAtEnd link rest t

-- What a line has for its node: the tokens before its first Marker. Without `all` only lines have any from which a running snapshot needs
-- what is taken. Without a wire there is nothing.
abbrev pub offered : BookValue → Bool → Option ℕ → List Token
offered b all None = []
offered b all (Some line) = if all || needs_take b line then before (on_line b.state.lines line) else []

abbrev pub offered_on : BookValue → Bool → ℕ → ℕ → List Token
offered_on b all number link = offered b all (back b.state.start (4 * number + link))

-- On links 0 to 3 in order the node receives what their lines have.
pub record Receives (b : BookValue) (all : Bool) (number : ℕ) (takes : List Received) (s : NodeContents) (answers : List (ℕ × Token)) (t : NodeContents) : Type 0 where
  pub four : length takes ≡ 4
  pub did : InOrder (λ link. ReceivesOf link (offered_on b all number link) (get_or takes link Nothing)) 4 s answers t

-- ## A node that is ahead of its book

-- Since the book agreed on the node, it took these tokens, which are at the front of its lines, and answered these. It has an image.
pub record IsAhead (b : BookValue) (number : ℕ) (takes : List Received) (sent : List (ℕ × Token)) (node : NodeContents) : Type 0 where
  pub before : NodeContents
  pub is : IsNodeOf b number before
  pub received : IsReceived (world_of b).live number takes
  pub took : took_all t414 (by_link 0 takes) before.live ≡ Some (node.live, sent)
  pub kept : node.frozen ≡ before.frozen
  pub image : IsNodeOfBytes node.live

-- if it received, the node is ahead of the book by that; else the book has its node
abbrev pub IsAheadBy : Result Taken Refusal → BookValue → ℕ → NodeContents → Type 0
IsAheadBy (Ok taken) b number node = IsAhead b number taken.takes taken.sent.items node
IsAheadBy (Err e) b number node = IsNodeOf b number node
