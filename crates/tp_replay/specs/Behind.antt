-- What a call that does an entry, or half of one, leaves.
use Rattle.std.specs.Prelude.{◌≡◌, ◌⊎◌, ℕ, Bool, if◌then◌else◌, List, MatchBool, length, Option, Some, None}
use Rattle.tp_replay.specs.Lower.{Token, Entry, NodeState, ◌>>=◌, Network, taken, process, takes, acts, t414, Piece, from_piece, next_in, IsOverfull}
use Rattle.tp_replay.specs.Held.{HeldPart, has}

-- what is left to do of an entry in a piece, once the tokens that it takes are off the piece's lines
abbrev pub behind_tokens : Piece → Network NodeState → Entry → Option (Network NodeState)
behind_tokens piece s e = if piece (process s.wires (length s.nodes) e) then acts t414 s s.lines e else Some s

-- the network with the lines that are left once tokens, of those that the piece sends, are taken off
abbrev pub without : Piece → Network NodeState → List (ℕ × Token) → Option (Network NodeState)
without piece s ms = taken s.lines (from_piece piece (length s.nodes) ms) >>= λ lines. Some (record s { lines = lines })

-- there is no such network, or a line that the piece sends would be overfull in it
abbrev pub IsStuck : Piece → Option (Network NodeState) → Type 0
IsStuck piece wanted = (wanted ≡ None) ⊎ ((v : Network NodeState) × (wanted ≡ Some v) × IsOverfull piece v)

-- the part has the processes that it had
pub record SameProcesses (was now : HeldPart) : Type 0 where
  pub first : now.first ≡ was.first
  pub past : now.past ≡ was.past

-- It went on to the network that is wanted, or is stuck.
pub record WentOrStuck (was : HeldPart) (wanted : Option (Network NodeState)) (could : Bool) (now : HeldPart) : Type 0 where
  pub same : SameProcesses was now
  pub goes : MatchBool could (wanted ≡ Some now.network) (IsStuck (has was) wanted)

-- It does an entry; and what is left of one after its tokens.
abbrev pub Applies : HeldPart → Entry → Bool → HeldPart → Type 0
Applies was e could now = WentOrStuck was (next_in t414 (has was) was.network e) could now

abbrev pub DoesRest : HeldPart → Entry → Bool → HeldPart → Type 0
DoesRest was e could now = WentOrStuck was (behind_tokens (has was) was.network e) could now

-- It took tokens off its lines, if they were at the front one after the other; and those that an entry takes.
pub record TakesTokens (was : HeldPart) (ms : List (ℕ × Token)) (could : Bool) (now : HeldPart) : Type 0 where
  pub same : SameProcesses was now
  pub goes : MatchBool could (without (has was) was.network ms ≡ Some now.network) (without (has was) was.network ms ≡ None)

abbrev pub TakesOff : HeldPart → Entry → Bool → HeldPart → Type 0
TakesOff was e could now = TakesTokens was (takes was.network.wires (length was.network.nodes) e) could now
