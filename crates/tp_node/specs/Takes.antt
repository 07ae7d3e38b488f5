-- What a call that takes a token answers and leaves.
use Rattle.std.specs.Prelude.{◌≡◌, ℕ, List, Option, Some, None, Result, Ok, Err}
use Rattle.tp_node.specs.Lower.{NodeState, byte_at, ◌>>=◌, next_pointer, on_link, OutEnd, Token}
use Rattle.tp_node.specs.declared.fault.NoFrame.{NoFrame}

-- the byte that leaves at the next acknowledge, if any is left
abbrev pub next_byte : OutEnd → List ℕ → Option ℕ
next_byte end memory = next_pointer end >>= byte_at memory

-- The node is the one after the token, and the answer is what leaves on that link; or nothing has changed, and `cause` is true.
abbrev pub Takes : Option (NodeState × List (ℕ × Token)) → Type 0 → ℕ → NodeState → Result (Option Token) NoFrame → NodeState → Type 0
Takes (Some after) cause link before (Ok token) now = (now ≡ after.0) × (on_link link token ≡ after.1)
Takes (Some after) cause link before (Err e) now = cause × (now ≡ before)
Takes None cause link before result now = ⊥
