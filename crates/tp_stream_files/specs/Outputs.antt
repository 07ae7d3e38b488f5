-- A port's output, and the sink that takes it.
use Rattle.std.specs.Prelude.{◌≡◌, ℕ, ◌+◌, List, length, Option, Some, None}
use Rattle.tp_stream_files.specs.Held.{HeldBytes, HasPut}

-- An output:
-- - `port`: its port
-- - `have`: up to which position its reader says that it has the outputs
-- - `path`: the path at which the file was opened that takes them, if a file does
-- - `confirmed`: up to which position they are confirmed
-- - `next`: up to which position they were put and are safe
-- - `held`: what the sink holds, if that is known
pub record OutputValue : Type 0 where
  pub port : ℕ
  pub have : Option ℕ
  pub path : Option (List ℕ)
  pub confirmed : ℕ
  pub next : ℕ
  pub held : Option HeldBytes

-- An output as it is given: its port, up to which position its reader says that it has the outputs, and what the sink holds.
pub record Given : Type 0 where
  pub port : ℕ
  pub have : Option ℕ
  pub held : Option HeldBytes

abbrev pub given_of : OutputValue → Given
given_of o = record { port = o.port; have = o.have; held = o.held }

-- A sink holds this port's output, if it says whose.
abbrev pub IsOfPort : ℕ → Option ℕ → Type 0
IsOfPort port None = Unit {0}
IsOfPort port (Some p) = p ≡ port

-- Bytes were put after those before, and are safe. Nothing was confirmed.
pub record WasPutSafely (bytes : List ℕ) (old new : OutputValue) : Type 0 where
  pub port : new.port ≡ old.port
  pub path : new.path ≡ old.path
  pub confirmed : new.confirmed ≡ old.confirmed
  pub next : new.next ≡ old.next + length bytes
  pub put : HasPut old.next bytes old.held new.held
