-- What a listener is told of a stream.
use Rattle.std.specs.Prelude.{◌≡◌, ℕ, List, ◌++◌, Option, Some, None}
use Rattle.tp_stream_files.specs.declared.ending.Stopped.{Stopped}
use Rattle.tp_stream_files.specs.declared.listener.Progress.{Progress}

-- What a listener can be told:
-- - at which position a port's output begins
-- - how much of its input a port has accepted
-- - how far the stream has come
-- - how a node has stopped
pub data Notice : Type 0 where
  OutputBegins : (port : ℕ) → (position : ℕ) → Notice
  InputBegins : (port : ℕ) → (accepted : ℕ) → Notice
  HasCome : (progress : Progress) → Notice
  NodeStopped : (node : ℕ) → (how : Stopped) → Notice

-- If it is known what a listener was told, it was now told these notices, in this order, and nothing else.
abbrev pub Noticed : List Notice → Option (List Notice) → Option (List Notice) → Type 0
Noticed notices None None = Unit {0}
Noticed notices None (Some new) = ⊥
Noticed notices (Some old) None = ⊥
Noticed notices (Some old) (Some new) = new ≡ old ++ notices
