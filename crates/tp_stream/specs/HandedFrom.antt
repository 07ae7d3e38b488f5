-- From which inputs the bytes come that are handed to ports.
use Rattle.std.specs.Prelude.{◌≡◌, ℕ, ◌+◌, List, Option, Some, None, slice_get}
use Rattle.tp_stream.specs.Lower.{Entry, bytes_in, GivenInput}

-- If the whole input is known, it has this byte at this position.
abbrev pub HasByte : Option (List ℕ) → ℕ → ℕ → Type 0
HasByte None at x = Unit {0}
HasByte (Some all) at x = slice_get all at ≡ Some x

-- One of these inputs is of this port, and has this byte at this position.
pub record CameFrom (inputs : List GivenInput) (port at x : ℕ) : Type 0 where
  pub place : ℕ
  pub input : GivenInput
  pub there : slice_get inputs place ≡ Some input
  pub is : input.port ≡ port
  pub byte : HasByte input.all at x

-- Each byte that entries hand to a port is the one that an input of the port has at its position. The first one's position is how many bytes the port
-- has accepted before. So no byte comes twice, none is left out, and a port without an input gets none.
abbrev pub AreHandedFrom : List GivenInput → (ℕ → ℕ) → List Entry → Type 0
AreHandedFrom inputs accepted es = (p n x : ℕ) → slice_get (bytes_in p es) n ≡ Some x → CameFrom inputs p (accepted p + n) x

-- ## While a stream goes on

-- The host handed in no more bytes.
abbrev pub HandsNoBytes : List Entry → List Entry → Type 0
HandsNoBytes old new = (p : ℕ) → bytes_in p new ≡ bytes_in p old

-- What the host handed in more comes from this input, whichever others there are.
abbrev pub FeedsFrom : GivenInput → (ℕ → ℕ) → List Entry → List Entry → Type 0
FeedsFrom input accepted old new =
    (inputs : List GivenInput) (place : ℕ) → slice_get inputs place ≡ Some input → AreHandedFrom inputs accepted old → AreHandedFrom inputs accepted new

-- The inputs are those that they were, and what the host handed in more comes from them.
pub record FedFrom (accepted : ℕ → ℕ) (was now : List GivenInput) (old new : List Entry) : Type 0 where
  pub same : now ≡ was
  pub fed : AreHandedFrom was accepted old → AreHandedFrom was accepted new
