-- Which outputs entries confirm.
use Rattle.std.specs.Prelude.{◌≡◌, ◌≤◌, ℕ, List, Some, slice_get}
use Rattle.tp_stream.specs.Lower.{AllByRecursion, Entry, Run, Take, HostIn, Confirm, OutputValue}
use Rattle.tp_model.specs.declared.entry.Entry.TheVariants.{Turn}

-- One of these outputs is of this port, and was put up to this position or further.
pub record WasPutUpto (outputs : List OutputValue) (port upto : ℕ) : Type 0 where
  pub place : ℕ
  pub output : OutputValue
  pub there : slice_get outputs place ≡ Some output
  pub is : output.port ≡ port
  pub put : upto ≤ output.next

-- If an entry confirms outputs of a port, these were put.
abbrev pub ConfirmsPut : List OutputValue → Entry → Type 0
ConfirmsPut outputs (Run i k) = Unit {0}
ConfirmsPut outputs (Take line token) = Unit {0}
ConfirmsPut outputs (HostIn p x) = Unit {0}
ConfirmsPut outputs (Confirm p upto) = WasPutUpto outputs p upto
ConfirmsPut outputs (Turn i links k) = Unit {0}

-- that is true of each of these entries
abbrev pub AreConfirmsPut : List OutputValue → List Entry → Type 0
AreConfirmsPut outputs es = AllByRecursion (ConfirmsPut outputs) es
