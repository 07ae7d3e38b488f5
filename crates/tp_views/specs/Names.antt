-- The words that are printed for forms, and for whether a node runs.
use Rattle.std.specs.Prelude.{ℕ, List, Option, Some, None, codes}
use Rattle.tp_views.specs.Lower.{Form, Plain, Turns, Fault, fault_name}

-- the name of an area's form
abbrev pub form_name : Form → List ℕ
form_name Plain = codes "plain"
form_name Turns = codes "turns"

-- the name for why a node halted, or that it runs
abbrev pub halt_name : Option Fault → List ℕ
halt_name None = codes "runs"
halt_name (Some fault) = fault_name fault
