-- What can be wrong with a job on a network, and the nodes that are made for it.
use Rattle.std.specs.Prelude.{◌≡◌, ℕ, nat_lt, nat_le, Bool, true, false, List, Option, Some, None, slice_get}
use Rattle.tp_run.specs.Lower.{HasFrames, NodeContents, list_all, Topology}
use Rattle.tp_run.specs.declared.fault.RunFault.{RunFault}
use Rattle.tp_run.specs.declared.fault.RunFault.TheVariants.{Spare, Port}

-- whether each node has at least as many pages as the spare frames that were asked for
abbrev pub has_pages : ℕ → Topology → Bool
has_pages spare t = list_all (λ pages. nat_le spare pages) t.pages

-- what is wrong with a job: a node has fewer pages than that, or there is no such port
abbrev pub fault_by : Bool → Bool → Option RunFault
fault_by false there = Some Spare
fault_by true false = Some Port
fault_by true true = None

abbrev pub job_fault : ℕ → ℕ → Topology → Option RunFault
job_fault spare port t = fault_by (has_pages spare t) (nat_lt port t.ports)

-- each of these nodes has `spare` frames for pages that it writes while it is frozen, but at most as many as it has pages
abbrev pub HaveFrames : ℕ → List NodeContents → Type 0
HaveFrames spare nodes = (i : ℕ) (node : NodeContents) → slice_get nodes i ≡ Some node → HasFrames spare node
