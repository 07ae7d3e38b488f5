-- What the reader of a topology's text keeps, and what a step of it leaves.
use Rattle.std.specs.Prelude.{◌≡◌, ◌⊎◌, ℕ, List, map, Result, Ok, Err}
use Rattle.tp_net.specs.Lower.{Bor, IndexMap, IndexSet, NetFault, Memory, Said}

-- each node's name with its pages
abbrev pub pages_by_name : {S : Type 0} → IndexMap (Bor (List ℕ)) ℕ S → List (List ℕ × ℕ)
pages_by_name nodes = map (λ node. (node.0.now, node.1)) nodes.entries

-- each name
abbrev pub names_in : {S : Type 0} → IndexSet (Bor (List ℕ)) S → List (List ℕ)
names_in names = map (λ name. name.now) names.keys

-- A step has left what it should have led to. Or it has a fault: the one that it should have led to, or memory is out.
abbrev pub IsStep : Result Said NetFault → Said → Result (Unit {0}) NetFault → Type 0
IsStep want new (Ok done) = want ≡ Ok new
IsStep want new (Err fault) = (fault ≡ Memory) ⊎ (want ≡ Err fault)

-- the fault of what was to be read, or memory is out
abbrev pub IsFaultOf : {T : Type 0} → Result T NetFault → NetFault → Type 0
IsFaultOf want fault = (fault ≡ Memory) ⊎ (want ≡ Err fault)

-- What is read is what was to be read, or there is a fault.
abbrev pub IsRead : {T : Type 0} → Result T NetFault → Result T NetFault → Type 0
IsRead want (Ok found) = want ≡ Ok found
IsRead want (Err fault) = IsFaultOf want fault
