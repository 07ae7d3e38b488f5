-- What a process by itself becomes, if a network goes through the entries.
use Rattle.std.specs.Prelude.{◌≡◌, ℕ, List, ◌++◌, length, Some}
use Rattle.tp_law_network.specs.Lower.{Entry, Machine, Network, own, on_line, owner}
use Rattle.tp_law_network.specs.ByItself.{AloneState, by_itself}
use Rattle.tp_law_network.specs.Arrivals.{arrivals, named}

-- It goes through its own entries, and is then what it is in the network `t`. On each line that it sends, what came is what the entries
-- named there, followed by what t has on the line.
pub record BecomesByItself {Node : Type 0} (M : Machine Node) (s : Network Node) (process : ℕ) (es : List Entry) (t : Network Node) : Type 0 where
  pub last : AloneState Node
  pub leads : by_itself M s process es ≡ Some last
  pub stands : own t process ≡ Some last.0
  pub lines : (l : ℕ) → owner (length s.nodes) l ≡ process → arrivals s l last ≡ named s l es ++ on_line t.lines l
