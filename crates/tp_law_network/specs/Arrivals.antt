-- The tokens of one line: those that entries name, and those that come.
use Rattle.std.specs.Prelude.{ℕ, if◌then◌else◌, List, [], ◌∷◌, ◌++◌, length, Option, Some}
use Rattle.tp_law_network.specs.Lower.{Token, Entry, ◌>>=◌, Machine, Network, has_wire, on_line, for_line, takes, owner}
use Rattle.tp_law_network.specs.ByItself.{AloneState, by_itself}

-- the tokens that the entries name on the line, in order
unfoldable pub named : {Node : Type 0} → Network Node → ℕ → List Entry → List Token
named s l [] = []
named s l (e ∷ es) = for_line l (takes s.wires (length s.nodes) e) ++ named s l es

-- what the network has on the line, and after it what its sender has sent there, if the line has a wire
abbrev pub arrivals : {Node : Type 0} → Network Node → ℕ → AloneState Node → List Token
arrivals s l a = on_line s.lines l ++ (if has_wire s.wires l then for_line l a.1 else [])

-- What has come on the line once its sender went through the entries by itself: `None` if one of the sender's own isn't possible.
abbrev pub came : {Node : Type 0} → Machine Node → Network Node → ℕ → List Entry → Option (List Token)
came M s l es = by_itself M s (owner (length s.nodes) l) es >>= λ a. Some (arrivals s l a)
