-- Whether an entry can follow others: its process can do it, and its tokens are those that came.
use Rattle.std.specs.Prelude.{◌≡◌, ◌<◌, ℕ, List, [], ◌∷◌, ◌++◌, length, Some}
use Rattle.tp_law_network.specs.Lower.{Token, Entry, Machine, Network, for_line, process, takes}
use Rattle.tp_law_network.specs.ByItself.{AloneState, by_itself}
use Rattle.tp_law_network.specs.Arrivals.{named, came}

-- An entry can follow the entries `xs` if its process can do it by itself, and each token that it takes is the one that comes next on its
-- line. That is: what has come on a line begins with the tokens that earlier entries name there, and goes on with this entry's. So each of
-- them was on the line in the network at first, or an earlier entry of the line's sender sent it, and none is left out.
pub record CanFollow {Node : Type 0} (M : Machine Node) (s : Network Node) (xs : List Entry) (e : Entry) : Type 0 where
  pub last : AloneState Node
  pub does : by_itself M s (process s.wires (length s.nodes) e) (xs ++ e ∷ []) ≡ Some last
  pub next : (l : ℕ) → (rest : List Token) × (came M s l xs ≡ Some (named s l xs ++ (for_line l (takes s.wires (length s.nodes) e) ++ rest)))

-- Each entry before the place `stop` can follow those before it, and the one at that place can't.
pub record StopsAtFault {Node : Type 0} (M : Machine Node) (s : Network Node) (es : List Entry) (stop : ℕ) : Type 0 where
  pub before : (xs ys : List Entry) (e : Entry) → es ≡ xs ++ e ∷ ys → length xs < stop → CanFollow M s xs e
  pub at : (xs ys : List Entry) (e : Entry) → es ≡ xs ++ e ∷ ys → length xs ≡ stop → CanFollow M s xs e → ⊥
