-- What is seen in a hold of the book's lock, and what a seat gains in it.
use Rattle.std.specs.Prelude.{◌≡◌, ◌<◌, ℕ, List, [], ◌∷◌, ◌++◌, length}
use Rattle.tp_shared.specs.Lower.{AllByRecursion, enumerate_from, Entry, NodeState, Network, BookValue, next_in_book}

-- a book of the network
pub record IsBookOf (start : Network NodeState) (b : BookValue) : Type 0 where
  pub wires : b.state.start.wires ≡ start.wires
  pub nodes : length b.state.start.nodes ≡ length start.nodes

-- what one hand has: the books that it saw, and the slips of entries
pub record InHand : Type 0 where
  pub seen : List BookValue
  pub slips : List (ℕ × Entry)

abbrev pub in_hand : List BookValue → List (ℕ × Entry) → InHand
in_hand seen slips = record { seen = seen; slips = slips }

-- In one hold the book was seen as it was found and as it was left, after all that the hand saw before. The hand gained the slips of
-- exactly the new entries of this book, each under the number that the book gave it. All slips that it had have lower numbers.
pub record WasHeld (start : Network NodeState) (found left : BookValue) (old new : InHand) : Type 0 where
  pub of : IsBookOf start found
  pub seen : new.seen ≡ old.seen ++ found ∷ left ∷ []
  pub entries : List Entry
  pub history : left.history ≡ found.history ++ entries
  pub slips : new.slips ≡ old.slips ++ enumerate_from (next_in_book found) entries
  pub below : AllByRecursion (λ slip. slip.0 < next_in_book found) old.slips
