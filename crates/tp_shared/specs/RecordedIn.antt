-- How a node recorded, in a book that was seen under its lock.
use Rattle.std.specs.Prelude.{◌≡◌, ℕ, Bool, List, [], ◌∷◌}
use Rattle.tp_shared.specs.Lower.{NodeState, Network, NodeContents, is_asked, BookValue, Done, IsNodeOf, moment_of, Records}
use Rattle.tp_shared.specs.Holds.{IsBookOf}

-- The book was seen as it was found and as it was left. The node recorded exactly if it was asked to in the book that was found, which had
-- the node; else nothing was done.
pub record RecordedIn (start : Network NodeState) (number : ℕ) (seen : List BookValue) (done : Bool) : Type 0 where
  pub found : BookValue
  pub left : BookValue
  pub was : NodeContents
  pub is : NodeContents
  pub shown : seen ≡ found ∷ left ∷ []
  pub of : IsBookOf start found
  pub node : IsNodeOf found number was
  pub asked : done ≡ is_asked found.state.snapshot number
  pub did : Done number (Records number) (moment_of found was) (moment_of left is)
