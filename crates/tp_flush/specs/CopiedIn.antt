-- The book from which a turn of the flusher made its copy.
use Rattle.std.specs.Prelude.{◌≡◌, ℕ, false, List, [], ◌∷◌, ◌++◌}
use Rattle.tp_book.specs.Book.{BookValue, next_in_book}

-- The copy was made of a book that was seen after those seen before: it reaches the number of its next entry. That book isn't broken.
pub record CopiedIn (upto : ℕ) (before seen : List BookValue) : Type 0 where
  pub found : BookValue
  pub shown : seen ≡ before ++ found ∷ []
  pub reaches : upto ≡ next_in_book found
  pub whole : found.broken ≡ false
