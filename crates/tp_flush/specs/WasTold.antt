-- The book was told of a call of the device that failed.
use Rattle.std.specs.Prelude.{◌≡◌, Bool, true, List, [], ◌∷◌, ◌++◌}
use Rattle.tp_flush.specs.Lower.{BookValue, Told}

-- Of the books that were seen the last one is broken: it journals nothing more.
pub record WasTold (seen : List BookValue) : Type 0 where
  pub before : List BookValue
  pub found : BookValue
  pub shown : seen ≡ before ++ found ∷ []
  pub broken : found.broken ≡ true

-- What the flusher knows of the book says that it is broken exactly if a call failed. If one did, the last book that was seen is broken.
pub record ToldWhere (failed : Bool) (told : Told) (seen : List BookValue) : Type 0 where
  pub shows : told.broken ≡ failed
  pub was : failed ≡ true → WasTold seen
