-- What is said of a refusal where no story can be told of it.
use Rattle.std.specs.Prelude.{ℕ, List, [], ◌∷◌, ◌++◌, codes}
use Rattle.tp_views.specs.Lower.{ErrorKind, FileTooLarge, IsADirectory, OutOfMemory, QuotaExceeded, StorageFull}

abbrev pub memory_text : List ℕ
memory_text = codes "  memory is wanting" ++ 10 ∷ []

abbrev pub changed_text : List ℕ
changed_text = codes "  its head was changed since it was opened: try again" ++ 10 ∷ []

-- the way out, for what the system says of a path
abbrev pub way_out : ErrorKind → List ℕ
way_out OutOfMemory = codes "There is no memory left for all that is in it: is it the file that you mean?"
way_out StorageFull = codes "Make room on its disk, or name a path on another one."
way_out QuotaExceeded = codes "Make room on its disk, or name a path on another one."
way_out FileTooLarge = codes "The system allows no file of that length there: name a path on another disk, or look at ulimit -f."
way_out IsADirectory = codes "It is a folder: name a file."
way_out _ = codes "Look at the path, and at your rights to it."
