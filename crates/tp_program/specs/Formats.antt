-- What `format` prints.
use Rattle.std.specs.Prelude.{ℕ, List, [], ◌∷◌, ◌++◌, codes}

abbrev pub formatted_text : List ℕ
formatted_text = codes "formatted" ++ 10 ∷ []
