-- How values are spelt for scripts, as JSON: numbers, fixed names, and lists of them.
use Rattle.std.specs.Prelude.{ℕ, ◌+◌, ◌==◌, Bool, if◌then◌else◌, List, [], ◌∷◌, ◌++◌, codes}

-- what comes before an item of a list, if this many items come before it
abbrev pub comma : ℕ → List ℕ
comma before = if before == 0 then [] else codes ","

-- items with commas between them, if this many come before them
abbrev pub json_items : ℕ → List (List ℕ) → List ℕ
json_items before [] = []
json_items before (item ∷ items) = (comma before ++ item) ++ json_items (before + 1) items

-- a list of items
abbrev pub json_list : List (List ℕ) → List ℕ
json_list items = codes "[" ++ (json_items 0 items ++ codes "]")

-- the word for whether something is true
abbrev pub json_bool : Bool → List ℕ
json_bool is_so = if is_so then codes "true" else codes "false"
