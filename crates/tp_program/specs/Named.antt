-- By which names refusals are told.
use Rattle.std.specs.Prelude.{ℕ, List, [], ◌∷◌, ◌++◌, codes, Option, Some, None}
use Rattle.tp_program.specs.declared.asking.Unmade.{Unmade}
use Rattle.tp_program.specs.declared.asking.Unmade.TheVariants as unmade
use Rattle.tp_program.specs.declared.backup_files.Undone.{Undone}
use Rattle.tp_program.specs.declared.backup_files.Undone.TheVariants as undone

-- why no request to stop is made
abbrev pub unmade_name : Unmade → List ℕ
unmade_name unmade.StopExists = codes "StopExists"
unmade_name unmade.DeviceFailed = codes "DeviceFailed"
unmade_name unmade.Memory = codes "Memory"

-- why a backup wasn't done; `None` if that was said already
abbrev pub undone_name : Undone → Option (List ℕ)
undone_name undone.CopyExists = Some (codes "CopyExists")
undone_name undone.PartExists = Some (codes "PartExists")
undone_name (undone.CopyFailed error) = Some (codes "DeviceFailed")
undone_name (undone.Uncopied error) = None
undone_name undone.Unprinted = Some (codes "DeviceFailed")
undone_name undone.Memory = Some (codes "Memory")

-- the lines that say why the words of a command line can't be taken: memory ran out, or a word is no text
abbrev pub no_memory_line : List ℕ
no_memory_line = codes "tpnet: Memory" ++ 10 ∷ []

abbrev pub unspelt_line : List ℕ
unspelt_line = codes "tpnet: a word isn't UTF-8; rename the file, or go to its folder" ++ 10 ∷ []
