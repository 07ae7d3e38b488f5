-- What contracts see of a device in a file.
use Rattle.std.specs.Prelude.{List}
use Rattle.tp_model.specs.DiskHistory.{State}
use Rattle.tp_disk.specs.FileState.{told_reads, told_state}
use Rattle.tp_disk.specs.Reads.{Reading}
use Rattle.tp_disk.specs.declared.file_history.FileHistory.{FileHistory}

-- what its calls have led to
abbrev pub file_state : FileHistory → State
file_state noted = told_state noted.size noted.history.told

-- which of its reads were answered
abbrev pub file_reads : FileHistory → List Reading
file_reads noted = told_reads noted.size noted.history.told
