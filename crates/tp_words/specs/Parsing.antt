-- What `clap` says of words that it doesn't take.
use Rattle.std.specs.Prelude.{◌≢◌}
use Rattle.tp_words.specs.Lower.{kind_of, Error, DisplayHelp, DisplayVersion, OutOfMemory}

-- what is said is neither help nor the version, nor out of memory
abbrev pub IsMistake : Error → Type 0
IsMistake error = (kind_of error ≢ DisplayHelp) × ((kind_of error ≢ DisplayVersion) × (kind_of error ≢ OutOfMemory))
