-- A number of bytes that was typed, as a decimal or with a letter after it.
use Rattle.std.specs.Prelude.{◌≡◌, ◌≢◌, ◌≤◌, ◌*◌, ◌++◌, ℕ, List, [], Option, Some, None, IsSomeAnd, codes}
use Rattle.std.specs.Fmt.{decimal}
use Rattle.tp_words.specs.declared.arg_fault.ArgFault.{ArgFault}
use Rattle.tp_words.specs.declared.arg_fault.ArgFault.TheVariants.{Size, Memory}
use Rattle.tp_words.specs.declared.args.TheConstants.{MAX_AREA}
use Rattle.tp_words.specs.declared.sizes.Measure.{Measure}
use Rattle.tp_words.specs.declared.sizes.Measure.TheVariants.{Bytes, Kilo, Mega, Giga}

-- the letter of a measure
abbrev pub letter : Measure → List ℕ
letter Bytes = []
letter Kilo = codes "K"
letter Mega = codes "M"
letter Giga = codes "G"

-- how many bytes one of it is
abbrev pub bytes_each : Measure → ℕ
bytes_each Bytes = 1
bytes_each Kilo = 1024
bytes_each Mega = 1024 * 1024
bytes_each Giga = 1024 * 1024 * 1024

-- the text is a decimal with the letter of a measure after it, and the size is that number of the measure's bytes
pub record IsSize (text : List ℕ) (size : ℕ) : Type 0 where
  pub measure : Measure
  pub number : ℕ
  pub spelt : text ≡ decimal number ++ letter measure
  pub is : size ≡ number * bytes_each measure

-- the size is that of this text; there is none if there is no text
abbrev pub IsSizeOf : Option (List ℕ) → Option ℕ → Type 0
IsSizeOf None size = size ≡ None
IsSizeOf (Some text) size = IsSomeAnd size (IsSize text)

-- an area has the size that was typed for its option, or else that of its place
abbrev pub IsAreaOf : (option place : Option (List ℕ)) → Option ℕ → Type 0
IsAreaOf None place area = IsSizeOf place area
IsAreaOf (Some text) place area = IsSizeOf (Some text) area

-- the text says no size up to a bound, in one measure, or in any
abbrev pub IsNoSizeIn : Measure → List ℕ → ℕ → Type 0
IsNoSizeIn measure text most = (number : ℕ) → number * bytes_each measure ≤ most → text ≢ decimal number ++ letter measure

abbrev pub IsNoSize : List ℕ → ℕ → Type 0
IsNoSize text most = (size : ℕ) → size ≤ most → IsSize text size → ⊥

-- why a size isn't taken: out of memory, or the text is none; `name`: where it was typed
abbrev pub IsSizeFault : List ℕ → Option (List ℕ) → ArgFault → Type 0
IsSizeFault name text Memory = Unit {0}
IsSizeFault name (Some text) (Size told) = (told.now ≡ name) × IsNoSize text MAX_AREA
IsSizeFault name text _ = ⊥

abbrev pub IsAreaFault : (option place : Option (List ℕ)) → ArgFault → Type 0
IsAreaFault None place fault = IsSizeFault (codes "AREA") place fault
IsAreaFault (Some text) place fault = IsSizeFault (codes "--area") (Some text) fault
