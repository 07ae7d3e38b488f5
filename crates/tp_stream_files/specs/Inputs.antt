-- A port's input, and what is known of it.
use Rattle.std.specs.Prelude.{◌≡◌, ◌≤◌, ℕ, Bool, ◌||◌, List, length, take, drop, Option, Some, None, is_some}

-- If the whole input is known, `bytes` are those of it from position `at` on, as many as `bytes` has.
abbrev pub AreFrom : Option (List ℕ) → ℕ → List ℕ → Type 0
AreFrom None at bytes = Unit {0}
AreFrom (Some all) at bytes = bytes ≡ take (length bytes) (drop at all)

-- If the whole input is known, it has this many bytes.
abbrev pub IsLength : Option ℕ → Option (List ℕ) → Type 0
IsLength n None = Unit {0}
IsLength n (Some all) = n ≡ Some (length all)

-- If the whole input is known, it has at least `n` bytes.
abbrev pub HasAtLeast : ℕ → Option (List ℕ) → Type 0
HasAtLeast n None = Unit {0}
HasAtLeast n (Some all) = n ≤ length all

-- If the whole input is known, it ends at position `at` or before.
abbrev pub IsBehind : ℕ → Option (List ℕ) → Type 0
IsBehind at None = Unit {0}
IsBehind at (Some all) = length all ≤ at

-- If the end of an input was found at a position, and the whole input is known, it ends there or before.
abbrev pub EndsThere : Option ℕ → Option (List ℕ) → Type 0
EndsThere ended input = (at : ℕ) (all : List ℕ) → ended ≡ Some at → input ≡ Some all → length all ≤ at

-- whether an input has no more bytes that its port may take: its end was found, or the port had no room for more
abbrev pub is_over : Option ℕ → Bool → Bool
is_over ended blocked = is_some ended || blocked

-- An input: its port, and the path of the file that it comes from, if it comes from a file.
pub record NamedInput : Type 0 where
  pub port : ℕ
  pub path : Option (List ℕ)

abbrev pub named_input : ℕ → Option (List ℕ) → NamedInput
named_input port path = record { port = port; path = path }

-- An input: its port, and all of its bytes, if they are known.
pub record GivenInput : Type 0 where
  pub port : ℕ
  pub all : Option (List ℕ)

abbrev pub given_input : ℕ → Option (List ℕ) → GivenInput
given_input port all = record { port = port; all = all }
