-- Which port lives on standard output, and which on standard input.
use Rattle.std.specs.Prelude.{◌≡◌, ◌↔◌, ◌<◌, ℕ, List, [], ◌∷◌, ◌++◌, Option, Some, Contains, codes}
use Rattle.tp_words.specs.Lower.{decimal, Global, String, MAX_PORTS, standard_port, Ends}
use Rattle.tp_words.specs.Given.{all_given}

-- how it is typed that a port does: its decimal, an equals sign, and a dash
abbrev pub standard_text : ℕ → List ℕ
standard_text port = decimal port ++ 61 ∷ 45 ∷ []

-- a port does just if that was typed
abbrev pub IsStandard : Option ℕ → List (List ℕ) → Type 0
IsStandard standard texts = (port : ℕ) → port < MAX_PORTS → (standard ≡ Some port) ↔ Contains texts (standard_text port)

pub record AreStandard (words : List (String Global)) (ends : Ends) : Type 0 where
  pub output : IsStandard (standard_port ends.outs.items) (all_given (codes "out") words)
  pub input : IsStandard (standard_port ends.ins.items) (all_given (codes "in") words)
