-- A process with its own entries and the tokens that these name, and nothing else.
use Rattle.std.specs.Prelude.{ℕ, ◌==◌, if◌then◌else◌, List, [], ◌∷◌, ◌++◌, length, Option, Some}
use Rattle.tp_law_network.specs.Lower.{Token, Entry, ◌>>=◌, Machine, Network, Own, own, process, does}

-- the state of a process, and all that it has sent so far, each token with its line
abbrev pub AloneState : Type 0 → Type 0
AloneState Node = Own Node × List (ℕ × Token)

-- after one entry: it does an entry of its own, with the tokens that the entry names; another's leaves it as it is
abbrev pub doing : {Node : Type 0} → Machine Node → Network Node → ℕ → AloneState Node → Entry → Option (AloneState Node)
doing M s p a e =
    if p == process s.wires (length s.nodes) e
    then (does M s.wires (length s.nodes) e a.0 >>= λ change. Some (change.0, a.1 ++ change.1))
    else Some a

-- after the entries in order: `None` if one of its own isn't possible
unfoldable pub doing_all : {Node : Type 0} → Machine Node → Network Node → ℕ → AloneState Node → List Entry → Option (AloneState Node)
doing_all M s p a [] = Some a
doing_all M s p a (e ∷ es) = doing M s p a e >>= λ b. doing_all M s p b es

-- from its state in the network on, whatever the lines have
abbrev pub by_itself : {Node : Type 0} → Machine Node → Network Node → ℕ → List Entry → Option (AloneState Node)
by_itself M s p es = own s p >>= λ x. doing_all M s p (x, []) es
