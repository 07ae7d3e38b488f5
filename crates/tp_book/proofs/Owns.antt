-- The state of a node or of a port, as that of its process.
use Rattle.std.proofs.Common.{◌≡◌, ℕ, ◌+◌, ◌*◌, ◌<◌, List, length, map, set, ap, ◌∙◌, arith, Option, Some, slice_get}
use Rattle.tp_book.proofs.Lower.{option_map, slice_get_within, Token, NodeState, Port, Network, Own, OfNode, OfHost, own, of_port, own-node}

-- a node that is there is no host
pub own_there : (s : Network NodeState) (i : ℕ) (n : NodeState) → slice_get s.nodes i ≡ Some n → own s i ≡ Some (OfNode n)
own_there s i n at =
    let below : i < length s.nodes = slice_get_within s.nodes i n at in
    own-node s i (λ same. omega arith) ∙ ap (option_map OfNode) at

-- a port's change as one of the host
pub of_port-is : (N p : ℕ) (ports : List Port) (port : Port) (after : Port × List Token) (f : Port → Option (Port × List Token)) → slice_get ports p ≡ Some port → f port ≡ Some after
    → ◌≡◌ {A = Option (Own NodeState × List (ℕ × Token))} (of_port N p ports f) (Some (OfHost (set ports p after.0), map (λ t. (4 * N + p, t)) after.1))
unfolding of_port
of_port-is N p ports port after f at did = rw (at, did)
