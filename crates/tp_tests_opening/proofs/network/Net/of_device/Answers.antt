use Rattle.std.proofs.Common.{◌≡◌, Some, slice_get, ℕ, subst, sym}
use Rattle.tp_tests_opening.proofs.Lower.{NodeState, Network, IsNodeOfBytes}
use Rattle.tp_tests_opening.proofs.network.Net.of_device.Goals as goal

pub of_state-net-requires-clause-nodes : goal.of_state-net-requires-clause-nodes
of_state-net-requires-clause-nodes c =
    subst (λ (s : Network NodeState). (i : ℕ) (node : NodeState) → slice_get s.nodes i ≡ Some node → IsNodeOfBytes node) (sym c.in_ok-state.ensures.now) c.known.ensures.flat.nodes
