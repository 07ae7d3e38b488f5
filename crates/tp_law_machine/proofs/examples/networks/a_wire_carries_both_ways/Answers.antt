use Rattle.std.proofs.Common.{refl}
use Rattle.tp_law_machine.proofs.Lower.{step_of, node_step, took, steps, own, put, taken, pushed, sent, process, takes, of_port, receives, does, next, acts, after}
use Rattle.tp_law_machine.proofs.examples.networks.a_wire_carries_both_ways.Goals as goal

pub returns : goal.returns
unfolding step_of node_step took steps own put taken pushed sent process takes of_port receives does next acts after
returns c = refl
