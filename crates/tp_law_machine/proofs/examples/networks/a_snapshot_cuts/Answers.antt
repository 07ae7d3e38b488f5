use Rattle.std.proofs.Common.{refl}
use Rattle.tp_law_machine.proofs.Lower.{step_of, node_step, took, steps, own, put, taken, pushed, sent, process, takes, receives, does, next, acts, made, whole, happens, acted}
use Rattle.tp_model.specs.Order.{chosen}
use Rattle.tp_law_machine.proofs.examples.networks.a_snapshot_cuts.Goals as goal

pub returns : goal.returns
unfolding step_of node_step took steps own put taken pushed sent process takes receives does next acts chosen made whole happens acted
returns c = refl
