use Rattle.std.proofs.Common.{◌≡◌, ℕ, ◌<◌, true, length, Result, Ok, Err, arith}
use Rattle.std.specs.Prelude.{IfOk}
use Rattle.tp_stream.proofs.Lower.{NodeState, Network, Refusal}
use Rattle.tp_stream.specs.declared.turns.Did.{Did}
use Rattle.tp_stream.specs.Quiet.{HadNothing, NodeRests}
use Rattle.tp_stream.proofs.rounds.make_turn.Goals as goal

node_had : (start : Network NodeState) (number : ℕ) (r : Result Did Refusal) → number < length start.nodes → IfOk r (λ did. did.nothing ≡ true → NodeRests start number)
    → IfOk r (λ did. did.nothing ≡ true → HadNothing start number)
node_had start number (Ok did) there rests = λ nothing. record { node = λ low. rests nothing; host = λ high. absurd (omega (arith, there, high)) }
node_had start number (Err refusal) there rests = tt

pub returns-else-whose-nodes-clause-had : goal.returns-else-whose-nodes-clause-had
returns-else-whose-nodes-clause-had g c = node_had g.J.Naming.start c.args.whose c.node_turn.result (omega arith) c.node_turn.ensures.rests

pub returns-then-whose-nodes-clause-turn : goal.returns-then-whose-nodes-clause-turn
returns-then-whose-nodes-clause-turn g c = c.host_turn.ensures.turn c.args.quantum
