-- Turns of the node and of the host, with the book that they leave.
use Rattle.std.proofs.Common.{◌≡◌, ◌+◌, ◌<◌, ℕ, ◌∙◌}
use Rattle.std.specs.Prelude.{Ok, Err}
use Rattle.tp_turn.proofs.Lower.{NUMBER_LIMIT, NodeContents, BookValue, next_in_book, Refusal, Memory}
use Rattle.tp_turn.specs.Hosted.{HostDone, HostTurns}
use Rattle.tp_turn.specs.Moments.{Done, IsNodeOf, moment_of}
use Rattle.tp_turn.specs.Whole.{TurnsWhole}
use Rattle.tp_turn.specs.declared.stages.Turn.{Turn}
use Rattle.tp_turn.proofs.Hosting.{nodes_stay}
use Rattle.tp_turn.specs.Lone.{IsLone, WentByAct}
use Rattle.tp_turn.specs.TrialTurns.{IsNodeTurn, IsHostTurn}
use Rattle.tp_turn.specs.declared.lone.Lone.{Lone}
use Rattle.tp_turn.specs.declared.take.TheConstants.{TURN_ENTRIES}
use Rattle.tp_turn.proofs.TrialHosting.{host_turned, host_refused_so}
use Rattle.tp_turn.proofs.Noding.{IsCalm, node_turned, node_refused}

module _ (a : Lone) (L : IsLone a) (left : next_in_book a.book + TURN_ENTRIES + 1 < NUMBER_LIMIT) where
  calm : IsCalm (moment_of a.book a.node)
  calm = record { book = L.book; thawed = L.thawed }

  pub node_went : (quantum : ℕ) (turn : Turn) (now : Lone) → Done 0 (TurnsWhole 0 quantum (Ok turn)) (moment_of a.book a.node) (moment_of now.book now.node) → IsNodeOf now.book 0 now.node
      → WentByAct (IsNodeTurn quantum 0) TURN_ENTRIES a now
  node_went quantum turn now D is =
      let T = node_turned quantum turn (moment_of a.book a.node) (moment_of now.book now.node) D.acts calm D.did is.there in
      record { made = T.1; lone = record { book = T.0.book; node = is; thawed = T.0.thawed } }

  pub node_wants : (quantum : ℕ) (e : Refusal) (book : BookValue) (node : NodeContents) → Done 0 (TurnsWhole 0 quantum (Err e)) (moment_of a.book a.node) (moment_of book node) → e ≡ Memory
  node_wants quantum e book node D = node_refused quantum e (moment_of a.book a.node) (moment_of book node) D.acts calm left D.did

  pub host_went : (takes : ℕ) (book : BookValue) → HostDone (HostTurns (Ok takes)) a.book book → WentByAct IsHostTurn TURN_ENTRIES a (record a { book = book })
  host_went takes book D =
      let T = host_turned takes a.book book D.acts L.book left D.did in
      record { made = T.1; lone = record { book = T.0; node = nodes_stay 0 a.node D.acts a.book book D.added L.node; thawed = L.thawed } }

  pub host_wants : (e : Refusal) (book : BookValue) → HostDone (HostTurns (Err e)) a.book book → e ≡ Memory
  host_wants e book D = host_refused_so e a.book book D.acts L.book left (D.added.grew.broken ∙ L.book.whole) D.did
