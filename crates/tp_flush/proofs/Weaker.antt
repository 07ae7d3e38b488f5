-- What the flusher keeps under a premise it keeps under a stronger one. So what was kept under the premise on the reads before a call is kept under
-- the premise on those after it, and from there on a call has one premise.
use Rattle.std.proofs.Common.{ℕ, Bool, Option}
use Rattle.tp_flush.proofs.Lower.{NodeState, Network, World, MarkedNetwork, State, Topology, Place, RaiserValue}
use Rattle.tp_flush.specs.declared.progress.Progress.{Progress}
use Rattle.tp_flush.specs.Known.{Known}
use Rattle.tp_flush.specs.Flushing.{IsOfDevice, KeepsCopy, KeepsWorld}

module _ (before after : Type 0) (were : after → before) where
  pub world_later : (start : Network NodeState) (first : World NodeState) (known : Known) (state : State) (place : Place) (broken : Bool) (raiser : RaiserValue)
      → KeepsWorld before start first known state place broken raiser → KeepsWorld after start first known state place broken raiser
  world_later start first known state place broken raiser w = record {
    next = w.next;
    cut = w.cut;
    ends = w.ends;
    mark = w.mark;
    at = w.at;
    disk = λ k. w.disk (were k);
    reached = λ k. w.reached (were k);
    rises = λ k. w.rises (were k);
  }

  pub copy_later : (net : MarkedNetwork NodeState) (state : State) (place : Place) (broken : Bool) (t : Topology) (progress : Progress)
      → KeepsCopy before net state place broken t progress → KeepsCopy after net state place broken t progress
  copy_later net state place broken t progress w = record { roomy = w.roomy; closed = λ k. w.closed (were k); images = λ k. w.images (were k) }

  pub device_later : (most : Option ℕ) (w : World NodeState) (state : State) (place : Place) (broken : Bool) (t : Topology)
      → IsOfDevice before most w state place broken t → IsOfDevice after most w state place broken t
  device_later most w state place broken t is = record { spelt = is.spelt; bound = is.bound; head = λ k. is.head (were k) }
