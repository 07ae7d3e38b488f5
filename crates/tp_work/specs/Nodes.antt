-- Nodes of an opened device.
use Rattle.std.specs.Prelude.{◌≡◌, ℕ, None}
use Rattle.tp_work.specs.Lower.{IsNodeOfBytes, NodeState, HasFrames, NodeContents}

-- A node in this state, not frozen, with an image and `spare` spare frames, but at most as many as pages.
pub record IsMade (spare : ℕ) (state : NodeState) (node : NodeContents) : Type 0 where
  pub live : node.live ≡ state
  pub thawed : node.frozen ≡ None
  pub image : IsNodeOfBytes node.live
  pub frames : HasFrames spare node
