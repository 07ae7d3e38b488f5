-- What reading an image answers.
use Rattle.std.specs.Prelude.{◌≡◌, ℕ, ◌/◌, false, length, replicate, min, Option, Some, None, Result, Ok, Err}
use Rattle.tp_node.specs.Lower.{PAGE_BYTES, NodeState}
use Rattle.tp_node.specs.declared.fault.ImageFault.{ImageFault}
use Rattle.tp_node.specs.declared.fault.ImageFault.TheVariants.{BadImage, Memory}
use Rattle.tp_node.specs.NodeContents.{NodeContents}

-- The node whose image the bytes are, not frozen. The answer is `BadImage` exactly if they are no image, and `Memory` is only answered if
-- they are one.
abbrev pub ReadsImage : Option NodeState → Result NodeContents ImageFault → Type 0
ReadsImage (Some state) (Ok node) = (node.live ≡ state) × (node.frozen ≡ None)
ReadsImage (Some state) (Err Memory) = Unit {0}
ReadsImage (Some state) (Err BadImage) = ⊥
ReadsImage None (Err BadImage) = Unit {0}
ReadsImage None (Err Memory) = ⊥
ReadsImage None (Ok node) = ⊥

-- no page of it is shared, and it has `wanted` spare frames, but no more than pages
pub record HasFrames (wanted : ℕ) (node : NodeContents) : Type 0 where
  pub shared : node.shared ≡ replicate (length node.live.memory / PAGE_BYTES) false
  pub spare : node.spare ≡ min wanted (length node.live.memory / PAGE_BYTES)
