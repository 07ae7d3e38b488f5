-- What a node's answers say: to a token, at the end of a run, to an image.
use Rattle.std.proofs.Common.{◌≡◌, ℕ, ◌<◌, ◌≤◌, List, refl, sym, ap, arith, Option, Some, None, IsSome, Err}
use Rattle.std.specs.Prelude.{Ok}
use Rattle.tp_node.proofs.Lower.{option_map, LacksFrames, Token, NodeState, node_step, on_link, step_of}
use Rattle.tp_node.specs.declared.run.Why.{Why}
use Rattle.tp_node.specs.declared.run.Why.TheVariants.{Full, Idle, NoFrame, Halted}
use Rattle.tp_node.specs.declared.fault.NoFrame.{NoFrame as NoFrameLeft}
use Rattle.tp_node.specs.NodeContents.{NodeContents, memory_kept}
use Rattle.tp_node.specs.RunEnd.{IsWhy}
use Rattle.tp_node.specs.Takes.{Takes}
use Rattle.tp_node.specs.FromImage.{ReadsImage}

-- a token was taken, or there is a cause why not
pub takes_ok : (o : Option (NodeState × List (ℕ × Token))) (cause : Type 0) (link : ℕ) (before now : NodeState) (answer : Option Token) → Takes o cause link before (Ok answer) now → o ≡ Some (now, on_link link answer)
takes_ok None cause link before now answer takes = absurd takes
takes_ok (Some (after, sent)) cause link before now answer takes = rw (takes.0, takes.1) refl

pub takes_err : (o : Option (NodeState × List (ℕ × Token))) (cause : Type 0) (link : ℕ) (before now : NodeState) (e : NoFrameLeft) → Takes o cause link before (Err e) now → cause
takes_err None cause link before now e takes = absurd takes
takes_err (Some after) cause link before now e takes = takes.0

-- a node that lacks frames is frozen
pub lacking_frozen : (node : NodeContents) (ranges : List (ℕ × ℕ)) → LacksFrames (memory_kept node) ranges → IsSome node.frozen
lacking_frozen node ranges lacks = kept_some node.frozen lacks.frozen
  where
    kept_some : (frozen : Option NodeState) → IsSome (option_map (λ (n : NodeState). n.memory) frozen) → IsSome frozen
    kept_some None is = is
    kept_some (Some n) is = refl

-- a node that has halted makes no step
pub halted_rests : (node : NodeState) → IsSome node.cpu.halt → node_step node ≡ None
unfolding node_step step_of
halted_rests node halted = rw halted refl

-- a run makes at most as many steps as it may
pub why_most : (why : Why) (max count : ℕ) (cause : Type 0) (now : NodeState) → IsWhy why max count cause now → count ≤ max
why_most Full max count cause now is = omega arith
why_most Idle max count cause now is = omega (arith, is.0)
why_most NoFrame max count cause now is = omega (arith, is.0)
why_most Halted max count cause now is = omega (arith, is.0)

-- if it made fewer, there is no further step
pub why_fewer : (why : Why) (max count : ℕ) (cause : Type 0) (now : NodeState) → IsWhy why max count cause now → (cause → ⊥) → count < max → node_step now ≡ None
why_fewer Full max count cause now is never fewer = absurd (omega arith)
why_fewer Idle max count cause now is never fewer = is.1
why_fewer NoFrame max count cause now is never fewer = absurd (never is.2)
why_fewer Halted max count cause now is never fewer = halted_rests now is.1

-- an image that was read
pub image_read : (found : Option NodeState) (node : NodeContents) → ReadsImage found (Ok node) → found ≡ Some node.live
image_read (Some state) node is = ap Some (sym is.0)
image_read None node is = absurd is

pub image_thawed : (found : Option NodeState) (node : NodeContents) → ReadsImage found (Ok node) → node.frozen ≡ None
image_thawed (Some state) node is = is.1
image_thawed None node is = absurd is
