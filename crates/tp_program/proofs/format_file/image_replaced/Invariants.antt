use Rattle.std.proofs.Common.{◌≡◌, ℕ, Bor, List, take}
use Rattle.std.specs.Prelude.{All, string_bytes}
use Rattle.tp_program.specs.Uses.{image_of}
use Rattle.tp_program.proofs.format_file.image_replaced.Given as goal

-- No image so far is at the device's path.
abbrev pub invariant-loop-node : goal.invariant-loop-node
invariant-loop-node g l = All (λ (name : Bor (List ℕ)). string_bytes l.new.device ≡ image_of (string_bytes l.new.images) name.now → ⊥) (take l.node-index l.names)
