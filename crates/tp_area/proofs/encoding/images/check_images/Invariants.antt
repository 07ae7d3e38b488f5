use Rattle.std.proofs.Common.{◌≡◌, drop, map}
use Rattle.std.specs.Prelude.{is_some}
use Rattle.tp_model.specs.Format.{fresh_nodes}
use Rattle.tp_area.proofs.encoding.images.check_images.Given as goal

-- what is left decides
abbrev pub invariant-loop-i : goal.invariant-loop-i
invariant-loop-i l =
    is_some (fresh_nodes (drop l.i l.pages) (drop l.i (map (λ image. image.items) l.images))) ≡ is_some (fresh_nodes l.pages (map (λ image. image.items) l.images))
