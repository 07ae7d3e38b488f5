use Rattle.std.proofs.Common.{◌≡◌, ◌+◌, drop}
use Rattle.tp_model.specs.Frames.{free_in}
use Rattle.tp_mem.specs.Copies.{AreCopies, copied_in}
use Rattle.tp_mem.proofs.copy_table.let_go.Given as goal

-- the pages so far have no copy, and each frame that is gone is free
abbrev pub invariant-loop-page : goal.invariant-loop-page
invariant-loop-page l =
    AreCopies l.pool l.copies × (free_in l.pool + copied_in l.copies ≡ free_in l.fn.pool + copied_in l.fn.copies)
    × (copied_in l.copies ≡ copied_in (drop l.page l.copies))
