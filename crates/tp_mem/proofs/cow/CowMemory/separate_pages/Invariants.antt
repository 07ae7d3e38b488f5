use Rattle.std.proofs.Common.{◌≡◌, ◌∷◌}
use Rattle.tp_model.specs.SharedPages.{word_ranges}
use Rattle.tp_mem.proofs.Touches.{parted_to}
use Rattle.tp_mem.proofs.cow.CowMemory.separate_pages.Given as goal

-- the pages so far are parted where ranges have bytes in them
abbrev pub invariant-loop-page : goal.invariant-loop-page
invariant-loop-page l = l.self ≡ record l.fn.self { shared = parted_to 0 l.page l.fn.self.shared (l.first ∷ l.block ∷ word_ranges l.words) }
