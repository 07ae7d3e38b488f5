use Rattle.std.proofs.Common.{◌≡◌, ◌+◌, ◌≤◌, ◌∷◌, drop}
use Rattle.tp_model.specs.SharedPages.{word_ranges, wanted_from}
use Rattle.tp_mem.proofs.touch.wanted.Given as goal

abbrev pub invariant-loop-page : goal.invariant-loop-page
invariant-loop-page l =
    let ranges = l.first ∷ l.block ∷ word_ranges l.words in
    (l.count + wanted_from l.page (drop l.page l.shared) ranges ≡ wanted_from 0 l.shared ranges) × (l.count ≤ l.page)
