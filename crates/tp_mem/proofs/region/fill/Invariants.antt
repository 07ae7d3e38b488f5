use Rattle.std.proofs.Common.{◌≡◌, ℕ, ◌+◌, ◌<◌, [], get_or}
use Rattle.tp_mem.proofs.Lower.{slots_items, slots_ptr, slots_len, slots_filled, Filled}
use Rattle.tp_mem.specs.FreeList.{next_in}
use Rattle.tp_mem.proofs.region.fill.Given as goal

-- the places so far are filled, and each leads to the next
abbrev pub invariant-loop-index : goal.invariant-loop-index
invariant-loop-index l =
    Filled (slots_filled l.slots) 0 l.index × ((i : ℕ) → i < l.index → next_in (get_or (slots_items l.slots) i []) ≡ i + 1)
    × (slots_ptr l.slots ≡ slots_ptr l.fn.slots) × (slots_len l.slots ≡ slots_len l.fn.slots)
