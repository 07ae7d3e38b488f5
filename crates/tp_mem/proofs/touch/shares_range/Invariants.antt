use Rattle.std.proofs.Common.{◌≡◌, ℕ, ◌/◌, ◌<◌, ◌≤◌, false, get_or}
use Rattle.tp_model.specs.declared.limits.TheConstants.{PAGE_BYTES}
use Rattle.tp_mem.proofs.touch.shares_range.Given as goal

-- no page so far is shared
abbrev pub invariant-loop-page : goal.invariant-loop-page
invariant-loop-page l = (p : ℕ) → l.fn.range.0 / PAGE_BYTES ≤ p → p < l.page → get_or l.shared p false ≡ false
