use Rattle.std.proofs.Common.{◌≡◌, None, replicate, vec_len, vec_capacity}
use Rattle.tp_mem.proofs.copy_table.no_copies.Given as goal

abbrev pub invariant-loop-page : goal.invariant-loop-page
invariant-loop-page l = (l.copies.items ≡ replicate l.page None) × (vec_len l.copies ≡ l.page) × (vec_capacity l.copies ≡ l.pages)
