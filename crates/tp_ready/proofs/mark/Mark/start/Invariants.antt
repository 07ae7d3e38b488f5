use Rattle.std.proofs.Common.{◌≡◌, vec_len, All}
use Rattle.tp_ready.specs.Seen.{PassValue, unrisen}
use Rattle.tp_ready.proofs.mark.Mark.start.Given as goal

-- the raiser stays as it is, and each pass so far has seen the first number
abbrev pub invariant-loop : goal.invariant-loop
invariant-loop l =
    let mark = l.mark-inside.word.shared.table_id in
    let pass : PassValue = record { mark = mark; at = l.fn.first; least = 0; rises = unrisen l.fn.first } in
    (l.raiser ≡ record { mark = mark; at = l.fn.first; rises = unrisen l.fn.first }) × (vec_len l.all ≡ l.counter) × All (λ p. p ≡ pass) l.all.items
