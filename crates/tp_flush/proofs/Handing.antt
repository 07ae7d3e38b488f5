-- What the host has handed in, compared with the flusher's journal.
use Rattle.std.proofs.Common.{◌≡◌, ℕ, zero, suc, ◌+◌, List, [], ◌∷◌, ◌++◌, length, take, drop, refl, sym, ap, ◌∙◌}
use Rattle.tp_flush.proofs.Lower.{drop-append_seam, Entry, NodeState, World, Told, Stage, IsTied, IsFirst, ToldSince, handed, handed-append, told_of}
use Rattle.tp_flush.specs.Settled.{HasFront}
use Rattle.tp_flush.proofs.Settling.{journal_join}

-- what is behind the first `n` of two lists
drop_front : (n : ℕ) (xs ys : List Entry) → HasFront (drop n (xs ++ ys)) (drop n xs)
drop_front zero xs ys = (ys, refl)
drop_front (suc n) [] ys = (drop (suc n) ys, refl)
drop_front (suc n) (x ∷ xs) ys = drop_front n xs ys

-- Of what the host handed in since the opening, the journal has a front.
pub handed_front : (before : World NodeState) (first : ℕ) (stage : Stage) (key : Told) (w : World NodeState) → IsFirst key w → ToldSince key (told_of before first stage) → IsTied first stage.all stage.book
    → length w.journal ≡ w.base + length w.net.entries → (given : List Entry) → handed stage.all ≡ given → HasFront given (handed (drop first w.journal))
handed_front before first stage key w F S T long given is =
    let J = journal_join before first stage key w F S T long in
    let D = drop_front first w.journal J.more in
    let all : stage.all ≡ drop first w.journal ++ D.0 = sym (drop-append_seam (take first before.journal) stage.all) ∙ ap (λ n. drop n (take first before.journal ++ stage.all)) (sym J.many) ∙ ap (drop first) J.both ∙ D.1 in
    (handed D.0, sym is ∙ ap handed all ∙ handed-append (drop first w.journal) D.0)
