-- All slips since the opening compared with the flusher's journal.
use Rattle.std.proofs.Common.{◌≡◌, ℕ, ◌+◌, ◌≤◌, List, [], ◌∷◌, ◌++◌, length, take, sym, ap, ◌∙◌, arith, length-append, append-nil}
use Rattle.std.specs.Prelude.{drop}
use Rattle.tp_flush.proofs.Lower.{drop-append_seam, Entry, NodeState, Network, World, item_of, shown, next_in_book, Told, Stage, IsTied, IsFirst, ToldSince, told_of}
use Rattle.tp_flush.specs.All.{AreAll}
use Rattle.tp_flush.specs.Known.{Reached}
use Rattle.tp_flush.proofs.Ahead.{book_ahead}
use Rattle.tp_flush.proofs.Settling.{journal_join, length-journal}

none_more : {X : Type 0} (front more : List X) → length (front ++ more) ≤ length front → front ++ more ≡ front
none_more front [] h = append-nil front
none_more front (x ∷ more) h = absurd (let l = length-append front (x ∷ more) in omega (arith, h, l))

-- the entries since the opening are those of the journal from the first on, if all of them are below the mark
pub slips_are_all : (start : Network NodeState) (before : World NodeState) (first : ℕ) (stage : Stage) (key : Told) (w : World NodeState) (slips : List (ℕ × Entry)) → Reached start w → IsFirst key w
    → ToldSince key (told_of before first stage) → IsTied first stage.all stage.book → next_in_book stage.book ≤ w.mark → ((n : ℕ) → shown n slips ≡ item_of first stage.all n)
    → AreAll first (next_in_book stage.book) w.journal slips
slips_are_all start before first stage key w slips R F S T stored each =
    let front = take first before.journal in
    let J = journal_join before first stage key w F S T (length-journal start w R) in
    let A = book_ahead start before first stage key w R F S in
    let both : front ++ stage.all ≡ w.journal ++ J.more = J.both in
    let lengths = ap length both in
    let left = length-append front stage.all in
    let next = T.next in
    let marked = A.marked in
    let many : length front ≡ first = sym J.many in
    let few : length (w.journal ++ J.more) ≤ length w.journal = omega (arith, lengths, left, many, next, stored, marked) in
    let none : w.journal ++ J.more ≡ w.journal = none_more w.journal J.more few in
    let is : w.journal ≡ front ++ stage.all = sym none ∙ sym both in
    record {
      count = ap length is ∙ left ∙ ap (λ n. n + length stage.all) many ∙ next;
      each = λ n. each n ∙ ap (λ es. item_of first es n) (sym (drop-append_seam front stage.all) ∙ ap (λ m. drop m (front ++ stage.all)) many ∙ ap (drop first) (sym is));
    }
