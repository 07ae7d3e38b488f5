-- The book's entries compared with the flusher's journal, and the network to which they lead.
use Rattle.std.proofs.Common.{◌≡◌, ℕ, ◌++◌, length, sym, ap, subst, ◌∙◌, Some}
use Rattle.tp_flush.proofs.Lower.{NodeState, t414, t414_ends, Network, plain_network, after, device_areas, World, has_four_links, never_marks, areas_keep, journal_leads, mark_there, world_of, Told, Stage, IsFirst, ToldSince, told_of, told_journal}
use Rattle.tp_flush.specs.Ahead.{IsAheadOf}
use Rattle.tp_flush.specs.Known.{Reached}
use Rattle.tp_flush.proofs.Kept.{reached_then}
use Rattle.tp_flush.proofs.Looks.{learned, learns}
use Rattle.tp_flush.proofs.Settling.{length-journal, reached_holds}

-- a book to which acts led since it was told
pub book_ahead : (start : Network NodeState) (before : World NodeState) (first : ℕ) (stage : Stage) (key : Told) (w : World NodeState) → Reached start w → IsFirst key w
    → ToldSince key (told_of before first stage) → IsAheadOf start w stage.book
book_ahead start before first stage key w R F S =
    let now = told_of before first stage in
    let v = learned w now in
    let there : Reached start v = reached_then start w v R (learns w key now F S) in
    let J = told_journal before first key stage S in
    let both : now.journal ≡ w.journal ++ J.0 = J.2 ∙ ap (λ es. es ++ J.0) F.journal in
    record {
      more = J.0;
      leads =
          subst (λ es. after t414 start es ≡ Some (plain_network (world_of stage.book).live)) both
          (journal_leads t414 has_four_links never_marks device_areas (areas_keep t414 t414_ends) start there.events there.first v there.formatted there.run);
      many = ap length (sym both) ∙ length-journal start v there;
      marked = mark_there t414 has_four_links never_marks device_areas (areas_keep t414 t414_ends) start R.formatted.opened w (reached_holds start w R);
    }
