use Rattle.tp_book.proofs.cuts.snapshots.Snapshots.journal.Goals as goal

pub collect-requires : goal.collect-requires
collect-requires c =
    let fits = rw (← c.self.view_is) at c.requires in
    fits.running c.in-Some.running c.in-Some.is
