use Rattle.std.proofs.Common.{◌++◌, ◌∷◌, [], ap, sym, ◌∙◌}
use Rattle.tp_shared.specs.Entries.{OpenedEntries}
use Rattle.tp_shared.specs.Seals.{Stage}
use Rattle.tp_shared.proofs.Seen.{gained_by, held_by}
use Rattle.tp_shared.proofs.book.locked.Locked.begin_seen.Goals as goal

pub returns-clause-opened : goal.returns-clause-opened
returns-clause-opened g c =
    let B = c.begin-done.ensures in
    let found = c.show.new.self in
    let left = c.begin-done.new.self in
    record {
      found = found.book;
      left = left.book;
      held =
          held_by (OpenedEntries g.J.Naming.start c.args.number c.begin-done.result) g.J.Naming.start g.J.Naming.first found left c.args.seen.now c.show.new.sights c.show-2.new.sights
          c.args.seat.now c.begin-done.new.seat B.of (c.show.ensures.seen ∙ ap (λ (s : Stage). c.args.seen.now ++ s.book ∷ []) (sym c.show.ensures.same)) c.show-2.ensures.seen
          c.known.ensures.tied c.known-2.ensures.tied B.noted;
      node = B.is;
      opens = B.opens;
    }

pub returns-clause-gained : goal.returns-clause-gained
returns-clause-gained g c =
    gained_by (OpenedEntries g.J.Naming.start c.args.number c.begin-done.result) g.J.Naming.first c.show.new.self c.begin-done.new.self c.args.seat.now c.begin-done.new.seat c.begin-done.ensures.noted
