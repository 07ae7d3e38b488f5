use Rattle.std.proofs.Common.{◌≡◌, ◌++◌, List, ◌∷◌, [], ap, sym, ◌∙◌}
use Rattle.tp_shared.proofs.Lower.{Entry, opened_entries}
use Rattle.tp_shared.specs.Seals.{Stage}
use Rattle.tp_shared.proofs.Seen.{gained_by, held_by}
use Rattle.tp_shared.proofs.book.locked.Locked.commit_seen.Goals as goal

pub returns-clause-committed : goal.returns-clause-committed
returns-clause-committed g c =
    let C = c.commit-ran.ensures in
    let found = c.show.new.self in
    let left = c.commit-ran.new.self in
    record {
      found = found.book;
      left = left.book;
      held =
          held_by (λ (entries : List Entry). entries ≡ opened_entries c.args.number c.args.opened c.args.stretch.ran.count) g.J.Naming.start g.J.Naming.first found left
          c.args.seen.now c.show.new.sights c.show-2.new.sights c.args.seat.now c.commit-ran.new.seat C.of
          (c.show.ensures.seen ∙ ap (λ (s : Stage). c.args.seen.now ++ s.book ∷ []) (sym c.show.ensures.same)) c.show-2.ensures.seen c.known.ensures.tied c.known-2.ensures.tied C.noted;
      added = C.added;
    }

pub returns-clause-gained : goal.returns-clause-gained
returns-clause-gained g c =
    gained_by (λ (entries : List Entry). entries ≡ opened_entries c.args.number c.args.opened c.args.stretch.ran.count) g.J.Naming.first c.show.new.self c.commit-ran.new.self
    c.args.seat.now c.commit-ran.new.seat c.commit-ran.ensures.noted
