use Rattle.std.proofs.Common.{[], ◌∷◌, ◌++◌, ap, sym, ◌∙◌}
use Rattle.tp_shared.specs.Seals.{Stage}
use Rattle.tp_shared.proofs.book.locked.Locked.record_seen.Goals as goal

pub returns-clause-recorded : goal.returns-clause-recorded
returns-clause-recorded g c =
    let R = c.record-done.ensures in
    record {
      found = c.show.new.self.book;
      left = c.record-done.new.self.book;
      was = c.args.place.now.node;
      is = c.record-done.new.place.node;
      shown =
          c.show-2.ensures.seen
          ∙ ap (λ xs. xs ++ c.record-done.new.self.book ∷ [])
          (c.show.ensures.seen ∙ ap (λ xs. xs ++ c.args.self.now.book ∷ []) c.new-seen.ensures ∙ ap (λ (s : Stage). s.book ∷ []) (sym c.show.ensures.same));
      of = R.of;
      node = R.is;
      asked = R.asked;
      did = R.did;
    }
