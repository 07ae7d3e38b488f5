use Rattle.std.proofs.Common.{◌++◌, ◌∷◌, [], length, ap, sym, ◌∙◌}
use Rattle.tp_shared.specs.Entries.{TakesOf}
use Rattle.tp_shared.specs.Seals.{Stage}
use Rattle.tp_shared.proofs.Seen.{gained_by, held_by}
use Rattle.tp_shared.proofs.book.locked.Locked.host_turn_seen.Goals as goal

pub returns-clause-went : goal.returns-clause-went
returns-clause-went g c =
    let H = c.host_turn-done.ensures in
    let found = c.show.new.self in
    let left = c.host_turn-done.new.self in
    record {
      found = found.book;
      left = left.book;
      held =
          held_by (TakesOf g.J.Naming.start (length g.J.Naming.start.nodes) c.host_turn-done.result) g.J.Naming.start g.J.Naming.first found left
          c.args.seen.now c.show.new.sights c.show-2.new.sights c.args.seat.now c.host_turn-done.new.seat H.of
          (c.show.ensures.seen ∙ ap (λ (s : Stage). c.args.seen.now ++ s.book ∷ []) (sym c.show.ensures.same)) c.show-2.ensures.seen c.known.ensures.tied c.known-2.ensures.tied H.noted;
      did = H.did;
    }

pub returns-clause-gained : goal.returns-clause-gained
returns-clause-gained g c =
    gained_by (TakesOf g.J.Naming.start (length g.J.Naming.start.nodes) c.host_turn-done.result) g.J.Naming.first c.show.new.self c.host_turn-done.new.self
    c.args.seat.now c.host_turn-done.new.seat c.host_turn-done.ensures.noted
