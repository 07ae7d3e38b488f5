use Rattle.std.proofs.Common.{◌≡◌, [], ◌∷◌, ◌++◌, sym, ap, ◌∙◌}
use Rattle.tp_work.proofs.Lower.{confirm_entries, after_confirm, confirm_receipt, Stage}
use Rattle.tp_work.proofs.Sessions.{did_just, handed_confirmed, has_port, seen_twice}
use Rattle.tp_work.proofs.holds.confirm_seen.Goals as goal

pub returns-clause-confirmed : goal.returns-clause-confirmed
returns-clause-confirmed g c =
    let E = c.confirm-done.ensures in
    let found = c.show.new.self in
    let left = c.confirm-done.new.held in
    let K = c.known.ensures in
    record {
      found = found.book;
      left = left.book;
      seen =
          seen_twice c.args.seen.now c.show.new.sights c.show-2.new.sights found.book left.book
          (c.show.ensures.seen ∙ ap (λ (s : Stage). c.args.seen.now ++ s.book ∷ []) (sym c.show.ensures.same)) c.show-2.ensures.seen;
      has = has_port g.J.Naming.start c.args.port found.book K.nodes K.ports c.requires.there;
      exact = E.answer;
      nothing = E.nothing;
      did =
          did_just (c.confirm-done.new.host ≡ c.args.host.now) c.confirm-done.result g.J.Naming.first found left (after_confirm found.book c.args.port c.args.upto) (confirm_receipt found.book c.args.port c.args.upto) (confirm_entries found.book c.args.port c.args.upto)
          c.args.seat.now c.confirm-done.new.seat E.book E.given E.number E.noted E.err K.tied;
    }

pub returns-clause-handed : goal.returns-clause-handed
returns-clause-handed g c = handed_confirmed c.confirm-done.result c.show.new.self.book c.args.port c.args.upto c.args.host.now c.confirm-done.new.host c.confirm-done.ensures.handed
