use Rattle.std.proofs.Common.{◌≡◌, [], ◌∷◌, ◌++◌, map, sym, ap, ◌∙◌}
use Rattle.tp_work.proofs.Lower.{HostIn, after_inputs, input_receipt, Stage}
use Rattle.tp_work.proofs.Sessions.{did_just, has_port, seen_twice}
use Rattle.tp_work.proofs.holds.offer_seen.Goals as goal

pub returns-clause-offered : goal.returns-clause-offered
returns-clause-offered g c =
    let E = c.offer-done.ensures in
    let found = c.show.new.self in
    let left = c.offer-done.new.held in
    let K = c.known.ensures in
    record {
      found = found.book;
      left = left.book;
      seen =
          seen_twice c.args.seen.now c.show.new.sights c.show-2.new.sights found.book left.book
          (c.show.ensures.seen ∙ ap (λ (s : Stage). c.args.seen.now ++ s.book ∷ []) (sym c.show.ensures.same)) c.show-2.ensures.seen;
      has = has_port g.J.Naming.start c.args.port found.book K.nodes K.ports c.requires.there;
      exact = E.answer;
      nothing = E.nothing;
      did =
          did_just (c.offer-done.new.host ≡ c.args.host.now) c.offer-done.result g.J.Naming.first found left (after_inputs found.book c.args.port c.args.bytes.now) (input_receipt found.book c.args.port c.args.bytes.now) (map (HostIn c.args.port) c.args.bytes.now)
          c.args.seat.now c.offer-done.new.seat E.book E.given E.number E.noted E.err K.tied;
    }
