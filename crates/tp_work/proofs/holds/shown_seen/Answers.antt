use Rattle.std.proofs.Common.{[], ◌∷◌, ◌++◌, sym, ap, subst, ◌∙◌}
use Rattle.tp_shared.specs.Seals.{Stage}
use Rattle.tp_work.specs.Answers.{RefusesFor}
use Rattle.tp_work.specs.Outputs.{shown_fault}
use Rattle.tp_work.specs.Sessions.{ShowsJust}
use Rattle.tp_work.specs.declared.host_fault.ShownFault.TheVariants.{Memory}
use Rattle.tp_work.proofs.Sessions.{has_port, shows_just}
use Rattle.tp_work.proofs.holds.shown_seen.Goals as goal

pub returns : goal.returns
returns g c =
    let found = c.show.new.self in
    let K = c.known.ensures in
    let E = c.shown.ensures in
    let read = c.book.result.now in
    record {
      shown = record {
        found = found.book;
        seen = c.show.ensures.seen ∙ ap (λ (s : Stage). c.args.seen.now ++ s.book ∷ []) (sym c.show.ensures.same);
        has = has_port g.J.Naming.start c.args.port found.book K.nodes K.ports c.requires.there;
        exact = subst (λ b. RefusesFor Memory (shown_fault b c.args.port c.args.mark c.args.from) c.shown.result) c.book.ensures E.answer;
        shows =
            subst (λ b. ShowsJust b c.args.port c.args.mark c.args.from c.shown.result) c.book.ensures
            (shows_just read c.args.port c.args.mark c.args.from c.shown.result E.value E.exactly);
      };
    }
