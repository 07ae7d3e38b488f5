use Rattle.std.proofs.Common.{◌≡◌, ◌≤◌, sym, ap, subst, ◌∙◌}
use Rattle.std.specs.Prelude.{IfOk}
use Rattle.tp_run.proofs.Lower.{plain_network, next_in_book, world_of, rest_in, Stage}
use Rattle.tp_run.proofs.Rested.{done_rests}
use Rattle.tp_run.proofs.resting.rest_after.Goals as goal

pub returns-clause-says : goal.returns-clause-says
returns-clause-says g c k began =
    let said = c.rest.ensures.rest ∙ ap (λ (s : Stage). rest_in (plain_network (world_of s.book).live)) c.settle_book.ensures.same.1 in
    done_rests g.J.Naming.formatted c.args.flusher.now.world c.args.held.now.book c.rest.result c.args.done.now (c.settle_book.ensures.ahead k began) c.requires.stored said
