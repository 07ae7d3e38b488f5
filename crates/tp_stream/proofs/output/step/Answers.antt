use Rattle.std.proofs.Common.{◌≡◌, sym, ap, subst, ◌∙◌, arith}
use Rattle.tp_book.specs.Host.{shown_upto_of}
use Rattle.tp_stream.specs.Steps.{PortsStand}
use Rattle.tp_stream.proofs.output.step.Goals as goal

pub put_shown-requires-clause-stands : goal.put_shown-requires-clause-stands
put_shown-requires-clause-stands g c k began =
    subst (PortsStand g.J.Naming.formatted c.args.flusher.now.world) (sym c.book.ensures) (c.requires.stands k began)

pub returns-in-Err-confirm_put-clause-room : goal.returns-in-Err-confirm_put-clause-room
returns-in-Err-confirm_put-clause-room g c room =
    let b = c.args.held.now.book in
    let mark = c.args.flusher.now.world.mark in
    let old = c.args.output.now in
    let now = c.put_shown.new.output in
    let port : now.port ≡ old.port = c.in-Ok.ensures.put.port in
    let shown : now.next ≡ shown_upto_of b now.port mark =
    c.in-Ok.ensures.shown ∙ ap (λ book. shown_upto_of book old.port mark) c.book.ensures ∙ ap (λ p. shown_upto_of b p mark) (sym port) in
    c.in-Err-confirm_put.ensures.room (omega (arith, shown)) room

pub returns-in-Err-confirm_put-clause-names : goal.returns-in-Err-confirm_put-clause-names
returns-in-Err-confirm_put-clause-names g c = c.in-Err-confirm_put.ensures.names c.args.output.now.port
