use Rattle.std.proofs.Common.{◌≡◌, ◌≤◌, sym, ap, subst, ◌∙◌, arith}
use Rattle.tp_stream.proofs.Lower.{port_in, shown_from, WasPutSafely}
use Rattle.tp_stream.specs.Put.{LeadsToBytes}
use Rattle.tp_stream.proofs.Puts.{puts_grew, shown_at}
use Rattle.tp_stream.proofs.output.put_shown.Goals as goal

pub put_upto-requires-clause-shown : goal.put_upto-requires-clause-shown
put_upto-requires-clause-shown g c k began =
    let b = c.args.book.now in
    let old = c.args.output.now in
    let f = c.args.flusher.now in
    let port = c.port-port.ensures in
    let from = c.put-from.ensures in
    let base : c.out_base.result ≡ (port_in b old.port).out_base = c.out_base.ensures ∙ ap (λ p. (port_in b p).out_base) port in
    let low : (port_in b old.port).out_base ≤ old.next = let test = c.if-from-out_base.false in omega (arith, base, test, from) in
    let shown : c.shown-bytes.result.now ≡ shown_from b old.port f.world.mark old.next =
    c.shown-bytes.ensures.value ∙ ap (λ p. shown_from b p c.mark-mark.result c.put-from.result) port
    ∙ ap (λ m. shown_from b old.port m c.put-from.result) c.mark-mark.ensures ∙ ap (shown_from b old.port f.world.mark) from in
    subst (LeadsToBytes g.J.Naming.formatted f.world.journal f.world.mark old.port old.next) (sym shown)
    (shown_at g.J.Naming.formatted f.world b old.port old.next (c.requires.stands k began) low)

pub returns-in-Ok-clause-puts : goal.returns-in-Ok-clause-puts
returns-in-Ok-clause-puts g c =
    let b = c.args.book.now in
    let old = c.args.output.now in
    let new = c.put_upto.new.output in
    let mark = c.args.flusher.now.world.mark in
    let port = c.port-port.ensures in
    let from = c.put-from.ensures in
    let base : c.out_base.result ≡ (port_in b old.port).out_base = c.out_base.ensures ∙ ap (λ p. (port_in b p).out_base) port in
    let low : (port_in b old.port).out_base ≤ old.next = let test = c.if-from-out_base.false in omega (arith, base, test, from) in
    let shown : c.shown-bytes.result.now ≡ shown_from b old.port mark old.next =
    c.shown-bytes.ensures.value ∙ ap (λ p. shown_from b p c.mark-mark.result c.put-from.result) port
    ∙ ap (λ m. shown_from b old.port m c.put-from.result) c.mark-mark.ensures ∙ ap (shown_from b old.port mark) from in
    puts_grew b mark old new low (subst (λ xs. WasPutSafely xs old new) shown c.in-Ok.ensures.put)
