use Rattle.std.proofs.Common.{◌≡◌, sym, ap, subst}
use Rattle.tp_stream_files.specs.Outputs.{IsOfPort, OutputValue}
use Rattle.tp_stream.specs.Shown.{AreShownAt}
use Rattle.tp_stream.proofs.output.put_upto.Goals as goal

-- they are of the port whose output the sink holds
pub put_safe-requires-clause-shown : goal.put_safe-requires-clause-shown
put_safe-requires-clause-shown g c =
    let old = c.args.output.now in
    let port : old.port ≡ c.output.inside.port = ap (λ (o : OutputValue). o.port) (sym c.output.view_is) in
    let next : old.next ≡ c.output.inside.next = ap (λ (o : OutputValue). o.next) (sym c.output.view_is) in
    record {
      port = old.port;
      is = subst (λ p. IsOfPort p (g.S.Sink.port c.output.inside.sink)) (sym port) c.output.invariant.2;
      shown = subst (λ n. AreShownAt g.J.Naming.formatted g.J.Naming.before c.args.flusher.now old.port n c.args.bytes.now) next c.requires.shown;
    }
