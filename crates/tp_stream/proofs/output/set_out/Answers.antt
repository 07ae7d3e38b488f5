use Rattle.std.proofs.Common.{◌≡◌, refl, ap, subst, ◌∙◌}
use Rattle.tp_stream.proofs.Lower.{unwrap_or, Reaches, given_of, reaches_less}
use Rattle.tp_stream.specs.Standing.{IsReadUpTo, from_of}
use Rattle.tp_stream.proofs.output.set_out.Goals as goal

pub returns-then-from-confirmed-clause-refused : goal.returns-then-from-confirmed-clause-refused
returns-then-from-confirmed-clause-refused g c =
    (c.port-port.ensures, c.unwrap_or-from.ensures ∙ ap (λ have. unwrap_or have c.args.stand.confirmed) c.have.ensures, refl, c.if-from-confirmed.true)

pub returns-then-shown-from-clause-refused : goal.returns-then-shown-from-clause-refused
returns-then-shown-from-clause-refused g c =
    (c.port-port.ensures, c.unwrap_or-from.ensures ∙ ap (λ have. unwrap_or have c.args.stand.confirmed) c.have.ensures, refl, c.if-from-confirmed.false, c.if-shown-from.true)

pub returns-then-has-from-clause-refused : goal.returns-then-has-from-clause-refused
returns-then-has-from-clause-refused g c = (
  c.port-port.ensures,
  c.unwrap_or-from.ensures ∙ ap (λ have. unwrap_or have c.args.stand.confirmed) c.have.ensures,
  record { confirmed = c.if-from-confirmed.false; shown = c.if-shown-from.false },
  c.reach-has.ensures.exactly,
  c.if-has-from.true,
)

pub returns-in-Some-clause-refused : goal.returns-in-Some-clause-refused
returns-in-Some-clause-refused g c =
    let from : c.unwrap_or-from.result ≡ from_of c.args.stand (given_of c.args.output.now) = c.unwrap_or-from.ensures ∙ ap (λ have. unwrap_or have c.args.stand.confirmed) c.have.ensures in
    let reader : IsReadUpTo c.args.stand c.unwrap_or-from.result = record { confirmed = c.if-from-confirmed.false; shown = c.if-shown-from.false } in
    let front = reaches_less c.unwrap_or-from.result c.reach-has.result c.args.output.now.held c.if-has-from.false c.reach-has.ensures.there in
    let long = c.in-Some.ensures.some in
    (c.port-port.ensures, refl, subst (IsReadUpTo c.args.stand) from reader, subst (λ n. Reaches n c.args.output.now.held) from front, long.0, long.1)

pub returns-clause-begun : goal.returns-clause-begun
returns-clause-begun g c =
    let from : c.unwrap_or-from.result ≡ from_of c.args.stand (given_of c.args.output.now) = c.unwrap_or-from.ensures ∙ ap (λ have. unwrap_or have c.args.stand.confirmed) c.have.ensures in
    let reader : IsReadUpTo c.args.stand c.unwrap_or-from.result = record { confirmed = c.if-from-confirmed.false; shown = c.if-shown-from.false } in
    let front = reaches_less c.unwrap_or-from.result c.reach-has.result c.args.output.now.held c.if-has-from.false c.reach-has.ensures.there in
    record {
      reader = subst (IsReadUpTo c.args.stand) from reader;
      front = subst (λ n. Reaches n c.args.output.now.held) from front;
      behind = c.in_default.ensures.none;
    }
