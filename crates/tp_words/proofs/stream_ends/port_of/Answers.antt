use Rattle.std.proofs.Common.{◌≡◌, ℕ}
use Rattle.std.specs.Fmt.{decimal}
use Rattle.tp_words.proofs.Texts.{if_some, port_spelt}
use Rattle.tp_words.proofs.stream_ends.port_of.Goals as goal

pub returns-clause-some : goal.returns-clause-some
returns-clause-some c =
    let spelt = if_some (λ (number : ℕ). c.args.text.now ≡ decimal number) c.in_ok-number.field-0 c.in-Some.number c.in_ok-number.ensures.some c.in-Some.is in
    (port_spelt c.args.text.now c.in-Some.number c.port_at.result spelt c.port_at.ensures.number c.port_at.ensures.port).0

pub returns-clause-none : goal.returns-clause-none
returns-clause-none c =
    let spelt = if_some (λ (number : ℕ). c.args.text.now ≡ decimal number) c.in_ok-number.field-0 c.in-Some.number c.in_ok-number.ensures.some c.in-Some.is in
    (port_spelt c.args.text.now c.in-Some.number c.port_at.result spelt c.port_at.ensures.number c.port_at.ensures.port).1
