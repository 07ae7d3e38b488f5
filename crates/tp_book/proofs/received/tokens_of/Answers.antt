use Rattle.std.proofs.Common.{◌+◌, ◌<◌, ◌++◌, length, map, drop, get_or, sym, ap, ◌∙◌, arith, append_assoc}
use Rattle.tp_book.proofs.Lower.{Token, Nothing, by_link, received, CarriesByte, all_append}
use Rattle.tp_book.proofs.InFront.{links_from, received_few}
use Rattle.tp_book.proofs.received.tokens_of.Goals as goal

pub loop-link-preserved : goal.loop-link-preserved
loop-link-preserved c =
    let takes = c.args.takes.now in
    let k = c.loop-link.link in
    let below : k < length takes = omega (arith, c.told-takes, c.loop-link-test.true) in
    let one = get_or takes k Nothing in
    let mine = map (λ (token : Token). (k, token)) (received one) in
    let grown = c.add_received.ensures.tokens in
    record {
      tokens =
          ap (λ ms. ms ++ by_link (k + 1) (drop (k + 1) takes)) grown ∙ append_assoc c.loop-link.tokens.items mine (by_link (k + 1) (drop (k + 1) takes))
          ∙ ap (λ ms. c.loop-link.tokens.items ++ ms) (sym (links_from takes k below)) ∙ c.loop-link.invariant.tokens;
      few = received_few c.loop-link.tokens.items k one c.add_received.new.tokens.items grown c.loop-link.invariant.few;
      bytes = rw grown (all_append (λ m. CarriesByte m.1) c.loop-link.tokens.items mine c.loop-link.invariant.bytes c.add_received.ensures.bytes);
    }
