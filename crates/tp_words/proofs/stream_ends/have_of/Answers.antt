use Rattle.std.proofs.Common.{◌≡◌, ◌<◌, ◌++◌, ◌∷◌, ℕ, List, Bor, inr, refl}
use Rattle.tp_words.proofs.Lower.{decimal_nonempty, decimal, MAX_PORTS}
use Rattle.tp_words.proofs.Texts.{if_some, rests}
use Rattle.tp_words.proofs.stream_ends.have_of.Goals as goal

pub returns-in_default-clause-refused : goal.returns-in_default-clause-refused
returns-in_default-clause-refused c =
    inr (refl, λ port number low fits. c.in_ok-pair.ensures.none c.in_default.is port (decimal number) low (decimal_nonempty number fits))

pub returns-in_default-2-clause-refused : goal.returns-in_default-2-clause-refused
returns-in_default-2-clause-refused c =
    let found = c.in_ok-pair.field-0 in
    let pair = c.in-Some.pair in
    let low = if_some (λ (pair : ℕ × Bor (List ℕ)). pair.0 < MAX_PORTS) found pair c.in_ok-pair.ensures.port c.in-Some.is in
    let spelt = if_some (λ (pair : ℕ × Bor (List ℕ)). c.args.text.now ≡ decimal pair.0 ++ 61 ∷ pair.1.now) found pair c.in_ok-pair.ensures.text c.in-Some.is in
    inr (
      refl,
      λ port number below fits same.
          c.in_ok-number.ensures.none c.in_default-2.is number fits
          (rests c.args.text.now pair.1.now (decimal number) pair.0 port low below spelt same),
    )
