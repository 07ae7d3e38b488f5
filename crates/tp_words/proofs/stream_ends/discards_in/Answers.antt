use Rattle.std.proofs.Common.{◌≡◌, ◌⊎◌, ℕ, List, Any, Bor, map}
use Rattle.tp_words.specs.Ends.{IsNoPort}
use Rattle.tp_words.specs.declared.stream_ends.EndsFault.{EndsFault}
use Rattle.tp_words.specs.declared.stream_ends.EndsFault.TheVariants.{Discard, Memory}
use Rattle.tp_words.proofs.Texts.{some_refused}
use Rattle.tp_words.proofs.StreamFaults.{on_told}
use Rattle.tp_words.proofs.stream_ends.discards_in.Goals as goal

pub returns-in_err-discard_of-clause-refused : goal.returns-in_err-discard_of-clause-refused
returns-in_err-discard_of-clause-refused c =
    let texts = c.args.texts.now in
    let fault = c.in_err-discard_of.field-0.0 in
    on_told c.from_residual.result fault (λ (fault : EndsFault). (fault ≡ Memory) ⊎ ((fault ≡ Discard) × Any IsNoPort (map (λ (text : Bor (List ℕ)). text.now) texts))) c.from_residual.ensures.1
    (some_refused Discard IsNoPort (λ (text : Bor (List ℕ)). text.now) texts c.loop-text.text-index _ fault c.loop-text-test.true c.in_err-discard_of.ensures.refused)
