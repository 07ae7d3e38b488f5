use Rattle.std.proofs.Common.{◌≡◌, ◌+◌, ◌++◌, ◌∷◌, [], sym, ◌∙◌, ap, take, drop, length, arith}
use Rattle.tp_stream_files.proofs.Lower.{eqb-true, length-take-le}
use Rattle.tp_stream_files.specs.Told.{Gave}
use Rattle.tp_stream_files.specs.Trace.{bytes_given, says_end, says_failed}
use Rattle.tp_stream_files.proofs.Traces.{behind_bytes, behind_length, end_before, end_now, says_failed_gave}
use Rattle.tp_stream_files.proofs.held.Held.take_bytes.Goals as goal
use Rattle.tp_stream_files.proofs.held.Held.take_bytes.Goals.{then-self, else-self}

pub invariant_of-self-clause-bytes : goal.invariant_of-self-clause-bytes
invariant_of-self-clause-bytes c =
    let held = c.args.self.now in
    let bytes = take c.args.count held.kept.value in
    let from_is : held.from ≡ length (bytes_given held.trace.told) = let place = held.place in let none = c.requires.none in omega (arith, place, none) in
    let gave = c.gave-self.ensures ∙ ap (λ kept. held.trace.told ++ Gave (take c.args.count kept) ∷ []) (c.as_slice-kept.ensures ∙ c.deref.ensures) in
    behind_bytes held.trace.told bytes held.from from_is ∙ ap (λ told. drop held.from (bytes_given told)) (sym gave)

pub invariant_of-self-clause-place : goal.invariant_of-self-clause-place
invariant_of-self-clause-place c =
    let held = c.args.self.now in
    let bytes = take c.args.count held.kept.value in
    let from_is : held.from ≡ length (bytes_given held.trace.told) = let place = held.place in let none = c.requires.none in omega (arith, place, none) in
    let long = length-take-le c.args.count held.kept.value c.requires.few in
    let all = behind_length held.trace.told bytes held.from from_is in
    let gave = c.gave-self.ensures ∙ ap (λ kept. held.trace.told ++ Gave (take c.args.count kept) ∷ []) (c.as_slice-kept.ensures ∙ c.deref.ensures) in
    sym (ap (λ n. held.from + n) long) ∙ all ∙ ap (λ told. length (bytes_given told)) (sym gave)

pub invariant_of-self-clause-failed : goal.invariant_of-self-clause-failed
invariant_of-self-clause-failed c said =
    let held = c.args.self.now in
    let gave = c.gave-self.ensures ∙ ap (λ kept. held.trace.told ++ Gave (take c.args.count kept) ∷ []) (c.as_slice-kept.ensures ∙ c.deref.ensures) in
    held.failed (sym (says_failed_gave held.trace.told (take c.args.count held.kept.value)) ∙ ap says_failed (sym gave) ∙ said)

pub invariant_of-self-clause-ended : goal.invariant_of-self-clause-ended
invariant_of-self-clause-ended c says =
    let held = c.args.self.now in
    let bytes = take c.args.count held.kept.value in
    let gave = c.gave-self.ensures ∙ ap (λ kept. held.trace.told ++ Gave (take c.args.count kept) ∷ []) (c.as_slice-kept.ensures ∙ c.deref.ensures) in
    elim c.if-self.branch [
      | then-self w ↦ ap says_end gave ∙ end_before held.trace.told bytes (held.ended w.if-self.true)
      | else-self w ↦ ap says_end gave ∙ end_now held.trace.told bytes (let none = eqb-true _ _ (sym w.self-is ∙ says) in ap (λ n. take n held.kept.value) none)
    ]
