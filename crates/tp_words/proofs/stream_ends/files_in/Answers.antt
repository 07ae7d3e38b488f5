use Rattle.std.proofs.Common.{◌≡◌, ◌⊎◌, ℕ, List, All, Any, Bor, map, subst, sym}
use Rattle.tp_words.proofs.Lower.{All-push, PortFile}
use Rattle.tp_words.specs.Ends.{IsFile, IsNoFile, file_text}
use Rattle.tp_words.specs.declared.stream_ends.EndsFault.{EndsFault}
use Rattle.tp_words.specs.declared.stream_ends.EndsFault.TheVariants.{File, Memory}
use Rattle.tp_words.proofs.Texts.{one_more, some_refused}
use Rattle.tp_words.proofs.StreamFaults.{on_told}
use Rattle.tp_words.proofs.stream_ends.files_in.Goals as goal

pub returns-in_err-file_of-clause-refused : goal.returns-in_err-file_of-clause-refused
returns-in_err-file_of-clause-refused c =
    let texts = c.args.texts.now in
    let fault = c.in_err-file_of.field-0.0 in
    on_told c.from_residual.result fault (λ (fault : EndsFault). (fault ≡ Memory) ⊎ ((fault ≡ (File c.args.option)) × Any IsNoFile (map (λ (text : Bor (List ℕ)). text.now) texts))) c.from_residual.ensures.1
    (some_refused (File c.args.option) IsNoFile (λ (text : Bor (List ℕ)). text.now) texts c.loop-text.text-index _ fault c.loop-text-test.true c.in_err-file_of.ensures.refused)

pub loop-text-preserved : goal.loop-text-preserved
loop-text-preserved c =
    let file = c.in_ok-file_of.field-0 in
    let was = c.loop-text.files.items in
    let grown = c.in_ok-push.ensures.items in
    record {
      each = subst (λ (items : List PortFile). All IsFile items) (sym grown) (All-push IsFile was file c.loop-text.invariant.each c.in_ok-file_of.ensures.file);
      typed =
          one_more file_text (λ (text : Bor (List ℕ)). text.now) was _ file c.args.texts.now c.loop-text.text-index _ c.loop-text-test.true c.loop-text.invariant.typed
          grown c.in_ok-file_of.ensures.typed;
    }
