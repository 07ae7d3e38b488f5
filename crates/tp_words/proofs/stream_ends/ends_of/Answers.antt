use Rattle.std.proofs.Common.{codes}
use Rattle.tp_words.specs.Ends.{IsNoFile, IsNoHave, IsNoPort, IsRefused}
use Rattle.tp_words.specs.declared.stream_ends.EndsFault.{EndsFault}
use Rattle.tp_words.specs.declared.stream_ends.EndsFault.TheVariants.{File, Have, Discard}
use Rattle.tp_words.specs.declared.stream_ends.FileOption.TheVariants.{In}
use Rattle.tp_words.proofs.OfEnds.{of_ends}
use Rattle.tp_words.proofs.Standard.{standard_is}
use Rattle.tp_words.specs.Given.{all_given}
use Rattle.tp_words.proofs.Refused.{told}
use Rattle.tp_words.proofs.StreamFaults.{on_told}
use Rattle.tp_words.proofs.stream_ends.ends_of.Goals as goal

pub returns-in_err-haves_of-clause-refused : goal.returns-in_err-haves_of-clause-refused
returns-in_err-haves_of-clause-refused c =
    let words = c.args.words.now in
    let fault = c.in_err-haves_of.field-0.0 in
    let outs = c.in_ok-files_of in
    on_told c.from_residual-in_err-haves_of.result fault (λ (fault : EndsFault). IsRefused words fault) c.from_residual-in_err-haves_of.ensures.1
    (told words IsNoHave Have _ fault c.in_err-haves_of.ensures.refused
    (λ any. ((outs.field-0.items, outs.ensures.files, outs.ensures.typed), any)))

pub returns-in_err-discards_of-clause-refused : goal.returns-in_err-discards_of-clause-refused
returns-in_err-discards_of-clause-refused c =
    let words = c.args.words.now in
    let fault = c.in_err-discards_of.field-0.0 in
    let outs = c.in_ok-files_of in
    let haves = c.in_ok-haves_of in
    on_told c.from_residual-in_err-discards_of.result fault (λ (fault : EndsFault). IsRefused words fault) c.from_residual-in_err-discards_of.ensures.1
    (told words IsNoPort Discard _ fault c.in_err-discards_of.ensures.refused
    (λ any. ((outs.field-0.items, outs.ensures.files, outs.ensures.typed), (haves.field-0.items, haves.ensures.haves, haves.ensures.typed), any)))

pub returns-in_err-files_of-2-clause-refused : goal.returns-in_err-files_of-2-clause-refused
returns-in_err-files_of-2-clause-refused c =
    let words = c.args.words.now in
    let fault = c.in_err-files_of-2.field-0.0 in
    let outs = c.in_ok-files_of in
    let haves = c.in_ok-haves_of in
    let ports = c.in_ok-discards_of in
    on_told c.from_residual-in_err-files_of-2.result fault (λ (fault : EndsFault). IsRefused words fault) c.from_residual-in_err-files_of-2.ensures.1
    (told words IsNoFile (File In) _ fault c.in_err-files_of-2.ensures.refused
    (λ any. (
      (outs.field-0.items, outs.ensures.files, outs.ensures.typed),
      (haves.field-0.items, haves.ensures.haves, haves.ensures.typed),
      (ports.field-0.items, ports.ensures.ports, ports.ensures.typed),
      any,
    )))

pub returns-in-Some-clause-refused : goal.returns-in-Some-clause-refused
returns-in-Some-clause-refused c =
    of_ends c.args.words.now
    (record { outs = c.in_ok-files_of.field-0; haves = c.in_ok-haves_of.field-0; discards = c.in_ok-discards_of.field-0; ins = c.in_ok-files_of-2.field-0 })
    c.in-Some.fault
    (record {
      outs = c.in_ok-files_of.ensures.typed;
      haves = c.in_ok-haves_of.ensures.typed;
      discards = c.in_ok-discards_of.ensures.typed;
      ins = c.in_ok-files_of-2.ensures.typed;
    }) c.in-Some.ensures.fault

pub returns-in-None-clause-standard : goal.returns-in-None-clause-standard
returns-in-None-clause-standard c =
    let words = c.args.words.now in
    let sound = c.fault_of.ensures.none c.in-None.is in
    record {
      output = standard_is c.in_ok-files_of.field-0.items (all_given (codes "out") words) c.in_ok-files_of.ensures.typed c.in_ok-files_of.ensures.files sound.one_out;
      input = standard_is c.in_ok-files_of-2.field-0.items (all_given (codes "in") words) c.in_ok-files_of-2.ensures.typed c.in_ok-files_of-2.ensures.files sound.one_in;
    }
