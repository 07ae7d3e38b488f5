use Rattle.std.proofs.Common.{All, subst, sym}
use Rattle.tp_words.proofs.Lower.{take_all, All-more, PortFile}
use Rattle.tp_words.proofs.Texts.{if_some}
use Rattle.tp_words.specs.TraceArgs.{IsLinkFault, IsOfLink}
use Rattle.tp_words.specs.declared.arg_fault.ArgFault.{ArgFault}
use Rattle.tp_words.proofs.trace_args.fault_of.Goals as goal

-- nothing is wrong with one file more
pub loop-file-preserved : goal.loop-file-preserved
loop-file-preserved c =
    let files = c.args.files.now in
    let file = c.file-item.result in
    All-more (λ (file : PortFile). IsOfLink files file.port) files c.loop-file.file-index file c.loop-file-test.true c.loop-file.invariant
    (subst (λ (file : PortFile). IsOfLink files file.port) c.file-item.is (c.fault_at.ensures.none c.in_default.is))

-- nor with all of them
pub returns-clause-none : goal.returns-clause-none
returns-clause-none c = λ none.
    let files = c.args.files.now in
    subst (All (λ (file : PortFile). IsOfLink files file.port)) (take_all c.loop-file.file-index files c.loop-file-test.false) c.loop-file.invariant

-- or this file has the fault
pub returns-in-Some-clause-some : goal.returns-in-Some-clause-some
returns-in-Some-clause-some c =
    let files = c.args.files.now in
    let file = c.file-item.result in (
      c.loop-file.file-index,
      file,
      c.loop-file-test.true,
      sym c.file-item.is,
      if_some (λ (fault : ArgFault). IsLinkFault files file.port fault) c.fault_at.result c.in-Some.fault c.fault_at.ensures.some c.in-Some.is,
    )
