use Rattle.std.proofs.Common.{List, inr, subst}
use Rattle.tp_stream_files.specs.declared.ends.PortFile.{PortFile}
use Rattle.tp_words.proofs.Texts.{if_some}
use Rattle.tp_words.specs.TraceArgs.{AreOfLinks, IsLinksFault}
use Rattle.tp_words.specs.declared.arg_fault.ArgFault.{ArgFault}
use Rattle.tp_words.proofs.trace_args.inputs_of.Goals as goal

pub returns-in-None-clause-links : goal.returns-in-None-clause-links
returns-in-None-clause-links c = subst AreOfLinks c.deref.ensures.value (c.fault_of.ensures.none c.in-None.is)

pub returns-in-Some-clause-refused : goal.returns-in-Some-clause-refused
returns-in-Some-clause-refused c =
    let fault = c.in-Some.fault in
    let told = if_some (λ (fault : ArgFault). IsLinksFault c.deref.result.now fault) c.fault_of.result fault c.fault_of.ensures.some c.in-Some.is in
    inr (inr (c.in_ok-files.files.items, c.in_ok-files.ensures.typed, subst (λ (files : List PortFile). IsLinksFault files fault) c.deref.ensures.value told))
