use Rattle.std.proofs.Common.{inr}
use Rattle.tp_words.specs.Refused.{IsImageFault}
use Rattle.tp_words.specs.declared.arg_fault.ArgFault.{ArgFault}
use Rattle.tp_words.proofs.StreamFaults.{on_told}
use Rattle.tp_words.proofs.trace_args.image_trace.Goals as goal

pub returns-in_err-inputs_of-clause-refused : goal.returns-in_err-inputs_of-clause-refused
returns-in_err-inputs_of-clause-refused c =
    on_told c.from_residual-in_err-inputs_of.result c.in_err-inputs_of.field-0.0 (λ (told : ArgFault). IsImageFault c.args.words.now told)
    c.from_residual-in_err-inputs_of.ensures.1 (inr c.in_err-inputs_of.ensures.refused)
