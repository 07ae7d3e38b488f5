use Rattle.std.proofs.Common.{List, ℕ, Bor, inl, inr, map}
use Rattle.tp_words.specs.Refused.{IsRefusedAs}
use Rattle.tp_words.specs.declared.arg_fault.ArgFault.{ArgFault}
use Rattle.tp_words.specs.declared.words.Name.TheVariants as of
use Rattle.tp_words.proofs.StreamFaults.{on_told}
use Rattle.tp_words.proofs.view_args.asked_try.Goals as goal

pub returns-in_err-image_trace-in-None-clause-refused : goal.returns-in_err-image_trace-in-None-clause-refused
returns-in_err-image_trace-in-None-clause-refused c =
    on_told c.from_residual-in_err-image_trace-in-None.result c.in_err-image_trace-in-None.field-0.0
    (λ (told : ArgFault). IsRefusedAs of.Try c.args.words.now (map (λ (place : Bor (List ℕ)). place.now) c.args.places.now) told)
    c.from_residual-in_err-image_trace-in-None.ensures.1 (inr (inl c.in_err-image_trace-in-None.ensures.refused))
