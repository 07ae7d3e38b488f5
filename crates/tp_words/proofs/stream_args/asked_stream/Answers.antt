use Rattle.std.proofs.Common.{inl, inr, refl}
use Rattle.tp_words.proofs.stream_args.asked_stream.Goals as goal

pub returns-in-None-clause-refused : goal.returns-in-None-clause-refused
returns-in-None-clause-refused c = inr (refl, inl (c.only.ensures.none c.in-None.is))
