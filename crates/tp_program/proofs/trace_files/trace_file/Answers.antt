use Rattle.std.proofs.Common.{inl, inr}
use Rattle.tp_program.proofs.trace_files.trace_file.Goals as goal

pub returns-in-Ok-clause-used : goal.returns-in-Ok-clause-used
returns-in-Ok-clause-used g c = elim c.trace_texts.ensures.traced [
  | inl refused ↦ inl refused
  | inr traced ↦ inr (record { image = _; text = _; in_0 = _; in_1 = _; in_2 = _; in_3 = _; read = c.in-Ok.ensures.read; traced = traced })
]
