use Rattle.std.proofs.Common.{◌≡◌, ◌≤◌, ℕ, arith, subst, sym, ◌∙◌, inl, inr}
use Rattle.std.proofs.lemmas.Bool.{cases_lt}
use Rattle.tp_words.specs.Ends.{input_count, places}
use Rattle.tp_words.proofs.Faults.{nothing_at}
use Rattle.tp_words.proofs.stream_ends.named_twice.Goals as goal

pub loop-port-preserved : goal.loop-port-preserved
loop-port-preserved c = λ port below. elim (cases_lt port c.loop-port.port) [
  | inl low ↦ c.loop-port.invariant port low
  | inr high ↦
      let same : c.loop-port.port ≡ port = omega arith in
      subst (λ (p : ℕ). (places c.args.ends.now p ≤ 1) × (input_count c.args.ends.now p ≤ 1)) same
      (nothing_at c.args.ends.now c.loop-port.port (sym c.fault_at.ensures ∙ c.in_default.is))
]

pub returns : goal.returns
returns c = λ port below. c.loop-port.invariant port (omega (arith, c.loop-port-test.false))
