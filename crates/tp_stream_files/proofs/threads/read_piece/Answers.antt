use Rattle.std.proofs.Common.{◌<◌, ◌≤◌, ◌∙◌, ap, length, ℕ, Result, Ok, Err, IfOk, arith}
use Rattle.std.proofs.lemmas.List.{with_items_is}
use Rattle.tp_stream_files.specs.Trace.{count_answered}
use Rattle.tp_stream_files.proofs.threads.read_piece.Goals as goal

answered : {E : Type 0} → (result : Result ℕ E) → (n : ℕ) → IfOk result (λ count. count ≤ n) → count_answered result ≤ n
answered (Ok count) n few = few
answered (Err e) n few = omega arith

there : {E : Type 0} → (result : Result ℕ E) → (n : ℕ) → 0 < n → IfOk result (λ count. 0 < n)
there (Ok count) n more = more
there (Err e) n more = tt

pub invariant_of-result-2-clause-few : goal.invariant_of-result-2-clause-few
invariant_of-result-2-clause-few g c =
    let whole = with_items_is c.in-Ok.bytes c.read_some-came.new.out (c.read_some-came.auto.out ∙ c.deref_mut.ensures.len) in
    let few = answered c.read_some-came.result _ c.read_some-came.ensures.few in
    omega (arith, few, ap length whole)

pub invariant_of-result-2-clause-fit : goal.invariant_of-result-2-clause-fit
invariant_of-result-2-clause-fit g c =
    let whole = with_items_is c.in-Ok.bytes c.read_some-came.new.out (c.read_some-came.auto.out ∙ c.deref_mut.ensures.len) in
    omega (arith, ap length whole, c.read_some-came.auto.out, c.deref_mut.ensures.len, c.in-Ok.ensures.len)

pub returns-clause-room : goal.returns-clause-room
returns-clause-room g c =
    let whole = with_items_is c.in-Ok.bytes c.read_some-came.new.out (c.read_some-came.auto.out ∙ c.deref_mut.ensures.len) in
    there c.read_some-came.result _ (omega (arith, ap length whole, c.read_some-came.auto.out, c.deref_mut.ensures.len, c.in-Ok.ensures.len))
