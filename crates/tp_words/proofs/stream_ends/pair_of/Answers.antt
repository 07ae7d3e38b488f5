use Rattle.std.proofs.Common.{◌≡◌, ℕ, List, Bor, length, ap, arith}
use Rattle.std.specs.Fmt.{decimal}
use Rattle.tp_words.proofs.Texts.{splits_there, there, there_at}
use Rattle.tp_words.proofs.stream_ends.pair_of.Goals as goal

pub returns-in_default-clause-none : goal.returns-in_default-clause-none
returns-in_default-clause-none c = λ none port path low long spelt.
    there (λ (x : Bor (List ℕ) × Bor (List ℕ)). (x.0.now ≡ decimal port) × (x.1.now ≡ path)) c.split_once.result
    (splits_there c.args.text.now path port c.split_once.result c.split_once.ensures.cases low spelt) c.in_default.is

pub returns-then-is_empty-clause-none : goal.returns-then-is_empty-clause-none
returns-then-is_empty-clause-none c = λ none port path low long spelt.
    let parts = there_at (λ (x : Bor (List ℕ) × Bor (List ℕ)). (x.0.now ≡ decimal port) × (x.1.now ≡ path)) c.split_once.result c.in-Some.parts
    (splits_there c.args.text.now path port c.split_once.result c.split_once.ensures.cases low spelt) c.in-Some.is in
    let size = ap length parts.1 in
    let test = c.is_empty.ensures in
    let holds = c.if-is_empty.true in
    absurd (grind (arith, long, size, test, holds))

pub returns-in_default-2-clause-none : goal.returns-in_default-2-clause-none
returns-in_default-2-clause-none c = λ none port path low long spelt.
    let parts = there_at (λ (x : Bor (List ℕ) × Bor (List ℕ)). (x.0.now ≡ decimal port) × (x.1.now ≡ path)) c.split_once.result c.in-Some.parts
    (splits_there c.args.text.now path port c.split_once.result c.split_once.ensures.cases low spelt) c.in-Some.is in
    c.in_ok-port.ensures.none c.in_default-2.is port low parts.0
