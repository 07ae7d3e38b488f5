use Rattle.std.proofs.Common.{◌≡◌, ◌+◌, ◌-◌, ℕ, List, take, drop, ap, ◌∙◌, arith}
use Rattle.tp_recover.proofs.Windows.{part_of_window}
use Rattle.tp_recover.proofs.reading.window.Window.bytes_at.Goals as goal

pub returns-clause-is : goal.returns-clause-is
returns-clause-is c = λ bytes is.
    let start : ℕ = c.args.at - c.args.self.now.from in
    let many : start + c.args.count - start ≡ c.args.count = omega arith in
    ap (λ (own : List ℕ). take (start + c.args.count - start) (drop start own)) c.deref.ensures.value
    ∙ ap (λ n. take n (drop start c.args.self.now.bytes.items)) many
    ∙ part_of_window c.args.self.now.from c.args.at c.args.count c.args.self.now.count c.args.self.now.bytes.items bytes is c.requires.has.from c.requires.has.to
