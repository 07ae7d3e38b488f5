use Rattle.std.proofs.Common.{◌-◌, ap, arith, take, drop}
use Rattle.tp_stream_files.proofs.Traces.{copied}
use Rattle.tp_stream_files.proofs.held.Held.copy.Goals as goal

pub returns-then-place-self-clause-bytes : goal.returns-then-place-self-clause-bytes
returns-then-place-self-clause-bytes c =
    let held = c.args.self.now in
    let m = c.min-count.ensures in
    copied held.kept.value _ _ _ _ held.from held.count c.args.at c.min-count.result held.bytes c.if-at-self.false
    (let within = c.if-place-self.true in omega arith)
    (ap (λ kept. take (held.count - (c.args.at - held.from)) (drop (c.args.at - held.from) kept)) c.deref.ensures)
    (omega (arith, m)) c.copy_from_slice.ensures.after
