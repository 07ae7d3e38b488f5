use Rattle.std.proofs.Common.{◌≡◌, ◌%◌, ◌++◌, true, false, length, refl, ap, sym, ◌∙◌, rules, arith}
use Rattle.std.specs.Prelude.{Err}
use Rattle.tp_cpu.proofs.Lower.{is_inside, stored, Next, leaves, stopped, signal_writes, signalled, wait_writes, Cpu}
use Rattle.tp_cpu.proofs.Behind.{refused_after, halts_after, done_after, kept_done}
use Rattle.tp_cpu.proofs.channel.waits_for_alternative.Goals as goal

pub returns-in_err-write_signal-clause-does : goal.returns-in_err-write_signal-clause-does
returns-in_err-write_signal-clause-does g c =
    let memory = g.M.Mem.bytes c.args.mem.now in
    let cpu = c.args.cpu.now in
    let message = c.args.message in
    let is : c.from_residual.result ≡ Err c.in_err-write_signal.field-0.0 = search rules in
    let whole : length memory % 4 ≡ 0 = omega (arith, c.len-len.ensures.value, c.len-len.ensures.pages) in
    let inside : is_inside memory message.pointer message.count ≡ true = sym c.is_inside.ensures ∙ c.if-not-is_inside.false in
    rw is (refused_after c.args.first (signal_writes c.args.state c.args.partner cpu ++ wait_writes message.channel message.pointer cpu) message.pointer message.count
    (g.M.Mem.kept c.args.mem.now) memory (g.M.Mem.bytes c.write_signal.new.mem) cpu (stopped (signalled c.args.state c.args.partner cpu)) c.in_err-write_signal.field-0.0 whole inside c.in_err-write_signal.ensures.written)

pub returns-then-not-is_inside-clause-does : goal.returns-then-not-is_inside-clause-does
returns-then-not-is_inside-clause-does g c =
    let m = c.args.message in
    let cpu = c.args.cpu.now in
    let memory = g.M.Mem.bytes c.args.mem.now in
    let whole : length memory % 4 ≡ 0 = omega (arith, c.len-len.ensures.value, c.len-len.ensures.pages) in
    let outside : is_inside memory m.pointer m.count ≡ false = sym c.is_inside.ensures ∙ c.if-not-is_inside.true in
    let writes = signal_writes c.args.state c.args.partner cpu ++ wait_writes m.channel m.pointer cpu in
    (halts_after c.args.first m.pointer m.count memory (λ after. leaves (stored after writes) (stopped (signalled c.args.state c.args.partner cpu))) whole outside, refl, refl)

pub returns-clause-does : goal.returns-clause-does
returns-clause-does g c =
    let m = c.args.message in
    let cpu = c.args.cpu.now in
    let memory = g.M.Mem.bytes c.args.mem.now in
    let whole : length memory % 4 ≡ 0 = omega (arith, c.len-len.ensures.value, c.len-len.ensures.pages) in
    let inside : is_inside memory m.pointer m.count ≡ true = sym c.is_inside.ensures ∙ c.if-not-is_inside.false in
    let now = g.M.Mem.bytes c.write_signal.new.mem in
    let told = signalled c.args.state c.args.partner cpu in
    done_after c.args.first (signal_writes c.args.state c.args.partner cpu ++ wait_writes m.channel m.pointer cpu) m.pointer m.count memory now (stopped told) whole inside c.in_ok-write_signal.ensures.written
    ∙ ap (λ (after : Cpu). Next after now) (sym (c.end.ensures ∙ ap stopped c.signal.ensures))

pub returns-clause-kept : goal.returns-clause-kept
returns-clause-kept g c =
    let m = c.args.message in
    let cpu = c.args.cpu.now in
    c.in_ok-write_signal.ensures.kept
    ∙ kept_done c.args.first (signal_writes c.args.state c.args.partner cpu ++ wait_writes m.channel m.pointer cpu) (g.M.Mem.bytes c.args.mem.now) (g.M.Mem.bytes c.write_signal.new.mem) (g.M.Mem.kept c.args.mem.now) cpu c.in_ok-write_signal.ensures.written
