use Rattle.std.proofs.Common.{◌≡◌, ℕ, List, [], ◌∷◌, ◌++◌, ap, sym, ◌∙◌}
use Rattle.tp_cpu.proofs.Lower.{option_to_list, workspace, state_at, queue_writes, ready, wait_writes}
use Rattle.tp_cpu.proofs.Behind.{signal-enabling, signal-waiting, signal-other, waits, signals_and_waits, Writes-same}
use Rattle.tp_cpu.proofs.channel.write_signal.Goals as goal

pub returns-then-state-eq-ENABLING-clause-written : goal.returns-then-state-eq-ENABLING-clause-written
returns-then-state-eq-ENABLING-clause-written g c =
    let m = c.args.message in
    let cpu = c.args.cpu.now in
    let at : c.state_at.result ≡ state_at (workspace c.args.partner) = c.state_at.ensures ∙ ap state_at c.workspace.ensures in
    Writes-same c.args.first (g.M.Mem.kept c.args.mem.now) (g.M.Mem.bytes c.args.mem.now) (g.M.Mem.bytes c.store_after.new.mem) c.store_after.result _ _
    (signals_and_waits m.channel m.pointer c.state_at.result c.descriptor_of.result c.state_at-2.result c.saved_at.result c.args.state c.args.partner cpu [] at c.descriptor_of.ensures c.state_at-2.ensures c.saved_at.ensures (signal-enabling c.args.state c.args.partner cpu c.if-state-eq-ENABLING.true)) c.store_after.ensures.written

pub returns-in-None-clause-written : goal.returns-in-None-clause-written
returns-in-None-clause-written g c =
    let m = c.args.message in
    let cpu = c.args.cpu.now in
    let at : c.state_at.result ≡ state_at (workspace c.args.partner) = c.state_at.ensures ∙ ap state_at c.workspace.ensures in
    let queued : queue_writes c.args.partner cpu ≡ [] = sym c.queue_write.ensures ∙ ap option_to_list c.in-None.is in
    Writes-same c.args.first (g.M.Mem.kept c.args.mem.now) (g.M.Mem.bytes c.args.mem.now) (g.M.Mem.bytes c.store_after-in-None.new.mem) c.store_after-in-None.result _ _
    (signals_and_waits m.channel m.pointer c.state_at.result c.descriptor_of.result c.state_at-2.result c.saved_at.result c.args.state c.args.partner cpu [] at c.descriptor_of.ensures c.state_at-2.ensures c.saved_at.ensures (signal-waiting c.args.state c.args.partner cpu c.if-state-eq-WAITING.true ∙ ap (λ (ws : List (ℕ × ℕ)). (state_at (workspace c.args.partner), ready) ∷ ws) queued)) c.store_after-in-None.ensures.written

pub returns-in-Some-clause-written : goal.returns-in-Some-clause-written
returns-in-Some-clause-written g c =
    let m = c.args.message in
    let cpu = c.args.cpu.now in
    let at : c.state_at.result ≡ state_at (workspace c.args.partner) = c.state_at.ensures ∙ ap state_at c.workspace.ensures in
    let queued : queue_writes c.args.partner cpu ≡ c.in-Some.link ∷ [] = sym c.queue_write.ensures ∙ ap option_to_list c.in-Some.is in
    Writes-same c.args.first (g.M.Mem.kept c.args.mem.now) (g.M.Mem.bytes c.args.mem.now) (g.M.Mem.bytes c.store_after-in-Some.new.mem) c.store_after-in-Some.result _ _
    (signals_and_waits m.channel m.pointer c.state_at.result c.descriptor_of.result c.state_at-2.result c.saved_at.result c.args.state c.args.partner cpu (c.in-Some.link ∷ []) at c.descriptor_of.ensures c.state_at-2.ensures c.saved_at.ensures (signal-waiting c.args.state c.args.partner cpu c.if-state-eq-WAITING.true ∙ ap (λ (ws : List (ℕ × ℕ)). (state_at (workspace c.args.partner), ready) ∷ ws) queued)) c.store_after-in-Some.ensures.written

pub returns-clause-written : goal.returns-clause-written
returns-clause-written g c =
    let m = c.args.message in
    let cpu = c.args.cpu.now in
    let none = signal-other c.args.state c.args.partner cpu c.if-state-eq-ENABLING.false c.if-state-eq-WAITING.false in
    Writes-same c.args.first (g.M.Mem.kept c.args.mem.now) (g.M.Mem.bytes c.args.mem.now) (g.M.Mem.bytes c.store_after-2.new.mem) c.store_after-2.result _ _
    (waits m.channel m.pointer c.descriptor_of.result c.state_at-2.result c.saved_at.result cpu c.descriptor_of.ensures c.state_at-2.ensures c.saved_at.ensures
    ∙ ap (λ (ws : List (ℕ × ℕ)). ws ++ wait_writes m.channel m.pointer cpu) (sym none)) c.store_after-2.ensures.written
