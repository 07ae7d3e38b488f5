use Rattle.std.proofs.Common.{◌≡◌, ℕ, ◌^◌, ◌<◌, true, subst, rules}
use Rattle.tp_cpu.proofs.Lower.{fun_of, past, Cpu}
use Rattle.tp_cpu.specs.Advance.{WasDone, runs, effect_at, ranges_at}
use Rattle.tp_cpu.proofs.Waits.{leads_spelt_at}
use Rattle.tp_cpu.proofs.waiting.wait.Goals as goal

pub returns-then-wait_by : goal.returns-then-wait_by
returns-then-wait_by g c =
    let bytes = g.M.Mem.bytes in
    let kept = g.M.Mem.kept in
    let s = c.in-Some.spelling in
    let o = fun_of s.code in
    let cpu = c.args.cpu.now in
    let was = bytes c.args.mem.now in
    let word : s.operand < 2 ^ 32 = search rules in
    let going : runs cpu ≡ true = search rules in
    let did = subst (λ (p : Cpu). WasDone (effect_at o s.operand) (ranges_at o s.operand) (kept c.args.mem.now) p was c.wait_by.result c.wait_by.new.cpu (bytes c.wait_by.new.mem) (kept c.wait_by.new.mem)) c.pass.ensures c.wait_by.ensures in
    let past_it = subst (λ (n : ℕ). WasDone (effect_at o s.operand) (ranges_at o s.operand) (kept c.args.mem.now) (past n cpu) was c.wait_by.result c.wait_by.new.cpu (bytes c.wait_by.new.mem) (kept c.wait_by.new.mem)) c.in-Some.ensures.next did in
    leads_spelt_at o s.operand s.len cpu was (kept c.args.mem.now) c.wait_by.result c.wait_by.new.cpu (bytes c.wait_by.new.mem) (kept c.wait_by.new.mem) word c.in-Some.ensures.spelt past_it c.if-wait_by.true going
