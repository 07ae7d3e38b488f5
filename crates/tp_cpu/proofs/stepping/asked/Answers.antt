use Rattle.std.proofs.Common.{◌≡◌, ◌^◌, ◌<◌, true, Some, rules}
use Rattle.tp_cpu.proofs.Lower.{channel_at, op_of, In, Out, Input, Output}
use Rattle.tp_cpu.specs.Advance.{runs}
use Rattle.tp_cpu.proofs.Asks.{asks_in, asks_out}
use Rattle.tp_cpu.proofs.stepping.asked.Goals as goal

pub returns-in-Input-Some-In : goal.returns-in-Input-Some-In
returns-in-Input-Some-In g c =
    let was = g.M.Mem.bytes c.args.mem.now in
    let cpu = c.args.cpu.now in
    let s = c.in_ok-spelling.spelling in
    let word : s.operand < 2 ^ 32 = search rules in
    let going : runs cpu ≡ true = search rules in
    let opr : s.code ≡ 15 = search rules in
    let known : op_of s.operand ≡ Some In = search rules in
    let at : channel_at cpu.regs.b ≡ Input c.in-Input-Some-In.link = search rules in
    asks_in c.in-Input-Some-In.link s.code s.operand s.len s.next cpu was word opr known c.in_ok-spelling.ensures.spelt going c.in_ok-spelling.ensures.next at

pub returns-in-Output-Some-Out : goal.returns-in-Output-Some-Out
returns-in-Output-Some-Out g c =
    let was = g.M.Mem.bytes c.args.mem.now in
    let cpu = c.args.cpu.now in
    let s = c.in_ok-spelling.spelling in
    let word : s.operand < 2 ^ 32 = search rules in
    let going : runs cpu ≡ true = search rules in
    let opr : s.code ≡ 15 = search rules in
    let known : op_of s.operand ≡ Some Out = search rules in
    let at : channel_at cpu.regs.b ≡ Output c.in-Output-Some-Out.link = search rules in
    asks_out c.in-Output-Some-Out.link s.code s.operand s.len s.next cpu was word opr known c.in_ok-spelling.ensures.spelt going c.in_ok-spelling.ensures.next at
