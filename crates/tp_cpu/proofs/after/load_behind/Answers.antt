use Rattle.std.proofs.Common.{◌≡◌, ◌%◌, length, rules, arith}
use Rattle.tp_cpu.proofs.Words.{word_after-same, word_after-other}
use Rattle.tp_cpu.proofs.after.load_behind.Goals as goal

pub returns-then-address-at : goal.returns-then-address-at
returns-then-address-at g c =
    let whole : length (g.M.Mem.bytes c.args.mem.now) % 4 ≡ 0 = omega (arith, c.len-len.ensures.value, c.len-len.ensures.pages) in
    word_after-same (g.M.Mem.bytes c.args.mem.now) c.args.at c.args.word c.in_ok-_old._old c.args.address whole (search rules) (search rules) (search rules)

pub returns : goal.returns
returns g c =
    let whole : length (g.M.Mem.bytes c.args.mem.now) % 4 ≡ 0 = omega (arith, c.len-len.ensures.value, c.len-len.ensures.pages) in
    rw (word_after-other (g.M.Mem.bytes c.args.mem.now) c.args.at c.args.word c.in_ok-_old._old c.args.address whole (search rules) (search rules) (search rules) (search rules)) c.load-2.ensures
