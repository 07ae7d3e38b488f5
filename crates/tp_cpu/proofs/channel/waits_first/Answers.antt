use Rattle.std.proofs.Common.{◌≡◌, ◌%◌, ℕ, true, false, List, ◌++◌, Some, length, refl, ap, sym, ◌∙◌, rules, arith}
use Rattle.std.specs.Prelude.{Err}
use Rattle.tp_cpu.proofs.Lower.{is_inside, stored, Next, leaves, stopped, wait_writes, word_ranges, kept_behind, Cpu}
use Rattle.tp_cpu.specs.After.{stored_after}
use Rattle.tp_cpu.specs.AfterWrites.{first_ranges}
use Rattle.tp_cpu.proofs.Behind.{refused_after, halts_after, done_after, kept_done, waits, Writes-same}
use Rattle.tp_cpu.proofs.channel.waits_first.Goals as goal

pub returns-then-not-is_inside-clause-does : goal.returns-then-not-is_inside-clause-does
returns-then-not-is_inside-clause-does g c =
    let m = c.args.message in
    let cpu = c.args.cpu.now in
    let memory = g.M.Mem.bytes c.args.mem.now in
    let whole : length memory % 4 ≡ 0 = omega (arith, c.len-len.ensures.value, c.len-len.ensures.pages) in
    let outside : is_inside memory m.pointer m.count ≡ false = sym c.is_inside.ensures ∙ c.if-not-is_inside.true in
    (halts_after c.args.first m.pointer m.count memory (λ after. leaves (stored after (wait_writes m.channel m.pointer cpu)) (stopped cpu)) whole outside, refl, refl)

pub returns-in_err-store_after-clause-does : goal.returns-in_err-store_after-clause-does
returns-in_err-store_after-clause-does g c =
    let m = c.args.message in
    let cpu = c.args.cpu.now in
    let memory = g.M.Mem.bytes c.args.mem.now in
    let whole : length memory % 4 ≡ 0 = omega (arith, c.len-len.ensures.value, c.len-len.ensures.pages) in
    let inside : is_inside memory m.pointer m.count ≡ true = sym c.is_inside.ensures ∙ c.if-not-is_inside.false in
    let own = waits m.channel m.pointer c.descriptor_of.result c.state_at.result c.saved_at.result cpu c.descriptor_of.ensures c.state_at.ensures c.saved_at.ensures in
    let is : c.from_residual.result ≡ Err c.in_err-store_after.field-0.0 = search rules in
    let writes = wait_writes m.channel m.pointer cpu in
    let now = g.M.Mem.bytes c.store_after.new.mem in
    let refused = Writes-same c.args.first (g.M.Mem.kept c.args.mem.now) memory now (Err c.in_err-store_after.field-0.0) _ writes own c.in_err-store_after.ensures.written in
    rw is (refused_after c.args.first writes m.pointer m.count (g.M.Mem.kept c.args.mem.now) memory now cpu (stopped cpu) c.in_err-store_after.field-0.0 whole inside refused)

pub returns-clause-does : goal.returns-clause-does
returns-clause-does g c =
    let m = c.args.message in
    let cpu = c.args.cpu.now in
    let memory = g.M.Mem.bytes c.args.mem.now in
    let whole : length memory % 4 ≡ 0 = omega (arith, c.len-len.ensures.value, c.len-len.ensures.pages) in
    let inside : is_inside memory m.pointer m.count ≡ true = sym c.is_inside.ensures ∙ c.if-not-is_inside.false in
    let own = waits m.channel m.pointer c.descriptor_of.result c.state_at.result c.saved_at.result cpu c.descriptor_of.ensures c.state_at.ensures c.saved_at.ensures in
    let writes = wait_writes m.channel m.pointer cpu in
    let now = g.M.Mem.bytes c.store_after.new.mem in
    let done : stored_after c.args.first writes memory ≡ Some now = ap (λ (ws : List (ℕ × ℕ)). stored_after c.args.first ws memory) (sym own) ∙ c.in_ok-store_after.ensures.written in
    done_after c.args.first writes m.pointer m.count memory now (stopped cpu) whole inside done ∙ ap (λ (told : Cpu). Next told now) (sym c.end.ensures)

pub returns-clause-kept : goal.returns-clause-kept
returns-clause-kept g c =
    let m = c.args.message in
    let cpu = c.args.cpu.now in
    let memory = g.M.Mem.bytes c.args.mem.now in
    let kept = g.M.Mem.kept c.args.mem.now in
    let own = waits m.channel m.pointer c.descriptor_of.result c.state_at.result c.saved_at.result cpu c.descriptor_of.ensures c.state_at.ensures c.saved_at.ensures in
    let writes = wait_writes m.channel m.pointer cpu in
    let now = g.M.Mem.bytes c.store_after.new.mem in
    let done : stored_after c.args.first writes memory ≡ Some now = ap (λ (ws : List (ℕ × ℕ)). stored_after c.args.first ws memory) (sym own) ∙ c.in_ok-store_after.ensures.written in
    c.in_ok-store_after.ensures.kept ∙ ap (λ (ws : List (ℕ × ℕ)). kept_behind kept (first_ranges c.args.first ++ word_ranges ws)) own ∙ kept_done c.args.first writes memory now kept cpu done
