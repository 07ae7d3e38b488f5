use Rattle.std.proofs.Common.{◌≡◌, ◌%◌, ℕ, true, false, List, [], ◌∷◌, length, is_some, refl, sym, subst, ap, ◌∙◌, rules, arith, Err}
use Rattle.tp_node.proofs.Lower.{word_at, LacksFrames, kept_behind, option_to_list}
use Rattle.tp_node.proofs.Woken.{is_some-stored_alone, is_some-stored_behind, wake-stored, then_put-stored, wake-lost, then_put-lost}
use Rattle.tp_node.proofs.arrival.wake.Goals as goal

pub store-requires : goal.store-requires
store-requires g c = is_some-stored_alone c.args.first (g.M.Mem.bytes c.args.mem.now) c.requires

pub store-requires-in-Some : goal.store-requires-in-Some
store-requires-in-Some g c =
    let memory = g.M.Mem.bytes c.args.mem.now in
    let whole : length memory % 4 ≡ 0 = omega (arith, c.len-len.ensures.value, c.len-len.ensures.pages) in
    let found : is_some (word_at memory c.in-Some.link.0) ≡ true = cc in
    is_some-stored_behind c.args.first memory c.in-Some.link whole c.requires found

pub store-requires-in-Some-2 : goal.store-requires-in-Some-2
store-requires-in-Some-2 g c = is_some-stored_alone c.args.first (g.M.Mem.bytes c.args.mem.now) c.requires

pub returns-in_ok-store-in-None-clause-hears : goal.returns-in_ok-store-in-None-clause-hears
returns-in_ok-store-in-None-clause-hears g c =
    let memory = g.M.Mem.bytes c.args.mem.now in
    let now = g.M.Mem.bytes c.store.new.mem in
    let written = sym (ap option_to_list c.in-None.is) ∙ c.queue_write.ensures in
    wake-stored c.args.first memory c.args.descriptor c.args.cpu.now [] written now c.queue.new.cpu c.in_ok-store-in-None.ensures.ok c.queue.ensures

pub returns-in_ok-store-in-None-clause-kept : goal.returns-in_ok-store-in-None-clause-kept
returns-in_ok-store-in-None-clause-kept g c =
    let memory = g.M.Mem.bytes c.args.mem.now in
    let written = sym (ap option_to_list c.in-None.is) ∙ c.queue_write.ensures in
    c.in_ok-store-in-None.ensures.kept ∙ ap (kept_behind (g.M.Mem.kept c.args.mem.now)) (sym (then_put-stored c.args.first memory c.args.descriptor c.args.cpu.now [] written (ap is_some c.in_ok-store-in-None.ensures.ok)))

pub returns-in_err-store-in-None-clause-hears : goal.returns-in_err-store-in-None-clause-hears
returns-in_err-store-in-None-clause-hears g c =
    let memory = g.M.Mem.bytes c.args.mem.now in
    let written = sym (ap option_to_list c.in-None.is) ∙ c.queue_write.ensures in
    let is : c.from_residual.result ≡ Err c.in_err-store-in-None.field-0.0 = search rules in
    rw is (subst (λ (ranges : List (ℕ × ℕ)). LacksFrames (g.M.Mem.kept c.args.mem.now) ranges) (sym (then_put-stored c.args.first memory c.args.descriptor c.args.cpu.now [] written (is_some-stored_alone c.args.first memory c.requires))) c.in_err-store-in-None.ensures.refusal, refl, c.in_err-store-in-None.ensures.err)

pub returns-in_ok-store-in-Some-clause-hears : goal.returns-in_ok-store-in-Some-clause-hears
returns-in_ok-store-in-Some-clause-hears g c =
    let memory = g.M.Mem.bytes c.args.mem.now in
    let now = g.M.Mem.bytes c.store-in-Some.new.mem in
    let written = sym (ap option_to_list c.in-Some.is) ∙ c.queue_write.ensures in
    wake-stored c.args.first memory c.args.descriptor c.args.cpu.now (c.in-Some.link ∷ []) written now c.queue-in-Some.new.cpu c.in_ok-store-in-Some.ensures.ok c.queue-in-Some.ensures

pub returns-in_ok-store-in-Some-clause-kept : goal.returns-in_ok-store-in-Some-clause-kept
returns-in_ok-store-in-Some-clause-kept g c =
    let memory = g.M.Mem.bytes c.args.mem.now in
    let written = sym (ap option_to_list c.in-Some.is) ∙ c.queue_write.ensures in
    c.in_ok-store-in-Some.ensures.kept ∙ ap (kept_behind (g.M.Mem.kept c.args.mem.now)) (sym (then_put-stored c.args.first memory c.args.descriptor c.args.cpu.now (c.in-Some.link ∷ []) written (ap is_some c.in_ok-store-in-Some.ensures.ok)))

pub returns-in_err-store-in-Some-clause-hears : goal.returns-in_err-store-in-Some-clause-hears
returns-in_err-store-in-Some-clause-hears g c =
    let memory = g.M.Mem.bytes c.args.mem.now in
    let written = sym (ap option_to_list c.in-Some.is) ∙ c.queue_write.ensures in
    let whole : length memory % 4 ≡ 0 = omega (arith, c.len-len.ensures.value, c.len-len.ensures.pages) in
    let found : is_some (word_at memory c.in-Some.link.0) ≡ true = cc in
    let is : c.from_residual-in_err-store-in-Some.result ≡ Err c.in_err-store-in-Some.field-0.0 = search rules in
    rw is (subst (λ (ranges : List (ℕ × ℕ)). LacksFrames (g.M.Mem.kept c.args.mem.now) ranges) (sym (then_put-stored c.args.first memory c.args.descriptor c.args.cpu.now (c.in-Some.link ∷ []) written (is_some-stored_behind c.args.first memory c.in-Some.link whole c.requires found))) c.in_err-store-in-Some.ensures.refusal, refl, c.in_err-store-in-Some.ensures.err)

pub returns-in_ok-store-in-Some-2-clause-hears : goal.returns-in_ok-store-in-Some-2-clause-hears
returns-in_ok-store-in-Some-2-clause-hears g c =
    let memory = g.M.Mem.bytes c.args.mem.now in
    let now = g.M.Mem.bytes c.store-in-Some-2.new.mem in
    let written = sym (ap option_to_list c.in-Some.is) ∙ c.queue_write.ensures in
    let whole : length memory % 4 ≡ 0 = omega (arith, c.len-len.ensures.value, c.len-len.ensures.pages) in
    let lost : is_some (word_at memory c.in-Some.link.0) ≡ false = cc in
    wake-lost c.args.first memory c.args.descriptor c.args.cpu.now c.in-Some.link written whole lost now c.halt_outside.new.cpu c.in_ok-store-in-Some-2.ensures.ok c.halt_outside.ensures

pub returns-in_ok-store-in-Some-2-clause-kept : goal.returns-in_ok-store-in-Some-2-clause-kept
returns-in_ok-store-in-Some-2-clause-kept g c =
    let memory = g.M.Mem.bytes c.args.mem.now in
    let written = sym (ap option_to_list c.in-Some.is) ∙ c.queue_write.ensures in
    let whole : length memory % 4 ≡ 0 = omega (arith, c.len-len.ensures.value, c.len-len.ensures.pages) in
    let lost : is_some (word_at memory c.in-Some.link.0) ≡ false = cc in
    c.in_ok-store-in-Some-2.ensures.kept ∙ ap (kept_behind (g.M.Mem.kept c.args.mem.now)) (sym (then_put-lost c.args.first memory c.args.descriptor c.args.cpu.now c.in-Some.link written whole lost (ap is_some c.in_ok-store-in-Some-2.ensures.ok)))

pub returns-in_err-store-in-Some-2-clause-hears : goal.returns-in_err-store-in-Some-2-clause-hears
returns-in_err-store-in-Some-2-clause-hears g c =
    let memory = g.M.Mem.bytes c.args.mem.now in
    let written = sym (ap option_to_list c.in-Some.is) ∙ c.queue_write.ensures in
    let whole : length memory % 4 ≡ 0 = omega (arith, c.len-len.ensures.value, c.len-len.ensures.pages) in
    let lost : is_some (word_at memory c.in-Some.link.0) ≡ false = cc in
    let is : c.from_residual-in_err-store-in-Some-2.result ≡ Err c.in_err-store-in-Some-2.field-0.0 = search rules in
    rw is (subst (λ (ranges : List (ℕ × ℕ)). LacksFrames (g.M.Mem.kept c.args.mem.now) ranges) (sym (then_put-lost c.args.first memory c.args.descriptor c.args.cpu.now c.in-Some.link written whole lost (is_some-stored_alone c.args.first memory c.requires))) c.in_err-store-in-Some-2.ensures.refusal, refl, c.in_err-store-in-Some-2.ensures.err)
