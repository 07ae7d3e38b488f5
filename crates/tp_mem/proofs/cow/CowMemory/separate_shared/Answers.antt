use Rattle.std.proofs.Common.{◌≡◌, ◌∷◌, ◌-◌, ◌≤◌, ℕ, if◌then◌else◌, sym, subst, ap, ◌∙◌, arith, IfOk, OnOk}
use Rattle.tp_mem.proofs.Lower.{on_err_weaker, word_ranges, private_in}
use Rattle.tp_mem.proofs.Touches.{shared_from-page, wanted_from-page}
use Rattle.tp_mem.proofs.cow.CowMemory.separate_shared.Goals as goal

pub returns-in-Some-clause-ok : goal.returns-in-Some-clause-ok
returns-in-Some-clause-ok c =
    let ranges = c.args.first ∷ c.args.block ∷ word_ranges c.args.words.now in
    let parted = shared_from-page ranges c.args.self.now.shared c.in-Some.page c.in-Some.ensures.touched c.in-Some.ensures.alone in
    subst (λ pages. IfOk c.separate_page.result (λ _. c.separate_page.new.self ≡ record c.args.self.now { shared = pages })) (sym parted) c.separate_page.ensures.ok

pub returns-in-Some-clause-fits : goal.returns-in-Some-clause-fits
returns-in-Some-clause-fits c =
    let ranges = c.args.first ∷ c.args.block ∷ word_ranges c.args.words.now in
    let wanted = wanted_from-page ranges c.args.self.now.shared c.in-Some.page c.in-Some.ensures.touched c.in-Some.ensures.alone in
    subst (λ n. OnOk c.separate_page.result (n ≤ c.args.self.now.spare - private_in c.args.self.now.shared)) (sym wanted) c.separate_page.ensures.fits

pub returns-in-Some-clause-err : goal.returns-in-Some-clause-err
returns-in-Some-clause-err c =
    let ranges = c.args.first ∷ c.args.block ∷ word_ranges c.args.words.now in
    let wanted = wanted_from-page ranges c.args.self.now.shared c.in-Some.page c.in-Some.ensures.touched c.in-Some.ensures.alone in
    on_err_weaker c.separate_page.result (λ no. (no.0, omega (arith, wanted ∙ ap {B = ℕ} (λ b. if b then 1 else 0) no.1, no.2))) c.separate_page.ensures.err
