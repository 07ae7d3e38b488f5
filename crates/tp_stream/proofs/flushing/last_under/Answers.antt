use Rattle.std.proofs.Common.{◌≡◌, ◌≤◌, true, sym, ap, subst, ◌∙◌, arith}
use Rattle.tp_stream.proofs.Lower.{AreTrue, Began, BookValue, next_in_book, port_in, Stage, IsAheadOf, Flushing}
use Rattle.tp_stream.specs.Accounted.{AreAllSlips}
use Rattle.tp_stream.specs.Put.{are_put}
use Rattle.tp_stream.proofs.Puts.{all_in_journal, ends_put}
use Rattle.tp_stream.proofs.flushing.last_under.Goals as goal

pub returns-clause-last : goal.returns-clause-last
returns-clause-last g c k began =
    let start = g.J.Naming.formatted in
    let f = c.args.flusher.now in
    let S = c.settle_book.ensures in
    let b = c.settle_book.new.held.book in
    let ahead = subst (λ (stage : Stage). IsAheadOf start f.world stage.book) (sym S.same.1) (S.ahead (subst (λ (f : Flushing). AreTrue f.reads) c.are_accounted.ensures.same.0 k) began) in
    let mark : c.mark-mark.result ≡ f.world.mark = c.mark-mark.ensures ∙ ap (λ (g : Flushing). g.world.mark) S.same.0 in
    let next : c.next-next.result ≡ next_in_book b = c.next-next.ensures ∙ ap next_in_book c.book.ensures in
    let stored : next_in_book b ≤ f.world.mark = let test = c.if-mark-next.false in omega (arith, mark, next, test) in
    next ∙ sym ((all_in_journal start f.world b ahead stored).1)

pub returns-clause-put : goal.returns-clause-put
returns-clause-put g c k began =
    let start = g.J.Naming.formatted in
    let f = c.args.flusher.now in
    let S = c.settle_book.ensures in
    let b = c.settle_book.new.held.book in
    let ahead = subst (λ (stage : Stage). IsAheadOf start f.world stage.book) (sym S.same.1) (S.ahead (subst (λ (f : Flushing). AreTrue f.reads) c.are_accounted.ensures.same.0 k) began) in
    let mark : c.mark-mark.result ≡ f.world.mark = c.mark-mark.ensures ∙ ap (λ (g : Flushing). g.world.mark) S.same.0 in
    let next : c.next-next.result ≡ next_in_book b = c.next-next.ensures ∙ ap next_in_book c.book.ensures in
    let stored : next_in_book b ≤ f.world.mark = let test = c.if-mark-next.false in omega (arith, mark, next, test) in
    ends_put start f.world b ahead stored c.args.why c.args.outputs.now
    (subst (λ (b : BookValue). are_put c.args.why (port_in b) c.args.outputs.now ≡ true) c.book-2.ensures (c.are_put.ensures c.if-not-are_put.false))
    (c.has_halted_as.ensures.halted c.if-not-has_halted_as.false)

pub returns-clause-all : goal.returns-clause-all
returns-clause-all g c k began =
    let S = c.settle_book.ensures in
    let journal = λ (f : Flushing). f.world.journal in
    let next : c.next-next.result ≡ next_in_book c.settle_book.new.held.book = c.next-next.ensures ∙ ap next_in_book c.book.ensures in
    subst (λ n. AreAllSlips g.J.Naming.first n (journal c.args.flusher.now) c.args.all.now c.args.host.now) (sym next)
    (subst (λ f. AreAllSlips g.J.Naming.first (next_in_book c.settle_book.new.held.book) (journal f) c.args.all.now c.args.host.now) S.same.0
    (subst (λ (stage : Stage). AreAllSlips g.J.Naming.first (next_in_book stage.book) (journal c.settle_book.new.self) c.args.all.now c.args.host.now) c.has_halted_as.ensures.same
    (c.are_accounted.ensures.all c.if-not-are_accounted.false k (subst (λ (f : Flushing). Began g.J.Naming.formatted g.J.Naming.before f.opened) (sym S.same.0) began))))
