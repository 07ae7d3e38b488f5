use Rattle.std.proofs.Common.{◌≡◌, ◌≤◌, true, length, sym, ap, subst, ◌∙◌, arith}
use Rattle.tp_stream.proofs.Lower.{AreTrue, Began, next_in_book, Stage, IsAheadOf, Flushing, walked_nowhere}
use Rattle.tp_stream.specs.Rooms.{UnreservedBook, has_room_for}
use Rattle.tp_stream.specs.Steps.{PortsStand}
use Rattle.tp_stream.proofs.Puts.{book_stands}
use Rattle.tp_stream.proofs.Stepping.{stepped_under}
use Rattle.tp_stream.proofs.pumping.step_settled.Goals as goal

-- the flusher has stored all that the book has
pub step_all-requires : goal.step_all-requires
step_all-requires g c k began =
    let start = g.J.Naming.formatted in
    let w = c.args.flusher.now.world in
    let S = c.settle_book.ensures in
    let b = c.settle_book.new.held.book in
    let same = S.same.0 in
    let first = subst (λ (f : Flushing). Began start g.J.Naming.before f.opened) same began in
    let ahead = subst (λ (stage : Stage). IsAheadOf start w stage.book) (sym S.same.1) (S.ahead k first) in
    let mark : c.mark-mark.result ≡ w.mark = c.mark-mark.ensures ∙ ap (λ (g : Flushing). g.world.mark) same in
    let next : c.next-next.result ≡ next_in_book b = c.next-next.ensures ∙ ap next_in_book c.book.ensures in
    let stored : next_in_book b ≤ w.mark = let test = c.if-mark-next.false in omega (arith, mark, next, test) in
    subst (λ (f : Flushing). PortsStand start f.world b) (sym same) (book_stands start w b ahead stored)

pub returns-clause-put : goal.returns-clause-put
returns-clause-put g c k began =
    let start = g.J.Naming.formatted in
    let f = c.args.flusher.now in
    let S = c.settle_book.ensures in
    let b = c.settle_book.new.held.book in
    let was = subst (λ (f : Flushing). AreTrue f.reads) S.same.0 k in
    let ahead = subst (λ (stage : Stage). IsAheadOf start f.world stage.book) (sym S.same.1) (S.ahead k began) in
    let mark : c.mark-mark.result ≡ f.world.mark = c.mark-mark.ensures ∙ ap (λ (g : Flushing). g.world.mark) S.same.0 in
    let next : c.next-next.result ≡ next_in_book b = c.next-next.ensures ∙ ap next_in_book c.book.ensures in
    let stored : next_in_book b ≤ f.world.mark = let test = c.if-mark-next.false in omega (arith, mark, next, test) in
    stepped_under start f b c.settle_book.new.self.world.mark (walked_nowhere f (c.known.ensures.disk was)) (book_stands start f.world b ahead stored) c.args.outputs.now c.step_all.new.outputs
    c.step_all.ensures.puts

pub returns-clause-room : goal.returns-clause-room
returns-clause-room g c journal L there =
    let same : c.settle_book.new.held.book ≡ c.args.held.now.book = ap (λ (stage : Stage). stage.book) c.settle_book.ensures.same.1 in
    c.step_all.ensures.room journal (subst (UnreservedBook journal) (sym same) L) (subst (λ b. has_room_for journal b (length c.args.outputs.now) ≡ true) (sym same) there)
