use Rattle.std.proofs.Common.{◌≡◌, true, false, sym, subst, arith, rules}
use Rattle.tp_turn.proofs.Lower.{slice_get_within, is_asked, agreed, length-agreed}
use Rattle.tp_turn.specs.Moments.{moment_of, IsNodeOf, Done}
use Rattle.tp_turn.specs.Settled.{Records}
use Rattle.tp_turn.proofs.Recording.{asked_thawed, recorded_done, recorded_is, unasked_done}
use Rattle.tp_turn.proofs.settling.record_asked.Goals as goal

pub asked-requires : goal.asked-requires
asked-requires c =
    let b = c.args.book.now.state in
    let below = slice_get_within (agreed b) c.args.number c.args.node.now.live c.requires.is.there in
    omega (arith, c.known.ensures.shaped.count, below, length-agreed b c.known.ensures.keeps)

pub freeze-requires : goal.freeze-requires
freeze-requires c =
    let asked : is_asked c.args.book.now.state.snapshot c.args.number ≡ true = search rules in
    asked_thawed c.args.book.now c.args.number c.args.node.now c.requires.is asked

pub record-requires-clause-there : goal.record-requires-clause-there
record-requires-clause-there c =
    let b = c.args.book.now.state in
    let below = slice_get_within (agreed b) c.args.number c.args.node.now.live c.requires.is.there in
    omega (arith, c.known.ensures.shaped.count, below, length-agreed b c.known.ensures.keeps)

pub returns-then-asked-clause-done : goal.returns-then-asked-clause-done
returns-then-asked-clause-done c =
    let asked : is_asked c.args.book.now.state.snapshot c.args.number ≡ true = search rules in
    subst (λ m. Done c.args.number (Records c.args.number) (moment_of c.args.book.now c.args.node.now) (moment_of c.record.new.self m)) (sym c.freeze.ensures.frozen)
    (recorded_done c.args.book.now c.record.new.self c.args.number c.args.node.now asked c.record.ensures.book c.requires.is c.record.ensures.act)

pub returns-then-asked-clause-is : goal.returns-then-asked-clause-is
returns-then-asked-clause-is c =
    let asked : is_asked c.args.book.now.state.snapshot c.args.number ≡ true = search rules in
    subst (IsNodeOf c.record.new.self c.args.number) (sym c.freeze.ensures.frozen)
    (recorded_is c.args.book.now c.record.new.self c.args.number c.args.node.now asked c.record.ensures.book c.requires.is)

pub returns-else-asked-clause-done : goal.returns-else-asked-clause-done
returns-else-asked-clause-done c =
    let unasked : is_asked c.args.book.now.state.snapshot c.args.number ≡ false = search rules in
    unasked_done c.args.book.now c.args.number c.args.node.now unasked c.requires.is
