use Rattle.std.proofs.Common.{◌≡◌, true, false, sym, subst, rules}
use Rattle.tp_turn.proofs.Lower.{turn_acts, has_recorded_in, without_run, JournalFull, takes_refusal}
use Rattle.tp_turn.specs.Moments.{moment_of, Added, Done}
use Rattle.tp_turn.specs.Whole.{EndsWhole}
use Rattle.tp_turn.proofs.Ahead.{rests_ahead}
use Rattle.tp_turn.proofs.Wholes.{full_unrecorded, full_recorded, is_reserved, made_free, needed, receives_before, unreserved}
use Rattle.tp_turn.proofs.whole.take_needed.Goals as goal

pub returns-then-not-recorded-clause-done : goal.returns-then-not-recorded-clause-done
returns-then-not-recorded-clause-done c =
    let not : has_recorded_in c.args.book.now.state.snapshot c.args.number ≡ false = search rules in
    unreserved c.args.number c.args.book.now c.args.node.now JournalFull c.requires.is.there
    (full_unrecorded c.args.book.now (has_recorded_in c.args.book.now.state.snapshot c.args.number) not c.requires.full)

pub commit-requires-clause-reserved : goal.commit-requires-clause-reserved
commit-requires-clause-reserved c = is_reserved c.args.book.now c.reserve_takes.new.self c.args.number c.in-Ok.ensures.ok c.requires.free

pub commit-requires-clause-turned : goal.commit-requires-clause-turned
commit-requires-clause-turned c =
    rw c.as_slice.ensures.value
    (rests_ahead c.reserve_takes.new.self c.args.number c.receive-sent.result.takes c.receive-sent.result.sent.items c.receive-sent.new.node c.receive-sent.ensures.ahead)

pub returns-in-Ok-clause-done : goal.returns-in-Ok-clause-done
returns-in-Ok-clause-done c =
    let b = c.args.book.now in
    let takes = c.receive-sent.result.takes in
    let recorded : has_recorded_in b.state.snapshot c.args.number ≡ true = search rules in
    needed c.args.number b c.args.node.now c.commit.new.book c.receive-sent.new.node takes c.receive-sent.result.sent.items c.requires.free c.requires.full recorded
    (made_free (takes_refusal b) c.in-Ok.field-0 c.in-Ok.ensures.answer)
    (receives_before b c.reserve_takes.new.self c.args.number false c.args.number takes c.args.node.now c.receive-sent.result.sent.items c.receive-sent.new.node c.in-Ok.ensures.ok c.receive-sent.ensures.did)
    (subst (λ x. Added c.args.number c.receive-sent.new.node.live (turn_acts c.args.number takes 0) (without_run x c.args.number) c.commit.new.book) c.in-Ok.ensures.ok c.commit.ensures.added)

pub returns-in-Err-clause-done : goal.returns-in-Err-clause-done
returns-in-Err-clause-done c =
    let b = c.args.book.now in
    let recorded : has_recorded_in b.state.snapshot c.args.number ≡ true = search rules in
    subst (λ x. Done c.args.number (EndsWhole c.args.number c.in-Err.refusal) (moment_of b c.args.node.now) (moment_of x c.args.node.now)) (sym c.in-Err.ensures.err)
    (unreserved c.args.number b c.args.node.now c.in-Err.refusal c.requires.is.there
    (full_recorded b (has_recorded_in b.state.snapshot c.args.number) c.in-Err.refusal recorded c.in-Err.ensures.answer))
