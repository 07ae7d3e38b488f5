use Rattle.std.proofs.Common.{true, false, Err, ◌-◌, refl, eq-eqb, ne_eqb, sym, ap, subst, ◌∙◌, arith, Some}
use Rattle.std.specs.Prelude.{Ok}
use Rattle.tp_book.proofs.Lower.{is_full_for_snapshot, NUMBER_LIMIT}
use Rattle.tp_book.specs.Joined.{book_joined, Ages}
use Rattle.tp_book.specs.Book.{world_of}
use Rattle.tp_book.proofs.Fields.{on_ok}
use Rattle.tp_book.proofs.Stood.{stands_by, joined_by}
use Rattle.tp_book.proofs.Remarked.{none_of, begin_few, begin_act, begun_value, begun_stands}
use Rattle.tp_book.specs.declared.refusal.Refusal.TheVariants.{SnapshotRunning, StoreBroken, JournalFull, Memory}
use Rattle.tp_book.proofs.Answered.{begin_answered}
use Rattle.tp_book.proofs.book.Book.begin.Goals as goal

pub mark_ports-requires : goal.mark_ports-requires
mark_ports-requires c =
    let idle = none_of c.self.inside.snapshots.snapshot (sym c.is_running.ensures ∙ c.if-is_running.false) in
    begin_few c.self.inside.journal c.self.inside.snapshots c.self.inside.generation c.self.invariant c.known.ensures.keeps idle

pub invariant_of-self-2 : goal.invariant_of-self-2
invariant_of-self-2 c =
    let idle = none_of c.self.inside.snapshots.snapshot (sym c.is_running.ensures ∙ c.if-is_running.false) in
    let begun = on_ok c.begin_in.result _ c.begin_in.ensures.ok (sym c.is_err.ensures.value ∙ c.if-is_err.false) in
    stands_by _ c.mark_ports.new.self _ c.begin_in.new.snapshots c.self.inside.generation c.mark_ports.ensures begun (begun_stands c.self.inside.journal c.self.inside.snapshots c.self.inside.generation c.self.invariant c.known.ensures.keeps c.known.ensures.shaped idle (let age = subst (λ given. Ages given c.self.inside.generation) idle c.self.invariant.ages in omega (arith, age, c.if-self.false)))

pub returns-clause-act : goal.returns-clause-act
returns-clause-act c =
    let idle = none_of c.self.inside.snapshots.snapshot (sym c.is_running.ensures ∙ c.if-is_running.false) in
    let begun = on_ok c.begin_in.result _ c.begin_in.ensures.ok (sym c.is_err.ensures.value ∙ c.if-is_err.false) in
    rw (← c.self.view_is)
    (begin_act c.self.inside.journal c.self.inside.snapshots c.self.inside.generation c.self.invariant c.known.ensures.keeps idle
    ∙ ap (λ b. Some (world_of b)) (sym (joined_by _ c.mark_ports.new.self _ c.begin_in.new.snapshots c.self.inside.generation c.mark_ports.ensures begun ∙ begun_value c.self.inside.journal c.self.inside.snapshots c.self.inside.generation c.self.invariant c.known.ensures.keeps c.known.ensures.shaped idle)))

pub returns-clause-ok : goal.returns-clause-ok
returns-clause-ok c =
    let idle = none_of c.self.inside.snapshots.snapshot (sym c.is_running.ensures ∙ c.if-is_running.false) in
    let begun = on_ok c.begin_in.result _ c.begin_in.ensures.ok (sym c.is_err.ensures.value ∙ c.if-is_err.false) in
    rw (← c.self.view_is)
    (joined_by _ c.mark_ports.new.self _ c.begin_in.new.snapshots c.self.inside.generation c.mark_ports.ensures begun ∙ begun_value c.self.inside.journal c.self.inside.snapshots c.self.inside.generation c.self.invariant c.known.ensures.keeps c.known.ensures.shaped idle)

pub returns-then-is_running-clause-answer : goal.returns-then-is_running-clause-answer
returns-then-is_running-clause-answer c =
    rw (← c.self.view_is) (begin_answered (book_joined c.self.inside.journal c.self.inside.snapshots c.self.inside.generation) (Err SnapshotRunning) true c.self.inside.journal.broken (is_full_for_snapshot c.self.inside.generation) (sym c.is_running.ensures ∙ c.if-is_running.true) refl refl refl)

pub returns-then-is_broken-clause-answer : goal.returns-then-is_broken-clause-answer
returns-then-is_broken-clause-answer c =
    rw (← c.self.view_is) (begin_answered (book_joined c.self.inside.journal c.self.inside.snapshots c.self.inside.generation) (Err StoreBroken) false true (is_full_for_snapshot c.self.inside.generation) (sym c.is_running.ensures ∙ c.if-is_running.false) (sym c.is_broken.ensures ∙ c.if-is_broken.true) refl refl)

pub returns-then-self-clause-answer : goal.returns-then-self-clause-answer
returns-then-self-clause-answer c =
    rw (← c.self.view_is) (begin_answered (book_joined c.self.inside.journal c.self.inside.snapshots c.self.inside.generation) (Err JournalFull) false false true (sym c.is_running.ensures ∙ c.if-is_running.false) (sym c.is_broken.ensures ∙ c.if-is_broken.false) (eq-eqb c.self.inside.generation (NUMBER_LIMIT - 1) c.if-self.true) refl)

pub returns-then-is_err-clause-answer : goal.returns-then-is_err-clause-answer
returns-then-is_err-clause-answer c =
    rw (← c.self.view_is) (begin_answered (book_joined c.self.inside.journal c.self.inside.snapshots c.self.inside.generation) (Err Memory) false false false (sym c.is_running.ensures ∙ c.if-is_running.false) (sym c.is_broken.ensures ∙ c.if-is_broken.false) (ne_eqb c.self.inside.generation (NUMBER_LIMIT - 1) c.if-self.false) refl)

pub returns-clause-answer : goal.returns-clause-answer
returns-clause-answer c =
    rw (← c.self.view_is) (begin_answered (book_joined c.self.inside.journal c.self.inside.snapshots c.self.inside.generation) (Ok tt) false false false (sym c.is_running.ensures ∙ c.if-is_running.false) (sym c.is_broken.ensures ∙ c.if-is_broken.false) (ne_eqb c.self.inside.generation (NUMBER_LIMIT - 1) c.if-self.false) tt)
