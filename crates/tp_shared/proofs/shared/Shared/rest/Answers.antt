use Rattle.std.proofs.Common.{◌≡◌, ◌≤◌, ℕ, ◌+◌, Bool, cond, length, sym, ap, subst, ◌∙◌, arith}
use Rattle.tp_shared.proofs.Lower.{list_all, BookValue, agreed, world_of, is_clear, BookKeeps, length-agreed, Halted, Quiet, Busy}
use Rattle.tp_shared.specs.Resting.{IsRestAt}
use Rattle.tp_shared.specs.Seals.{Stage}
use Rattle.tp_shared.proofs.RestSoFar.{HaveRested, all_rested, one_busy, one_halted, one_quiet}
use Rattle.tp_shared.proofs.shared.Shared.rest.Goals.{in-Halted, in-Quiet}
use Rattle.tp_shared.proofs.shared.Shared.rest.Goals as goal

pub returns-in-Busy-clause-rest : goal.returns-in-Busy-clause-rest
returns-in-Busy-clause-rest g c =
    let here = subst (λ (s : Stage). IsRestAt s.book c.loop-number.number c.rest_at.result) c.loop-number.invariant.same c.rest_at.ensures.rest in
    one_busy c.args.held.now.book c.loop-number.number c.loop-number.have_halted c.loop-number.invariant.rested c.rest_at.result here c.in-Busy.is

pub loop-number-preserved : goal.loop-number-preserved
loop-number-preserved g c =
    let b = c.args.held.now.book in
    let here = subst (λ (s : Stage). IsRestAt s.book c.loop-number.number c.rest_at.result) c.loop-number.invariant.same c.rest_at.ensures.rest in
    record {
      same = c.rest_at.ensures.same ∙ c.loop-number.invariant.same;
      rested = elim c.match-rest_at.branch [
        | in-Halted w ↦ subst (HaveRested (world_of b).live.nodes (c.loop-number.number + 1)) (sym w.have_halted-is)
            (one_halted b c.loop-number.number c.loop-number.have_halted c.loop-number.invariant.rested c.rest_at.result here w.in-Halted.is)
        | in-Quiet w ↦ subst (HaveRested (world_of b).live.nodes (c.loop-number.number + 1)) (sym w.have_halted-is)
            (one_quiet b c.loop-number.number c.loop-number.have_halted c.loop-number.invariant.rested c.rest_at.result here w.in-Quiet.is)
      ];
    }

pub returns-clause-rest : goal.returns-clause-rest
returns-clause-rest g c =
    let b = c.args.held.now.book in
    let keeps = subst (λ (x : BookValue). BookKeeps x.state) c.book.ensures c.known-2.ensures.keeps in
    let many : length (agreed b.state) ≡ length b.state.start.nodes = length-agreed b.state keeps in
    let all : length (agreed b.state) ≤ c.loop-number.number = omega (arith, many, c.known.ensures.nodes, c.nodes-number-end.ensures, c.loop-number-test.false) in
    let clear = c.is_clear.ensures ∙ ap (λ (x : BookValue). list_all is_clear x.state.lines) (c.book-2.ensures ∙ ap (λ (s : Stage). s.book) c.loop-number.invariant.same) in
    c.rest_of.ensures ∙ ap (λ is. cond c.loop-number.have_halted Halted (cond is Quiet Busy)) clear ∙ all_rested b c.loop-number.number c.loop-number.have_halted c.loop-number.invariant.rested all
