use Rattle.std.proofs.Common.{◌≡◌, ◌∙◌, sym, ap, subst, rules, true}
use Rattle.std.specs.Prelude.{Result, Err, MatchResult}
use Rattle.tp_shared.proofs.Lower.{RunEnd, Refusal, sent_in, turn_received}
use Rattle.tp_shared.specs.declared.nodes.node_turn.NodeTurn.{NodeTurn}
use Rattle.tp_shared.specs.Holds.{in_hand}
use Rattle.tp_shared.specs.NodeTurned.{NodeTurned}
use Rattle.tp_shared.specs.TurnsMade.{TurnBrokenOff, TurnMade}
use Rattle.tp_shared.proofs.Gaining.{node_turned}
use Rattle.tp_shared.proofs.nodes.cell.turn_of.Goals as goal

pub run-stretch-requires : goal.run-stretch-requires
run-stretch-requires g c = record { turn = record { takes = turn_received c.in_ok-opened.opened; sent = sent_in c.in_ok-opened.opened; shows = c.in_ok-opened.ensures.shows } }

pub commit-ran-requires-clause-ran : goal.commit-ran-requires-clause-ran
commit-ran-requires-clause-ran g c =
    let O = c.in_ok-opened.ensures.shows in
    let opened = c.in_ok-opened.opened in
    record {
      before = O.before;
      ahead = c.begin.new.place.node.live;
      shown = ap (λ k. k.value.state) c.run-stretch.ensures.key ∙ O.shown ∙ ap (λ f. record { node = O.before; frozen = f; reserved = true; takes = turn_received opened }) (sym c.run-stretch.ensures.kept);
      was = O.was;
      took = O.took;
      image = O.image;
      made = c.run-stretch.ensures.steps;
    }

pub returns-in_err-opened-clause-went : goal.returns-in_err-opened-clause-went
returns-in_err-opened-clause-went g c =
    let is : c.from_residual.result ≡ Err c.in_err-opened.field-0.0 = search rules in
    let old = in_hand c.args.seen.now c.args.seat.now in
    let new = in_hand c.begin.new.seen c.begin.new.seat in
    subst (λ (r : Result NodeTurn Refusal). MatchResult r (λ turn. TurnMade g.J.Naming.start c.args.number c.args.quantum turn old new) (λ e. TurnBrokenOff g.J.Naming.start c.args.number e old new)) (sym is)
    (record { was = c.args.place.now.node; is = c.begin.new.place.node; opened = c.in_err-opened.ensures.opened })

pub returns-clause-turned : goal.returns-clause-turned
returns-clause-turned g c =
    subst (λ (r : RunEnd). NodeTurned g.J.Naming.start c.args.number c.args.quantum (record { taken = c.taken-taken.result; ran = r }) c.args.seat.now c.commit-ran.new.seat) (sym c.commit-ran.ensures.ran)
    (node_turned g.J.Naming.start c.args.number c.args.quantum c.in_ok-opened.opened (record { taken = c.taken-taken.result; ran = c.run-stretch.result.ran }) c.args.seat.now c.begin.new.seat c.commit-ran.new.seat
    c.run-stretch.ensures.asked c.run-stretch.ensures.few c.taken-taken.ensures c.in_ok-opened.ensures.gained c.commit-ran.ensures.gained)

pub returns-clause-went : goal.returns-clause-went
returns-clause-went g c =
    let old = in_hand c.args.seen.now c.args.seat.now in
    let new = in_hand c.commit-ran.new.seen c.commit-ran.new.seat in
    subst (λ (r : RunEnd). TurnMade g.J.Naming.start c.args.number c.args.quantum (record { taken = c.taken-taken.result; ran = r }) old new) (sym c.commit-ran.ensures.ran)
    (record {
      found = c.args.place.now.node;
      settled = c.begin.new.place.node;
      opening = c.in_ok-opened.opened;
      many = c.taken-taken.ensures;
      between = in_hand c.begin.new.seen c.begin.new.seat;
      opened = c.in_ok-opened.ensures.opened;
      ran = c.run-stretch.new.self.node;
      sent = c.run-stretch.result.sent.items;
      steps = c.run-stretch.ensures.steps;
      why = c.run-stretch.ensures.why;
      kept = c.run-stretch.ensures.kept;
      shared = c.run-stretch.ensures.shared;
      committed = c.commit-ran.ensures.committed;
    })
