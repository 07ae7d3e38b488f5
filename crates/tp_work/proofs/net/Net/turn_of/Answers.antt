use Rattle.std.proofs.Common.{◌≡◌, ◌<◌, length, sym, subst, inl, inr, rules}
use Rattle.tp_shared.specs.Holds.{in_hand}
use Rattle.tp_work.specs.Turns.{Refused, RefusedFor}
use Rattle.tp_work.proofs.Broken.{broken_off, host_took, node_took, refused_for}
use Rattle.tp_work.proofs.net.Net.turn_of.Goals as goal

pub returns-in-Err-clause-turned : goal.returns-in-Err-clause-turned
returns-in-Err-clause-turned g c =
    let host : c.args.process ≡ length g.J.Naming.start.nodes = search rules in
    subst (λ fault. Refused g.J.Naming.start fault c.args.slips.now c.host_turn.new.seat) (sym c.of.ensures)
    (broken_off g.J.Naming.start c.args.process c.args.slips.now c.host_turn.new.seat c.in-Err.refusal c.requires.there
    (host_took g.J.Naming.start c.args.process c.args.slips.now c.host_turn.new.seat host c.in-Err.ensures.turned))

pub returns-in-Err-clause-went : goal.returns-in-Err-clause-went
returns-in-Err-clause-went g c =
    let host : c.args.process ≡ length g.J.Naming.start.nodes = search rules in
    subst (λ fault. RefusedFor g.J.Naming.start c.args.process fault (in_hand c.args.seen.now c.args.slips.now) (in_hand c.host_turn.new.seen c.host_turn.new.seat)) (sym c.of.ensures)
    (refused_for g.J.Naming.start c.args.process (in_hand c.args.seen.now c.args.slips.now) (in_hand c.host_turn.new.seen c.host_turn.new.seat) c.in-Err.refusal c.in-Err.ensures.refused
    (host_took g.J.Naming.start c.args.process c.args.slips.now c.host_turn.new.seat host c.in-Err.ensures.turned)
    (inr (host, c.in-Err.ensures.went)))

pub returns-in-Err-turn-clause-turned : goal.returns-in-Err-turn-clause-turned
returns-in-Err-turn-clause-turned g c =
    let node : c.args.process < length g.J.Naming.start.nodes = search rules in
    subst (λ fault. Refused g.J.Naming.start fault c.args.slips.now c.turn.new.seat) (sym c.of-in-Err-turn.ensures)
    (broken_off g.J.Naming.start c.args.process c.args.slips.now c.turn.new.seat c.in-Err-turn.refusal c.requires.there
    (node_took g.J.Naming.start c.args.process c.args.slips.now c.turn.new.seat node c.in-Err-turn.ensures.turned))

pub returns-in-Err-turn-clause-went : goal.returns-in-Err-turn-clause-went
returns-in-Err-turn-clause-went g c =
    let node : c.args.process < length g.J.Naming.start.nodes = search rules in
    subst (λ fault. RefusedFor g.J.Naming.start c.args.process fault (in_hand c.args.seen.now c.args.slips.now) (in_hand c.turn.new.seen c.turn.new.seat)) (sym c.of-in-Err-turn.ensures)
    (refused_for g.J.Naming.start c.args.process (in_hand c.args.seen.now c.args.slips.now) (in_hand c.turn.new.seen c.turn.new.seat) c.in-Err-turn.refusal c.in-Err-turn.ensures.refused
    (node_took g.J.Naming.start c.args.process c.args.slips.now c.turn.new.seat node c.in-Err-turn.ensures.turned)
    (inl (node, c.in-Err-turn.ensures.went)))
