use Rattle.tp_node.proofs.Answered.{why_most}
use Rattle.tp_shared.proofs.nodes.place.Place.run.Goals as goal

pub returns-clause-few : goal.returns-clause-few
returns-clause-few c = why_most _ _ _ _ _ c.run_node.ensures.why

pub returns-clause-image : goal.returns-clause-image
returns-clause-image c = (c.nodes_stay_nodes.ensures.runs c.run_node.result.ran.count c.args.self.now.node.live (c.run_node.new.node.live, c.run_node.result.sent.items) c.requires.turn.shows.image c.run_node.ensures.steps).0
