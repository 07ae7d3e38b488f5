use Rattle.std.proofs.Common.{Vec, Global, sym, subst}
use Rattle.tp_node.specs.NodeContents.{NodeContents}
use Rattle.tp_stream.specs.Fitting.{HaveFrames}
use Rattle.tp_stream.proofs.opening.parts_with.Goals as goal

pub opened-requires-clause-opened : goal.opened-requires-clause-opened
opened-requires-clause-opened c = record { state = c.args.state; opened = c.requires.opened; book_is = c.requires.book; nodes_are = c.in_ok-nodes.ensures.live }

pub returns-clause-frames : goal.returns-clause-frames
returns-clause-frames c = subst (λ (made : Vec NodeContents Global). HaveFrames c.args.spare made.items) (sym c.of-known.ensures) c.in_ok-nodes.ensures.frames
