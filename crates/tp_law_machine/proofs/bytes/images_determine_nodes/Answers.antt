use Rattle.tp_law_machine.proofs.Images.{node_of-image, image-node_of, is_node-node_of}
use Rattle.tp_law_machine.proofs.bytes.images_determine_nodes.Goals as goal

pub returns : goal.returns
returns c = record { node = node_of-image; bytes = image-node_of; only_nodes = is_node-node_of }
