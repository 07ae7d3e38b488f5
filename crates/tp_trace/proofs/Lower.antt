-- What proofs here name of the crates below.
pub use Rattle.std.proofs.BufReadLemmas.{drop-take_min}
pub use Rattle.std.proofs.Math.Seq.{take-add}
pub use Rattle.std.proofs.lemmas.Bool.{lt-ltb, true≢false}
pub use Rattle.std.proofs.lemmas.List.{drop-drop, length_push, map-set, take-append-drop, take_all}
pub use Rattle.std.proofs.lemmas.Option.{slice_get_within}
pub use Rattle.std.specs.Int.{from_le_bytes, w32}
pub use Rattle.std.specs.Option.{option_map}
pub use Rattle.tp_model.specs.Coding.{decoded}
pub use Rattle.tp_model.specs.Image.{IsNode, cpu_at}
unfoldable pub use Rattle.tp_model.specs.Image.{image, image_head, node_at}
pub use Rattle.tp_model.specs.Memory.{offset}
unfoldable pub use Rattle.tp_model.specs.Network.{steps}
pub use Rattle.tp_model.specs.Node.{on_link, t414}
unfoldable pub use Rattle.tp_model.specs.Node.{node_step, took}
pub use Rattle.tp_model.specs.NodeState.{NodeState}
unfoldable pub use Rattle.tp_model.specs.NodeWrites.{node_ranges}
pub use Rattle.tp_model.specs.SharedPages.{LacksFrames}
pub use Rattle.tp_model.specs.Word.{wrap}
pub use Rattle.tp_model.specs.declared.link.Token.{Token}
pub use Rattle.tp_model.specs.declared.link.Token.TheVariants.{Data}
pub use Rattle.tp_law_machine.proofs.Images.{node_at-image}
pub use Rattle.tp_law_machine.proofs.Nodes.{carries, node_steps, node_took}
pub use Rattle.tp_law_machine.proofs.Partial.{bind_some}
pub use Rattle.tp_cpu.proofs.Ahead.{bytes_from, next_offset, no_bytes_from, through_byte}
pub use Rattle.tp_cpu.specs.Decoding.{reads_on}
pub use Rattle.tp_node.proofs.Answered.{lacking_frozen, takes_err, takes_ok, why_fewer, why_most}
pub use Rattle.tp_node.proofs.Images.{has_pages}
pub use Rattle.tp_node.specs.NodeContents.{memory_kept}
pub use Rattle.tp_node.specs.RunEnd.{IsWhy}
pub use Rattle.tp_node.specs.declared.run.Why.{Why}
