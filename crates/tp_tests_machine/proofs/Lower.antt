-- What proofs here name of the crates below.
pub use Rattle.std.proofs.lemmas.Bool.{cond_both, lt-ltb}
pub use Rattle.std.proofs.lemmas.List.{take_rest}
pub use Rattle.std.specs.List.{slice_get}
pub use Rattle.tp_model.specs.EndBytes.{in_end_at, out_end_at}
unfoldable pub use Rattle.tp_model.specs.EndBytes.{ends_at}
unfoldable pub use Rattle.tp_model.specs.Image.{image_head, is_node, node_at, node_of}
pub use Rattle.tp_model.specs.Node.{took_token}
unfoldable pub use Rattle.tp_model.specs.Node.{took}
pub use Rattle.tp_model.specs.NodeState.{NodeState}
pub use Rattle.tp_model.specs.declared.limits.TheConstants.{IMAGE_HEAD_BYTES}
pub use Rattle.tp_model.specs.declared.link.Token.{Token}
pub use Rattle.tp_model.specs.declared.link.Token.TheVariants.{Ack, Data}
pub use Rattle.tp_node.proofs.EndsAsBytes.{four_ends_apart}
pub use Rattle.tp_node.specs.FromImage.{ReadsImage}
pub use Rattle.tp_node.specs.NodeContents.{NodeContents}
