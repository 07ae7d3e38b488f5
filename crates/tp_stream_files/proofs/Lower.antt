-- What proofs here name of the crates below.
pub use Rattle.std.proofs.Math.Seq.{drop-append_seam, take-add}
pub use Rattle.std.proofs.lemmas.Bool.{eqb-true}
pub use Rattle.std.proofs.lemmas.List.{drop-drop, drop-take, drop_all, length-take-le, take-append-le, take-take, take_all, take_more, take_rest}
pub use Rattle.std.proofs.lemmas.List.Elements.{All-push}
pub use Rattle.std.proofs.lemmas.List.Quantifiers.{all_pairs_push}
pub use Rattle.std.specs.Io.KnownBytes.{Appends, Keeps}
