-- What proofs here name of the crates below.
pub use Rattle.std.proofs.Math.Seq.{take-append_seam}
pub use Rattle.std.proofs.lemmas.Bool.{cases_lt}
pub use Rattle.std.proofs.lemmas.Bool.Decides.{Decides-ltb}
pub use Rattle.std.proofs.lemmas.Fmt.{decimal_digit, decimal_injective, decimal_nonempty, parse-decimal}
pub use Rattle.std.proofs.lemmas.List.{append_cancel_right, get_or-map, length-map, take-append-drop, take_all}
pub use Rattle.std.proofs.lemmas.List.Elements.{All-head, All-more, All-push, All-tail}
pub use Rattle.std.proofs.lemmas.List.Sums.{sum_by-cons}
pub use Rattle.std.proofs.lemmas.Slice.Eq.{bytes_eq-Decides}
pub use Rattle.std.proofs.lemmas.Str.Pattern.{IsSplitOnceResult, split_after}
pub use Rattle.std.specs.Cmp.Lexicographic.{pointwise}
pub use Rattle.std.specs.Fmt.{decimal}
pub use Rattle.std.specs.List.{starts_with}
pub use Rattle.std.specs.Option.{MatchOption, option_map, option_or}
pub use Rattle.std.specs.Str.Pattern.{FindsTextPrefix, StripsPrefix}
pub use Rattle.std.specs.declared.alloc.Global.{Global}
pub use Rattle.std.specs.declared.string.String.{String}
pub use Rattle.tp_model.specs.declared.limits.TheConstants.{MAX_PORTS}
pub use Rattle.tp_stream_files.proofs.Pushed.{map_last, map_more}
pub use Rattle.tp_stream_files.specs.Named.{is_standard, standard_port}
pub use Rattle.tp_stream_files.specs.declared.ends.Ends.{Ends}
pub use Rattle.tp_stream_files.specs.declared.ends.PortFile.{PortFile}
pub use Rattle.tp_stream_files.specs.declared.ends.PortNumber.{PortNumber}
