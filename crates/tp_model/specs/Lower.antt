-- What definitions and contracts here name of the crates below.
pub use Rattle.std.specs.Int.{cast_unsigned, from_le_bytes, to_le_bytes, w32}
pub use Rattle.std.specs.List.{AllByRecursion, list_all, list_any, range_with_len, slice_split}
pub use Rattle.std.specs.Option.{option_and_then, option_map}
pub use Rattle.std.specs.Result.{result_ok}
pub use Rattle.std.specs.Str.Lines.{lines}
pub use Rattle.std.specs.Str.Parse.{digits_value}
