-- What definitions and contracts here name of the crates below.
pub use Rattle.clap.specs.Words.{kind_of}
pub use Rattle.clap.specs.declared.error.Error.{Error}
pub use Rattle.clap.specs.declared.error.kind.ErrorKind.TheVariants.{DisplayHelp, DisplayVersion, OutOfMemory}
pub use Rattle.std.specs.Cmp.Lexicographic.{pointwise}
pub use Rattle.std.specs.Fmt.{decimal}
pub use Rattle.std.specs.List.{cons_option, list_any, starts_with}
pub use Rattle.std.specs.Option.{option_map, option_or}
pub use Rattle.std.specs.declared.alloc.Global.{Global}
pub use Rattle.std.specs.declared.string.String.{String}
pub use Rattle.tp_model.specs.declared.limits.TheConstants.{MAX_PORTS, MAX_STEPS}
pub use Rattle.tp_stream_files.specs.Named.{is_standard, standard_port}
pub use Rattle.tp_stream_files.specs.declared.ends.Ends.{Ends}
pub use Rattle.tp_stream_files.specs.declared.ends.PortFile.{PortFile}
pub use Rattle.tp_stream_files.specs.declared.ends.PortNumber.{PortNumber}
