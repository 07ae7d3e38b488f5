-- What definitions and contracts here name of the crates below.
pub use Rattle.std.specs.Fs.{new_options, with_create, with_read, with_write}
pub use Rattle.std.specs.Io.KnownBytes.{ReadConsumes}
pub use Rattle.std.specs.declared.fs.options.OpenOptions.{OpenOptions}
pub use Rattle.std.specs.declared.io.ErrorKind.{ErrorKind}
pub use Rattle.std.specs.declared.io.ErrorKind.TheVariants.{BrokenPipe, ConnectionAborted, ConnectionReset}
pub use Rattle.tp_model.specs.declared.limits.TheConstants.{MAX_HELD}
