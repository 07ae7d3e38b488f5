-- What definitions and contracts here name of the crates below.
pub use Rattle.std.specs.Io.{ReadsAtMost, WritesAtMost}
pub use Rattle.std.specs.Io.KnownBytes.{ReadConsumes, WriteAppends}
