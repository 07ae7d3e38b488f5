-- What the host's calls ask of a book with a port.
use Rattle.std.specs.Prelude.{◌≡◌, ◌<◌, length, None}
use Rattle.tp_book.specs.Book.{BookValue}

pub record IsUsable (b : BookValue) : Type 0 where
  pub idle : b.ready ≡ None
  pub there : 0 < length b.state.ports
