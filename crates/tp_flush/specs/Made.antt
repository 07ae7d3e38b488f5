-- What is made of a device that opened, before its flusher begins.
use Rattle.std.specs.Prelude.{◌≡◌, false, length}
use Rattle.tp_flush.specs.Lower.{RaiserValue, unrisen, Opened, next_of, book_of, world_of, PartsValue}

-- Parts whose book is that of what was opened, and isn't broken, and the raiser of their mark, which has the next number.
pub record IsMadeOf (o : Opened) (parts : PartsValue) (raiser : RaiserValue) : Type 0 where
  pub book : world_of parts.book ≡ book_of o
  pub base : parts.book.base ≡ o.base
  pub form : parts.book.form ≡ o.form
  pub whole : parts.book.broken ≡ false
  pub first : parts.first ≡ next_of o
  pub ports : length parts.book.state.ports ≡ o.head.topology.ports
  pub raised : raiser ≡ record { mark = parts.mark; at = next_of o; rises = unrisen (next_of o) }
