use Rattle.tp_recover.proofs.BookRoom.{book_group, book_tail}
use Rattle.tp_recover.proofs.roomy.books_find_room.Goals as goal

pub returns : goal.returns
returns c = record { appended = book_group; put = book_tail }
