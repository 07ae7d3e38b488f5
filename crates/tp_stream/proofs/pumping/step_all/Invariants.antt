-- The book with the confirms so far, what was put of the outputs so far, and the room for the others, which are as they were. No bytes were handed in.
use Rattle.std.proofs.Common.{◌≡◌, ◌-◌, true, length}
use Rattle.tp_area.specs.declared.journal.JournalRoom.{JournalRoom}
use Rattle.tp_stream.specs.HandedFrom.{HandsNoBytes}
use Rattle.tp_stream.specs.Noted.{StepsNoted}
use Rattle.tp_stream.specs.Rooms.{UnreservedBook, has_room_for}
use Rattle.tp_stream.specs.Steps.{AreLeft, PutsLeft}
use Rattle.tp_stream.proofs.Puts.{EachTo}
use Rattle.tp_stream.proofs.pumping.step_all.Given as goal

abbrev pub invariant-loop-output : goal.invariant-loop-output
invariant-loop-output g l = record {
  left : AreLeft l.fn.held.book l.held.book;
  puts : EachTo (PutsLeft l.fn.held.book l.flusher.world.mark) l.output-index l.fn.outputs l.outputs;
  many : length l.outputs ≡ length l.fn.outputs;
  unfed : HandsNoBytes l.fn.host l.host;
  noted : StepsNoted l.fn.outputs l.fn.seat l.fn.host → StepsNoted l.outputs l.seat l.host;
  room :
      (journal : JournalRoom) → UnreservedBook journal l.fn.held.book → has_room_for journal l.fn.held.book (length l.fn.outputs) ≡ true
      → UnreservedBook journal l.held.book × (has_room_for journal l.held.book (length l.fn.outputs - l.output-index) ≡ true);
}
