-- What a crash may leave of a device. The lemmas are in `tp_law_machine`; the crates above find them here, too.
pub use Rattle.tp_law_machine.proofs.Moments.{length-written, get_or-written_outside, get_or-written_inside, written_same_outside, outside_last, outside_each, outside_inner, outside_all_inner, within_last, may_stand, may_be_written, write_may, may_write, may_within, broken_may, synced_may, loose_may, loose_more}
