-- What proofs here name of the crates below.
pub use Rattle.core.proofs.slots.Leases.{lease_val}
pub use Rattle.core.specs.Mem.Slots.{IsFull, lease_heap, lease_len, lease_ptr, slots_filled, slots_items, slots_len, slots_ptr, slots_small}
pub use Rattle.core.specs.Mem.Slots.Ownership.{Filled, slots}
pub use Rattle.core.specs.declared.alloc.Allocator.{Ghosts}
pub use Rattle.std.proofs.Math.Seq.{drop-cons, take-append_seam}
pub use Rattle.std.proofs.lemmas.Bool.{and_parts, cond_both, le-ltb, leb-true, lt-ltb, ltb-true, or_parts}
pub use Rattle.std.proofs.lemmas.Bool.Decides.{nat_tests}
pub use Rattle.std.proofs.lemmas.List.{drop-drop, ext_get_or, get_or-drop, get_or-replicate, get_or-set_other, get_or-set_same, get_or-take, get_or_default, get_or_read_under, length-append, length-drop, length-replicate, length-set, length-take, length-take-le, set-get_or, take-append-drop}
pub use Rattle.std.proofs.lemmas.List.Folds.{list_any-append}
pub use Rattle.std.proofs.lemmas.Result.{on_err_weaker}
pub use Rattle.std.proofs.raw_atomic.Walks.{leaves, proved}
pub use Rattle.std.specs.Int.{to_le_bytes, w32}
pub use Rattle.std.specs.List.{list_any}
pub use Rattle.std.specs.Option.{ForSome}
pub use Rattle.std_heap.proofs.Handle.{heap_Tells, heap_val}
pub use base.Fml.{Fml, feq, fsep, ftrue}
pub use base.Logic.{SProp, emp}
pub use base.Shift.{Keyless}
pub use Rattle.tp_model.specs.Frames.{Frames, HeldFrame, IsHeld, bytes_of, frame, free_in, held_bytes, held_owners, owned, owners_of, with_frame}
pub use Rattle.tp_model.specs.Memory.{byte_stored, changed, copied, is_inside, moved, offset, set_byte, set_word, stored, word_offset}
pub use Rattle.tp_model.specs.SharedPages.{Kept, LacksFrames, block_ranges, byte_ranges, kept_behind, private_in, shared_from, touches, wanted_from, word_ranges}
pub use Rattle.tp_model.specs.declared.limits.TheConstants.{MAX_PAGES, PAGE_BYTES}
