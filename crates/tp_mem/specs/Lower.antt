-- What definitions and contracts here name of the crates below.
pub use Rattle.core.specs.Mem.Slots.{IsFull, lease_heap, lease_len, lease_ptr, slots_items, slots_len, slots_ptr}
pub use Rattle.std.specs.Int.{from_le_bytes, to_le_bytes, w32, w64}
pub use Rattle.std.specs.List.{list_all, list_any}
pub use Rattle.std.specs.Option.{ForSome}
pub use base.Fml.{ftrue}
pub use Rattle.tp_model.specs.Frames.{Frames, bytes_of, frame, free_in, owned, owners_of}
pub use Rattle.tp_model.specs.Memory.{byte_at, byte_stored, changed, copied, is_inside, offset, set_byte, set_word, stored, word_at, word_offset}
pub use Rattle.tp_model.specs.SharedPages.{Kept, LacksFrames, block_ranges, byte_ranges, kept_after, private_in, shared_from, touches, wanted_from, word_ranges}
pub use Rattle.tp_model.specs.declared.limits.TheConstants.{MAX_PAGES, PAGE_BYTES}
