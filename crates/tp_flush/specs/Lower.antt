-- What definitions and contracts here name of the crates below.
pub use Rattle.std.specs.List.{AllByRecursion}
pub use Rattle.tp_model.specs.Areas.{next_number}
pub use Rattle.tp_model.specs.DeviceAreas.{device_areas, numbered}
pub use Rattle.tp_model.specs.Disk.{IsWithin, MayBe, written}
pub use Rattle.tp_model.specs.DiskHistory.{IsSynced, LeavesOnly, MayHaveLeft, State, moment}
pub use Rattle.tp_model.specs.EntryBytes.{AreOf, IsSpelt, is_of}
pub use Rattle.tp_model.specs.FrozenAs.{IsFrozenAs}
unfoldable pub use Rattle.tp_model.specs.Head.{head_of}
unfoldable pub use Rattle.tp_model.specs.Image.{image_head}
pub use Rattle.tp_model.specs.Journal.{image_length, is_roomy, room}
pub use Rattle.tp_model.specs.Markers.{plain_network}
pub use Rattle.tp_model.specs.Network.{Network}
pub use Rattle.tp_model.specs.Node.{t414, t414_ends}
pub use Rattle.tp_model.specs.NodeState.{NodeState}
pub use Rattle.tp_model.specs.Opening.{Opened, held_of, next_of}
unfoldable pub use Rattle.tp_model.specs.Opening.{verdict}
pub use Rattle.tp_model.specs.OpensTo.{book_of}
unfoldable pub use Rattle.tp_model.specs.Order.{after}
pub use Rattle.tp_model.specs.PiecesStand.{IsThere}
pub use Rattle.tp_model.specs.Runs.{BeginsFormatted, Event, HasCut, Run, World, fresh, reopened}
pub use Rattle.tp_model.specs.Snapshot.{MarkedNetwork}
pub use Rattle.tp_model.specs.Spelling.{IsCut}
pub use Rattle.tp_model.specs.StoreCalls.{Broke, switch_calls, tail_calls}
pub use Rattle.tp_model.specs.Topology.{Topology}
unfoldable pub use Rattle.tp_model.specs.Topology.{is_topology}
pub use Rattle.tp_model.specs.Walks.{RecoversTo, RunLeads, Walks}
pub use Rattle.tp_model.specs.WholeCut.{WholeCut}
unfoldable pub use Rattle.tp_model.specs.WholeCut.{whole}
pub use Rattle.tp_model.specs.WriteOrder.{Broken, Position, Resting}
pub use Rattle.tp_model.specs.declared.areas.TwoAreas.{TwoAreas}
pub use Rattle.tp_model.specs.declared.entry.Entry.{Entry}
pub use Rattle.tp_model.specs.declared.form.Form.{Form}
pub use Rattle.tp_model.specs.declared.head.HeadVersion.{HeadVersion}
pub use Rattle.tp_model.specs.declared.limits.TheConstants.{IMAGE_HEAD_BYTES, MAX_GROUP, MAX_NODES, MAX_PAGES, NUMBER_LIMIT, PAGE_BYTES}
pub use Rattle.tp_law_machine.specs.NodeOfBytes.{IsNodeOfBytes}
pub use Rattle.tp_law_device.specs.CutSpelt.{CutSpelt}
pub use Rattle.tp_law_device.specs.FormattedWorld.{WasFormatted, formatted_world}
pub use Rattle.tp_net.specs.declared.ends.TheConstants.{MAX_LINES}
pub use Rattle.tp_book.specs.Book.{BookValue, next_in_book, world_of}
pub use Rattle.tp_book.specs.Joined.{FitsRoom}
pub use Rattle.tp_book.specs.Marked.{after_begin, begin_refusal}
pub use Rattle.tp_book.specs.Needs.{has_recorded_in}
pub use Rattle.tp_book.specs.PortParts.{port_made}
pub use Rattle.tp_book.specs.Refusals.{IsAnswer}
pub use Rattle.tp_book.specs.declared.refusal.Refusal.{Refusal}
pub use Rattle.tp_book.specs.declared.refusal.Refusal.TheVariants.{JournalFull, Memory, NothingToTake, PortFull, SnapshotRunning, StoreBroken}
pub use Rattle.tp_disk.specs.Reads.{AreTrue, Reading, WereTrue}
pub use Rattle.tp_area.specs.Appended.{unnumbered}
pub use Rattle.tp_area.specs.Other.{OtherIsClosed, Switched, other_gate}
pub use Rattle.tp_area.specs.Pieces.{piece_place, place_in_image}
unfoldable pub use Rattle.tp_area.specs.Places.{place_in}
pub use Rattle.tp_area.specs.Tails.{IsSpeltTail, TailParts, TailPut, content_beside, place_filled, tail_parts, tail_pieces, tail_refusal}
pub use Rattle.tp_area.specs.declared.place.Place.{Place}
pub use Rattle.tp_ready.specs.Seen.{RaiserValue, RisesOn, number_of, risen, unrisen}
pub use Rattle.tp_ready.specs.Sound.{item_of, shown}
pub use Rattle.tp_ready.specs.declared.mark_view.Rise.{Rise}
pub use Rattle.tp_shared.specs.Below.{AreBelow}
pub use Rattle.tp_shared.specs.CopiedTail.{CopiedTail}
pub use Rattle.tp_shared.specs.Frozen.{keeps_pages, none_kept}
pub use Rattle.tp_shared.specs.HandedIn.{handed}
pub use Rattle.tp_shared.specs.Parted.{PartsValue}
pub use Rattle.tp_shared.specs.Pieces.{AreFrozenPages, IsFrozenHead}
pub use Rattle.tp_shared.specs.Told.{IsFirst, ToldSince}
pub use Rattle.tp_shared.specs.TrimmedTo.{TrimmedTo}
pub use Rattle.tp_shared.specs.declared.book.look.Look.{Look}
pub use Rattle.tp_shared.specs.declared.flusher.tail.TailCopy.{TailCopy}
pub use Rattle.tp_shared.specs.declared.flusher.told.Told.{Told}
