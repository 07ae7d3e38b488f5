-- What proofs here name of the crates below.
pub use Rattle.std.proofs.ByRecursion.{All-drop, All-take, All-weaker}
pub use Rattle.std.proofs.Math.Dec.{eqb-suc-zero}
pub use Rattle.std.proofs.Math.Seq.{drop-append_seam, drop-length}
pub use Rattle.std.proofs.lemmas.Bool.{and_parts, cases_lt, leb-true, ltb-true, true≢false}
pub use Rattle.std.proofs.lemmas.Bool.Decides.{eqb_tells}
pub use Rattle.std.proofs.lemmas.List.{drop-drop, length-map, take-append-drop, take-append-le}
pub use Rattle.std.proofs.lemmas.List.Sums.{sum_by-cons}
pub use Rattle.std.proofs.lemmas.Option.{same_Some}
pub use Rattle.std.proofs.lemmas.Result.{IfOk-weaker}
pub use Rattle.std.specs.Borrow.{Bor}
pub use Rattle.std.specs.List.{AllByRecursion, list_all}
pub use Rattle.std.specs.Option.{option_copied, option_map}
pub use Rattle.std.specs.Result.{result_ok}
pub use mathlib.Core.List.{cons≢nil}
pub use Rattle.tp_model.specs.Acknowledged.{is_reopening}
pub use Rattle.tp_model.specs.Acts.{Act, Begin, Close, CutHolds, Journal, Record, Trim}
unfoldable pub use Rattle.tp_model.specs.Acts.{acted, happens}
pub use Rattle.tp_model.specs.Areas.{Held, gate_closed, gate_open, next_number}
pub use Rattle.tp_model.specs.Bytes.{u8_at}
pub use Rattle.tp_model.specs.CopySpelt.{CopySpelt}
pub use Rattle.tp_model.specs.Device.{area_start, areas_end, content_of, is_open}
pub use Rattle.tp_model.specs.DeviceAreas.{device_areas, numbered, other_content, other_is_open, other_start}
pub use Rattle.tp_model.specs.Disk.{Call, IsWithin, MayBe, Moment, SameOutside, written}
pub use Rattle.tp_model.specs.DiskHistory.{IsSynced, LeavesOnly, MayHaveLeft, SomeMay, State, moment}
unfoldable pub use Rattle.tp_model.specs.Entries.{process}
pub use Rattle.tp_model.specs.EntryBytes.{AreOf, IsSpelt, is_in_range, is_of}
pub use Rattle.tp_model.specs.FrozenAs.{IsFrozenAs}
pub use Rattle.tp_model.specs.Group.{group_length}
pub use Rattle.tp_model.specs.Head.{Head}
unfoldable pub use Rattle.tp_model.specs.Head.{head_of}
pub use Rattle.tp_model.specs.Image.{IsNode, page_count}
unfoldable pub use Rattle.tp_model.specs.Image.{image, image_head}
pub use Rattle.tp_model.specs.Journal.{entry_room, image_length, is_roomy, room}
pub use Rattle.tp_model.specs.Markers.{plain_network}
pub use Rattle.tp_model.specs.Network.{Machine, Network}
pub use Rattle.tp_model.specs.Node.{t414, t414_ends}
pub use Rattle.tp_model.specs.NodeState.{NodeState}
pub use Rattle.tp_model.specs.Numbers.{AreNumbered}
pub use Rattle.tp_model.specs.Opening.{Opened, held_of, next_of, nodes_place}
unfoldable pub use Rattle.tp_model.specs.Opening.{verdict}
pub use Rattle.tp_model.specs.OpensTo.{book_of}
pub use Rattle.tp_model.specs.Order.{Reorder, post, same, swap}
unfoldable pub use Rattle.tp_model.specs.Order.{after}
pub use Rattle.tp_model.specs.PiecesStand.{IsSized, IsThere, PiecesStand}
pub use Rattle.tp_model.specs.Runs.{Acts, Copies, CopiesTail, CrashLeaves, Event, HasCut, Raises, Reopens, Run, Trims, World, copy_of, grown, is_trim, reopened}
pub use Rattle.tp_model.specs.Snapshot.{MarkedNetwork}
pub use Rattle.tp_model.specs.Spelling.{IsCut, IsGroup, entries_in}
pub use Rattle.tp_model.specs.StoreCalls.{Broke, Called, clear_calls, group_calls, put_calls, switch_calls, tail_calls}
pub use Rattle.tp_model.specs.Topology.{Topology, is_page_count}
unfoldable pub use Rattle.tp_model.specs.Topology.{is_topology}
pub use Rattle.tp_model.specs.Walks.{AreWalked, RecoversTo, RunLeads, Walks}
pub use Rattle.tp_model.specs.WholeCut.{WholeCut, count_in, network_in, trimmed}
unfoldable pub use Rattle.tp_model.specs.WholeCut.{whole}
pub use Rattle.tp_model.specs.WriteOrder.{Broken, Opened as AtOpened, Position, Resting, Tail}
pub use Rattle.tp_model.specs.declared.areas.TwoAreas.{TwoAreas}
pub use Rattle.tp_model.specs.declared.entry.Entry.{Entry}
pub use Rattle.tp_model.specs.declared.form.Form.{Form}
pub use Rattle.tp_model.specs.declared.form.Form.TheVariants.{Turns}
pub use Rattle.tp_model.specs.declared.limits.TheConstants.{AREA_HEAD_BYTES, IMAGE_HEAD_BYTES, MAX_NODES, MAX_PAGES, MIN_PAGES, NUMBER_LIMIT, PAGE_BYTES}
pub use Rattle.tp_law_machine.proofs.LinkLaws.{has_four_links, never_marks}
pub use Rattle.tp_law_machine.proofs.Moments.{length-written}
pub use Rattle.tp_law_network.proofs.Acknowledged.{run_goes_on}
pub use Rattle.tp_law_network.proofs.History.{journal_leads}
pub use Rattle.tp_law_network.proofs.Invariant.{At, Inv}
pub use Rattle.tp_law_network.proofs.Moments.{may_stand, written_same_outside}
pub use Rattle.tp_law_network.proofs.Partial.{bind_some}
pub use Rattle.tp_law_network.proofs.Planned.{clear_walks, group_walks, pieces_walk, switch_walks, tail_walks}
pub use Rattle.tp_law_network.proofs.Prefix.{held_of as kept_of}
pub use Rattle.tp_law_network.proofs.Reorder.{after_shape}
pub use Rattle.tp_law_network.proofs.Runs.{formatted_holds, formatted_run, run_keeps, run_recovers}
pub use Rattle.tp_law_network.proofs.Stay.{mark_there, stays}
pub use Rattle.tp_law_network.proofs.Stays.{entries_grow, start_stays}
pub use Rattle.tp_law_network.proofs.Walks.{chain_leads, leads_then, no_step, one_step, recovers_at, run_then, still_walks, walks_leave, walks_recover, walks_then}
pub use Rattle.tp_law_network.specs.Invariant.{CutInvariant}
pub use Rattle.tp_law_device.proofs.Again.{cut_spelt}
pub use Rattle.tp_law_device.proofs.CanPut.{copy_spelt}
pub use Rattle.tp_law_device.proofs.Contents.{content_same, length-content_of}
pub use Rattle.tp_law_device.proofs.Formatted.{formatted_starts}
pub use Rattle.tp_law_device.proofs.Fronts.{front_from}
pub use Rattle.tp_law_device.proofs.Frozen.{cut_frozen, image_in_pieces}
pub use Rattle.tp_law_device.proofs.GroupsFit.{verdict_has_room}
pub use Rattle.tp_law_device.proofs.Heads.{head_same}
pub use Rattle.tp_law_device.proofs.Held.{each_has_byte}
pub use Rattle.tp_law_device.proofs.Holds.{areas_keep}
pub use Rattle.tp_law_device.proofs.Opens.{reads_of}
pub use Rattle.tp_law_device.proofs.Pieces.{there_kept, there_written}
pub use Rattle.tp_law_device.proofs.Places.{content_put}
pub use Rattle.tp_law_device.proofs.Switch.{copy_stands}
pub use Rattle.tp_law_device.proofs.Switching.{numbered_entries, numbered_numbers}
pub use Rattle.tp_law_device.proofs.TailGroups.{parted_entries, parted_groups}
pub use Rattle.tp_law_device.proofs.Verdicts.{crash_opens, verdict_leads}
pub use Rattle.tp_law_device.proofs.Wires.{has_shape}
pub use Rattle.tp_law_device.specs.CutSpelt.{CutSpelt}
pub use Rattle.tp_law_device.specs.FormattedWorld.{formatted_world}
pub use Rattle.tp_law_device.specs.InGroups.{in_groups}
pub use Rattle.tp_book.specs.Book.{BookValue, next_in_book, world_of}
pub use Rattle.tp_book.specs.Joined.{FitsRoom}
pub use Rattle.tp_book.specs.Marked.{after_begin}
pub use Rattle.tp_book.specs.Opened.{kept_entries, now_of, opened_book}
pub use Rattle.tp_book.specs.declared.refusal.Refusal.{Refusal}
pub use Rattle.tp_book.specs.declared.state.NetState.{NetState}
pub use Rattle.tp_disk.proofs.Calls.{and_then, weaker}
pub use Rattle.tp_disk.proofs.Readings.{same_kept}
pub use Rattle.tp_disk.specs.Reads.{AreTrue, Reading, WereTrue}
pub use Rattle.tp_area.proofs.Behind.{CanBeAppended, can_be_appended, length-body, length-entries}
pub use Rattle.tp_area.proofs.Filling.{same_after, tail_fits}
pub use Rattle.tp_area.proofs.Frames.{gate_same}
pub use Rattle.tp_area.proofs.OpenedPlace.{opening_place}
pub use Rattle.tp_area.proofs.PutLaws.{written_nothing, written_twice}
pub use Rattle.tp_area.proofs.Roomy.{tail_fits_room}
pub use Rattle.tp_area.specs.Appended.{Appended, append_refusal, body_of, unnumbered}
pub use Rattle.tp_area.specs.Other.{Cleared, OtherIsClosed, PutBehind, Switched, if_open, other_gate}
pub use Rattle.tp_area.specs.Pieces.{piece_length, piece_place, place_in_image}
pub use Rattle.tp_area.specs.Places.{behind_group, has_room_at, place_at}
unfoldable pub use Rattle.tp_area.specs.Places.{place_in}
pub use Rattle.tp_area.specs.Tails.{IsSpeltTail, TailParts, TailPut, TailStands, content_beside, place_filled, tail_end, tail_parts, tail_pieces, tail_refusal}
pub use Rattle.tp_area.specs.declared.fault.StoreFault.{StoreFault}
pub use Rattle.tp_area.specs.declared.fault.StoreFault.TheVariants.{AreaFull, DeviceFailed, DeviceFailed as StoreFailed}
pub use Rattle.tp_area.specs.declared.place.Place.{Place}
pub use Rattle.tp_recover.specs.Reading.{LeavesNothingNew}
pub use Rattle.tp_ready.specs.Seen.{RaiserValue, RisesOn, risen, unrisen}
pub use Rattle.tp_ready.specs.Sound.{Sound, item_of, shown}
pub use Rattle.tp_ready.specs.declared.mark_view.Rise.{Rise}
pub use Rattle.tp_shared.proofs.Gone.{frozen_since}
pub use Rattle.tp_shared.proofs.HandedIn.{handed-append}
pub use Rattle.tp_shared.proofs.Telling.{told_journal}
pub use Rattle.tp_shared.specs.Below.{AreBelow}
pub use Rattle.tp_shared.specs.CopiedTail.{CopiedTail}
pub use Rattle.tp_shared.specs.Frozen.{none_kept}
pub use Rattle.tp_shared.specs.HandedIn.{handed}
pub use Rattle.tp_shared.specs.Parted.{PartsValue}
pub use Rattle.tp_shared.specs.Pieces.{AreFrozenPages, IsFrozenHead, IsFrozenPage}
pub use Rattle.tp_shared.specs.Seals.{IsTied, Stage}
pub use Rattle.tp_shared.specs.Told.{IsFirst, ToldSince, grown_all, told_of}
pub use Rattle.tp_shared.specs.TrimmedTo.{TrimmedTo}
pub use Rattle.tp_shared.specs.declared.flusher.tail.TailCopy.{TailCopy}
pub use Rattle.tp_shared.specs.declared.flusher.told.Told.{Told}
