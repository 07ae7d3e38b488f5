-- What proofs here name of the crates below.
pub use Rattle.std.proofs.Math.Seq.{drop-cons}
pub use Rattle.std.proofs.lemmas.Bool.{and_from, and_parts, cases_eq, lt-ltb, ltb-true}
pub use Rattle.std.proofs.lemmas.List.{append_assoc, drop_more, get_or-replicate, length-replicate, length-take-le, map-append, set_at, take_at, take_more}
pub use Rattle.std.proofs.lemmas.List.Folds.{list_all-map}
pub use Rattle.std.proofs.lemmas.Option.{slice_get-get_or, slice_get_within}
pub use Rattle.std.specs.List.{AllByRecursion, list_all}
pub use Rattle.tp_model.specs.Acts.{Act, Begin, Trim, trim}
unfoldable pub use Rattle.tp_model.specs.Acts.{acted, happens}
pub use Rattle.tp_model.specs.CutImage.{is_line_of}
pub use Rattle.tp_model.specs.DeviceAreas.{numbered}
pub use Rattle.tp_model.specs.EntryBytes.{AreOf, IsSpelt, is_in_range, is_of}
unfoldable pub use Rattle.tp_model.specs.Image.{node_of}
pub use Rattle.tp_model.specs.Journal.{is_full_for_snapshot}
pub use Rattle.tp_model.specs.Network.{Network, on_line}
pub use Rattle.tp_model.specs.Node.{t414}
pub use Rattle.tp_model.specs.NodeState.{NodeState}
pub use Rattle.tp_model.specs.Numbers.{AreNumbered}
pub use Rattle.tp_model.specs.Runs.{HasCut}
pub use Rattle.tp_model.specs.Snapshot.{MarkedNetwork, Snapshot}
pub use Rattle.tp_model.specs.Spelling.{are_lines, has_record}
pub use Rattle.tp_model.specs.WholeCut.{WholeCut, all_some, trimmed}
unfoldable pub use Rattle.tp_model.specs.WholeCut.{whole}
pub use Rattle.tp_model.specs.declared.entry.Entry.{Entry}
pub use Rattle.tp_model.specs.declared.form.Form.{Form}
pub use Rattle.tp_model.specs.declared.form.Form.TheVariants.{Turns}
pub use Rattle.tp_model.specs.declared.limits.TheConstants.{NUMBER_LIMIT, PAGE_BYTES}
pub use Rattle.tp_model.specs.declared.link.Token.{Token}
pub use Rattle.tp_model.specs.declared.wire.WireEnd.{WireEnd}
pub use Rattle.tp_law_machine.proofs.Partial.{slice_get-set_other, slice_get-set_same}
pub use Rattle.tp_law_machine.specs.NodeOfBytes.{IsNodeOfBytes}
pub use Rattle.tp_node.proofs.Answered.{image_read, image_thawed}
pub use Rattle.tp_node.specs.FromImage.{ReadsImage}
pub use Rattle.tp_node.specs.NodeContents.{NodeContents}
pub use Rattle.tp_book.proofs.Stood.{one_act}
pub use Rattle.tp_book.specs.Acts.{input_acts}
pub use Rattle.tp_book.specs.Book.{BookValue, nodes_in, world_of}
unfoldable pub use Rattle.tp_book.specs.Book.{agreed}
pub use Rattle.tp_book.specs.Host.{after_inputs}
pub use Rattle.tp_book.specs.Marked.{after_begin, begin_refusal}
pub use Rattle.tp_book.specs.Needs.{has_recorded_in}
pub use Rattle.tp_book.specs.Opened.{IsWellOpen, now_of, opened_book}
pub use Rattle.tp_book.specs.Ports.{PortValue}
pub use Rattle.tp_book.specs.Refusals.{IsAnswer, else_if}
pub use Rattle.tp_book.specs.Trimmed.{after_trim}
pub use Rattle.tp_book.specs.declared.refusal.Refusal.{Refusal}
pub use Rattle.tp_book.specs.declared.refusal.Refusal.TheVariants.{JournalFull, SnapshotRunning, StoreBroken}
pub use Rattle.tp_book.specs.declared.state.NetState.{NetState}
pub use Rattle.tp_replay.specs.Flat.{CanCount}
pub use Rattle.tp_turn.proofs.Adding.{others_stay}
pub use Rattle.tp_turn.proofs.Hosting.{nodes_stay}
pub use Rattle.tp_turn.specs.Hosted.{HostAdded}
pub use Rattle.tp_turn.specs.Moments.{Added, IsNodeOf}
pub use Rattle.tp_disk.specs.Reads.{AreTrue}
pub use Rattle.tp_area.specs.Other.{OtherIsClosed}
pub use Rattle.tp_shared.proofs.Hosting.{hosted_input}
pub use Rattle.tp_shared.specs.BookActs.{HostActed}
