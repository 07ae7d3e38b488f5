-- What definitions and contracts here name of the crates below.
pub use Rattle.std.specs.List.{AllByRecursion, range_with_len}
pub use Rattle.std.specs.declared.alloc.Global.{Global}
pub use Rattle.tp_model.specs.Acts.{Act, Begin, Close, Journal, Record, Trim}
unfoldable pub use Rattle.tp_model.specs.Acts.{acted}
pub use Rattle.tp_model.specs.CutImage.{only_if}
unfoldable pub use Rattle.tp_model.specs.Entries.{process}
pub use Rattle.tp_model.specs.Format.{fresh_node, fresh_port}
pub use Rattle.tp_model.specs.Image.{has_idle_links, page_count}
unfoldable pub use Rattle.tp_model.specs.Image.{node_at, node_of}
pub use Rattle.tp_model.specs.Markers.{before}
pub use Rattle.tp_model.specs.Network.{Network, Port, back, is_first, on_line, receiver}
unfoldable pub use Rattle.tp_model.specs.Network.{steps}
pub use Rattle.tp_model.specs.Node.{holds, t414, waits}
unfoldable pub use Rattle.tp_model.specs.Node.{node_step, took}
pub use Rattle.tp_model.specs.NodeState.{NodeState}
pub use Rattle.tp_model.specs.NodeWrites.{kept_behind_steps}
unfoldable pub use Rattle.tp_model.specs.NodeWrites.{node_ranges, took_ranges}
unfoldable pub use Rattle.tp_model.specs.Order.{after}
pub use Rattle.tp_model.specs.SharedPages.{LacksFrames, kept_behind}
pub use Rattle.tp_model.specs.Sound.{acks, datas}
pub use Rattle.tp_model.specs.Turn.{by_link, received}
unfoldable pub use Rattle.tp_model.specs.Turn.{took_all, turned}
pub use Rattle.tp_model.specs.Word.{bit}
pub use Rattle.tp_model.specs.declared.entry.Entry.{Entry}
pub use Rattle.tp_model.specs.declared.entry.Entry.TheVariants.{Take}
pub use Rattle.tp_model.specs.declared.form.Form.{Form}
pub use Rattle.tp_model.specs.declared.form.Form.TheVariants.{Plain, Turns}
pub use Rattle.tp_model.specs.declared.limits.TheConstants.{MAX_STEPS}
pub use Rattle.tp_model.specs.declared.link.Received.{Received}
pub use Rattle.tp_model.specs.declared.link.Received.TheVariants.{Nothing}
pub use Rattle.tp_model.specs.declared.link.Token.{Token}
pub use Rattle.tp_model.specs.declared.link.Token.TheVariants.{Ack, Data, Marker}
pub use Rattle.tp_model.specs.declared.wire.WireEnd.{WireEnd}
pub use Rattle.tp_model.specs.declared.wire.WireEnd.TheVariants.{Link, Port as AtPort}
pub use Rattle.tp_law_machine.specs.NodeOfBytes.{IsNodeOfBytes}
pub use Rattle.tp_law_network.specs.Reserved.{IsReceived, turn_acts, turn_entries}
pub use Rattle.tp_node.specs.NodeContents.{NodeContents, memory_kept}
pub use Rattle.tp_node.specs.RunEnd.{IsWhy, RunEnd}
pub use Rattle.tp_node.specs.Standing.{standing}
pub use Rattle.tp_node.specs.declared.standing.Standing.{Standing}
pub use Rattle.tp_book.specs.Acts.{run_acts, run_entries}
pub use Rattle.tp_book.specs.Book.{BookValue, count_of_nodes, next_in_book, world_of}
unfoldable pub use Rattle.tp_book.specs.Book.{agreed}
pub use Rattle.tp_book.specs.Calls.{front_of, with_run, without_run}
pub use Rattle.tp_book.specs.Dropped.{network_now}
pub use Rattle.tp_book.specs.Marked.{after_close_over, is_closable}
pub use Rattle.tp_book.specs.Needs.{has_recorded_in, is_asked}
pub use Rattle.tp_book.specs.Parts.{network_made}
pub use Rattle.tp_book.specs.Refusals.{IsAnswer, else_if, host_refusal, is_full_for, needs_take, ready_refusal, reserve_refusal, take_refusal, takeable_of}
pub use Rattle.tp_book.specs.Turning.{takes_refusal}
pub use Rattle.tp_book.specs.declared.refusal.Refusal.{Refusal}
pub use Rattle.tp_book.specs.declared.refusal.Refusal.TheVariants.{JournalFull, Memory, NothingToTake, PortFull, SnapshotRunning, StoreBroken}
