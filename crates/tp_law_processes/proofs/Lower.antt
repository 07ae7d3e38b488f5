-- What proofs here name of the crates below.
pub use Rattle.std.proofs.Math.Seq.{drop-append-add, take-append-add}
pub use Rattle.std.proofs.lemmas.Bool.{and_parts, cases_eq, cases_lt, leb-true, ltb-true}
pub use Rattle.std.proofs.lemmas.Grind.{flat_map-append}
pub use Rattle.std.proofs.lemmas.List.{drop_all, get_or_past, length-take-le, nil_from_length, take-append-drop, take-append-le, take-take, take_all}
pub use Rattle.std.proofs.lemmas.Option.{cond_some, get_or_from_slice_get, slice_get_cases, slice_get_within}
pub use Rattle.std.specs.Io.KnownBytes.{Appends}
pub use Rattle.std.specs.List.{AllByRecursion, enumerate_from}
pub use Rattle.std.specs.Option.{option_map}
pub use Rattle.tp_model.specs.Areas.{Held, next_number}
pub use Rattle.tp_model.specs.Counted.{accepted, is_at}
pub use Rattle.tp_model.specs.CutImage.{is_port_of}
unfoldable pub use Rattle.tp_model.specs.CutImage.{lines_in, nodes_in, ports_in}
pub use Rattle.tp_model.specs.Device.{area_start, content_of}
pub use Rattle.tp_model.specs.DeviceAreas.{device_areas}
pub use Rattle.tp_model.specs.Disk.{MayBe, Moment}
pub use Rattle.tp_model.specs.DiskHistory.{LeavesOnly, MayHaveLeft, SomeMay, State, moment}
pub use Rattle.tp_model.specs.Entries.{HasFourLinks, acked, confirmed, handed_in, in_flight, of_node, port_took}
unfoldable pub use Rattle.tp_model.specs.Entries.{does, next, of_port, process, receives}
unfoldable pub use Rattle.tp_model.specs.Flight.{flights_in}
pub use Rattle.tp_model.specs.Network.{Machine, Network, OfHost, OfNode, Own, Port, has_wire, receiver}
unfoldable pub use Rattle.tp_model.specs.Network.{put, sent, steps}
pub use Rattle.tp_model.specs.Node.{t414, t414_ends}
pub use Rattle.tp_model.specs.NodeState.{NodeState}
pub use Rattle.tp_model.specs.Opening.{Opened, base_of, lines_place, network_of, next_of, nodes_place, ports_place}
unfoldable pub use Rattle.tp_model.specs.Opening.{cut_in, opening, verdict}
unfoldable pub use Rattle.tp_model.specs.Order.{after}
pub use Rattle.tp_model.specs.Runs.{BeginsFormatted, World}
pub use Rattle.tp_model.specs.Sound.{EndsSeen}
pub use Rattle.tp_model.specs.Topology.{Topology, line_count}
pub use Rattle.tp_model.specs.Walks.{RecoversTo}
pub use Rattle.tp_model.specs.declared.entry.Entry.{Entry}
pub use Rattle.tp_model.specs.declared.entry.Entry.TheVariants.{Confirm, HostIn, Run, Take, Turn}
pub use Rattle.tp_model.specs.declared.limits.TheConstants.{MAX_HELD, MAX_STEPS}
pub use Rattle.tp_model.specs.declared.link.Token.{Token}
pub use Rattle.tp_model.specs.declared.link.Token.TheVariants.{Ack, Data, Marker}
pub use Rattle.tp_model.specs.declared.wire.WireEnd.{WireEnd}
pub use Rattle.tp_model.specs.declared.wire.WireEnd.TheVariants.{Link, Port as AtPort}
pub use Rattle.tp_law_machine.proofs.LinkLaws.{has_four_links}
pub use Rattle.tp_law_machine.proofs.Moments.{synced_may}
pub use Rattle.tp_law_network.proofs.Local.{own_host, port_step, step_of, step_shape, turn_step}
pub use Rattle.tp_law_network.proofs.Partial.{cond_some as tested, slice_get-set_other, slice_get-set_same}
pub use Rattle.tp_law_network.proofs.Reorder.{after_front, after_shape, first_possible}
pub use Rattle.tp_law_device.proofs.AreaReads.{area_parts}
pub use Rattle.tp_law_device.proofs.Faults.{bind_ok}
pub use Rattle.tp_law_device.proofs.Opens.{held_opened, reads_of}
pub use Rattle.tp_law_device.proofs.ReadCuts.{ports_read}
pub use Rattle.tp_law_device.proofs.Verdicts.{crash_opens}
pub use Rattle.tp_book.specs.Ports.{fresh_value}
pub use Rattle.tp_ready.specs.Sound.{add_if, item_of, shown}
pub use Rattle.tp_shared.proofs.BytesIn.{bytes_in-append, bytes_in-handed, bytes_in-other, bytes_in-same}
pub use Rattle.tp_shared.specs.BytesIn.{byte_in, bytes_in}
pub use Rattle.tp_shared.specs.HandedIn.{handed}
pub use Rattle.tp_flush.proofs.Follows.{held_is, now_is, number_is, read_alone}
pub use Rattle.tp_flush.specs.All.{AreAll}
pub use Rattle.tp_flush.specs.Follows.{Follows}
pub use Rattle.tp_flush.specs.Known.{Began}
pub use Rattle.tp_flush.specs.Settled.{HasFront}
pub use Rattle.tp_stream_files.specs.Outputs.{OutputValue, given_of}
pub use Rattle.tp_run.specs.HandedOver.{HandsIn}
pub use Rattle.tp_run.specs.Input.{input_entries, input_slips}
pub use Rattle.tp_run.specs.Outlet.{OutletValue}
pub use Rattle.tp_run.specs.Output.{confirms}
pub use Rattle.tp_run.specs.Outset.{outset_in}
pub use Rattle.tp_run.specs.Ran.{IsCalled, output_slips}
pub use Rattle.tp_run.specs.Shown.{LeadsToOutputs}
pub use Rattle.tp_run.specs.Worked.{Worked}
pub use Rattle.tp_run.specs.declared.fault.RunFault.{RunFault}
pub use Rattle.tp_stream.specs.Confirmed.{AreConfirmsPut, ConfirmsPut, WasPutUpto}
pub use Rattle.tp_stream.specs.HandedFrom.{HasByte}
pub use Rattle.tp_stream.specs.Put.{ArePut, AreShown, EachWith, Got, LeadsToBytes, PutPiece, port_or_fresh}
