-- What each moment of a run over a device that was formatted has.
use Rattle.std.proofs.Common.{◌≡◌, ℕ, ◌+◌, ◌≤◌, List, [], ◌++◌, length, ap, subst, ◌∙◌, Some, slice_get}
use Rattle.tp_law_device.proofs.Lower.{count_by, NodeState, t414, t414_ends, Network, Port, on_line, process, after, pre, post, accepted, came_out, is_input, is_output, plain_network, Sound, WholeCut, count_in, whole, Held, opening, verdict, device_areas, World, Event, Run, BeginsFormatted, has_four_links, never_marks, keeps_flight, after_counted, journal_leads, kept_leads, stays_sound, three_tokens, snapshots}
use Rattle.tp_law_device.proofs.Holds.{areas_keep}
use Rattle.tp_law_device.proofs.Opens.{held_opened}
use Rattle.tp_law_device.proofs.Verdicts.{verdict_sound}

module _ (start : Network NodeState) (events : List (Event NodeState)) (first last : World NodeState)
    (formatted : BeginsFormatted t414 device_areas start first) (run : Run t414 device_areas first events last) where
  -- the device opens as the start, so that is sound
  start_sound : Sound t414_ends start
  unfolding verdict
  start_sound =
      let F = held_opened (opening t414 t414_ends first.disk.bytes) (record { network = start; entries = []; base = 0 }) formatted.reads in
      subst (Sound t414_ends) (ap (λ (h : Held NodeState). h.network) F.2) (verdict_sound first.disk.bytes F.0 F.1).0

  pub live_sound : Sound t414_ends last.net.live
  live_sound = stays_sound t414 has_four_links never_marks device_areas (areas_keep t414 t414_ends) start events first last formatted run t414_ends keeps_flight start_sound

  pub few_tokens : (line : ℕ) → length (on_line last.net.live.lines line) ≤ 3
  few_tokens = three_tokens t414 has_four_links never_marks device_areas (areas_keep t414 t414_ends) start events first last formatted run t414_ends keeps_flight start_sound

  -- the entries in a cut and then those outside it are possible too
  pub both_orders : (cut : WholeCut) → whole last.net ≡ Some cut
      → after t414 last.net.start (pre (process last.net.start.wires (length last.net.start.nodes)) (count_in cut) last.net.entries ++ post (process last.net.start.wires (length last.net.start.nodes)) (count_in cut) last.net.entries) ≡ Some (plain_network last.net.live)
  both_orders cut is =
      let C = snapshots t414 has_four_links never_marks device_areas (areas_keep t414 t414_ends) start events first last formatted run cut is in
      C.same ∙ kept_leads t414 has_four_links never_marks device_areas (areas_keep t414 t414_ends) start events first last formatted run

  pub ports_counted : (p : ℕ) (port : Port) → slice_get start.ports p ≡ Some port
      → (later : Port) × (slice_get last.net.live.ports p ≡ Some later)
      × (accepted later ≡ accepted port + count_by (is_input p) last.journal) × (came_out later ≡ came_out port + count_by (is_output start.wires p) last.journal)
  ports_counted =
      after_counted t414 has_four_links start (plain_network last.net.live) last.journal
      (journal_leads t414 has_four_links never_marks device_areas (areas_keep t414 t414_ends) start events first last formatted run)
