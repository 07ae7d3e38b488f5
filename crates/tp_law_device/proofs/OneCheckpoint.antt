-- The computed checkpoint: its run, and what the device opens to.
use Rattle.std.proofs.Common.{◌≡◌, ℕ, ◌+◌, List, [], ◌∷◌, ◌++◌, refl, sym, ap, subst, ◌∙◌, arith, le_refl, Some, Ok}
use Rattle.std.specs.Prelude.{map, max}
use Rattle.tp_law_device.proofs.Lower.{Turns, NodeState, t414, image, Network, after, Held, gate_open, Write, Sync, Opened, held_of, verdict, device_areas, Resting, Body, Ready, Gate, add_body, body_done, add_gate, gate_done, World, Event, Acts, Copies, Does, Raises, Reads, BeginsFormatted, KeptRun, one_node, one_before, sending_node, awaits, moved_on}
use Rattle.tp_law_device.specs.Checkpoints.{Switches}
use Rattle.tp_law_device.specs.FormattedWorld.{formatted_world}
use Rattle.tp_law_device.proofs.Formatted.{formatted_starts}
use Rattle.tp_law_device.proofs.Verdicts.{verdict_leads}
use Rattle.tp_law_device.specs.OneCheckpoint.{OneCheckpoint, one_areas, one_device, one_room, inside, before_snapshot, snapshot}
use Rattle.tp_law_device.proofs.ActRuns.{acts_kept, journal_after}
use Rattle.tp_law_device.proofs.OneDevice.{one_formatted, one_bytes, one_gate, one_body, one_group, grouped, grouped_bytes, grouped_opens}
use Rattle.tp_law_device.proofs.OneSnapshot.{early, late, one_cut, early_acted, late_acted, late_cut, one_copy, one_trimmed, outside_leads}
use Rattle.tp_law_device.proofs.Switching.{kept_then, cut_switches}

-- ## The worlds, one after the other

abbrev formatted : World NodeState
formatted = formatted_world one_before one_device

abbrev journalled : World NodeState
journalled = record formatted { net = early; journal = journal_after before_snapshot [] }

abbrev copied : World NodeState
copied = record journalled { backlog = inside }

abbrev body_written : World NodeState
body_written = moved_on copied (Write (one_gate + 1) one_body) (Body one_gate inside)

abbrev body_synced : World NodeState
body_synced = moved_on body_written Sync (Ready one_gate inside)

abbrev gate_written : World NodeState
gate_written = moved_on body_synced (Write one_gate gate_open) (Gate one_gate inside)

abbrev stored : World NodeState
stored = moved_on gate_written Sync Resting

abbrev raised : World NodeState
raised = record stored { mark = max stored.mark stored.stored }

abbrev read : World NodeState
read = record raised { seen = raised.mark ∷ raised.seen }

abbrev whole_world : World NodeState
whole_world = record read { net = late; journal = journal_after snapshot read.journal }

-- ## The run

abbrev stored_events : List (Event NodeState)
stored_events =
    Copies ∷ Does (Write (one_gate + 1) one_body) (Body one_gate inside) ∷ Does Sync (Ready one_gate inside) ∷ Does (Write one_gate gate_open) (Gate one_gate inside)
    ∷ Does Sync Resting ∷ Raises ∷ Reads ∷ []

abbrev snapshot_events : List (Event NodeState)
snapshot_events = map Acts snapshot

early_run : KeptRun one_room formatted (map Acts before_snapshot) journalled
early_run = acts_kept one_room formatted before_snapshot early (refl, (refl, tt)) (tt, (omega arith, tt)) (omega arith) (omega arith) early_acted

stored_run : KeptRun one_room journalled stored_events read
stored_run = (
  copied,
  (refl, refl),
  tt,
  (
    body_written,
    (add_body inside [] one_gate one_body refl one_group, refl),
    tt,
    (
      body_synced,
      (body_done inside one_gate, refl),
      tt,
      (gate_written, (add_gate inside one_gate, refl), tt, (stored, (gate_done inside one_gate, refl), tt, (raised, refl, tt, (read, refl, tt, refl)))),
    ),
  ),
)

late_run : KeptRun one_room read snapshot_events whole_world
late_run = acts_kept one_room read snapshot late (refl, (refl, (refl, (refl, (refl, (refl, tt)))))) (tt, (tt, (tt, (tt, (tt, (tt, tt)))))) (omega arith) (omega arith) late_acted

abbrev one_events : List (Event NodeState)
one_events = map Acts before_snapshot ++ (stored_events ++ snapshot_events)

one_run : KeptRun one_room formatted one_events whole_world
one_run =
    kept_then one_room formatted journalled whole_world (map Acts before_snapshot) (stored_events ++ snapshot_events) early_run
    (kept_then one_room journalled read whole_world stored_events snapshot_events stored_run late_run)

-- ## The checkpoint

begins : BeginsFormatted t414 device_areas one_before formatted
begins = formatted_starts t414 one_node one_areas Turns (image sending_node ∷ []) one_before one_device one_formatted

one_switches : Switches whole_world grouped one_cut (awaits ∷ []) 2 Turns
one_switches =
    cut_switches one_room one_before formatted begins one_bytes one_events whole_world one_run grouped one_cut (awaits ∷ []) refl grouped_bytes late_cut grouped_opens (omega arith) (le_refl one_room)

-- the network in the answer is the one that the entries lead to
opened_now : (bytes : List ℕ) (o : Opened) (h : Held NodeState) (now : Network NodeState) → verdict bytes ≡ Ok o → held_of o ≡ h → after t414 h.network h.entries ≡ Some now → o.now ≡ now
opened_now bytes o h now is holds leads =
    let both : Some o.now ≡ Some now = sym (verdict_leads bytes o is) ∙ ap (λ (k : Held NodeState). after t414 k.network k.entries) holds ∙ leads in
    cc

grouped_reads : (bytes : List ℕ) → bytes ≡ whole_world.disk.bytes → verdict bytes ≡ Ok grouped
unfolding verdict
grouped_reads bytes same = subst (λ xs. verdict xs ≡ Ok grouped) (sym same) grouped_opens

pub one_checkpoint : OneCheckpoint
one_checkpoint = record {
  formatted = one_formatted;
  events = one_events;
  w = whole_world;
  run = one_run;
  seen = refl;
  journal = refl;
  entries = refl;
  live = refl;
  first = grouped;
  reads = grouped_reads whole_world.disk.bytes refl;
  held = refl;
  in_first = (refl, refl);
  cut = one_cut;
  has = late_cut;
  switches = one_switches;
  book = one_switches.net ∙ one_trimmed;
  copy = one_switches.holds ∙ one_copy;
  now = opened_now one_switches.last.disk.bytes one_switches.opened _ _ one_switches.reads (one_switches.holds ∙ one_copy) outside_leads;
}
