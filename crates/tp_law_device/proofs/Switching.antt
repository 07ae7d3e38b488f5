-- Whenever the flusher rests, a run switches to a cut that is whole.
use Rattle.std.proofs.Common.{◌≡◌, ℕ, ◌+◌, ◌-◌, ◌<◌, ◌≤◌, true, false, cond, inl, inr, List, [], ◌∷◌, ◌++◌, length, take, drop, get_or, refl, sym, ap, subst, ◌∙◌, arith, le_refl, Some, None, Ok}
use Rattle.std.specs.Prelude.{map}
use Rattle.tp_law_device.proofs.Lower.{cases_Bool, Entry, NUMBER_LIMIT, GATE_CLOSED, Turns, NodeState, t414, t414_ends, Network, WholeCut, room, Write, Sync, done, written, IsWithin, gate_closed, is_open, AreNumbered, Opened, opening, device_areas, numbered, other_start, other_is_open, spare_of, open_other_of, Allows, Resting, Cleared, clearing, clear_done, reached, left, World, Event, Does, HasCut, BeginsFormatted, Run, copy_of, KeptRun, length-written, get_or-written_outside, get_or-written_inside, AreBytes, are_bytes-append, are_bytes-take, are_bytes-drop, run_then}
use Rattle.tp_law_device.specs.Checkpoints.{Switches}
use Rattle.tp_law_device.proofs.Checkpoints.{checkpoint_switches}
use Rattle.tp_law_device.proofs.Opens.{reads_of}
use Rattle.tp_law_device.proofs.SpeltAreas.{SpeltArea}
use Rattle.tp_law_device.proofs.Stand.{spelt_area}
use Rattle.tp_law_device.proofs.Switches.{other_within, gate_keeps}
use Rattle.tp_law_device.specs.CanPut.{CanPut}
use Rattle.tp_law_device.proofs.CanPut.{run_tail_put}
use Rattle.tp_law_device.proofs.Inside.{run_tail_room}
use Rattle.tp_law_device.proofs.Other.{content_written}

-- ## Kept runs, one after the other

pub kept_then : (most : ℕ) (w u v : World NodeState) (es fs : List (Event NodeState)) → KeptRun most w es u → KeptRun most u fs v → KeptRun most w (es ++ fs) v
kept_then most w u v [] fs first then = subst (λ x. KeptRun most x fs v) first then
kept_then most w u v (e ∷ es) fs first then = (first.0, first.1, first.2, kept_then most first.0 u v es fs first.3 then)

pub kept_run : (most : ℕ) (w v : World NodeState) (es : List (Event NodeState)) → KeptRun most w es v → Run t414 device_areas w es v
kept_run most w v [] run = run
kept_run most w v (e ∷ es) run = (run.0, run.1, kept_run most run.0 v es run.3)

-- ## Entries with the numbers after a cut

pub numbered_entries : (number : ℕ) (es : List Entry) → map (λ (e : Entry × ℕ). e.0) (numbered number es) ≡ es
numbered_entries number [] = refl
numbered_entries number (e ∷ es) = ap (λ more. e ∷ more) (numbered_entries (number + 1) es)

pub numbered_numbers : (least number : ℕ) (es : List Entry) → least ≤ number → AreNumbered least number (map (λ (e : Entry × ℕ). e.1) (numbered number es))
numbered_numbers least number [] le = tt
numbered_numbers least number (e ∷ es) le = (le, le_refl number, numbered_numbers (number + 1) (number + 1) es (le_refl (number + 1)))

-- ## The other area is closed

spare_closed : (bytes : List ℕ) (o : Opened) → opening t414 t414_ends bytes ≡ Ok o → other_is_open o bytes ≡ false → spare_of (opening t414 t414_ends bytes) bytes ≡ (other_start o + 1, o.head.areas.length - 1)
unfolding spare_of
spare_closed bytes o is closed = ap (λ found. spare_of found bytes) is ∙ ap (λ b. cond b (0, 0) (other_start o + 1, o.head.areas.length - 1)) closed

closed_switches : (w : World NodeState) (o : Opened) (cut : WholeCut) (nodes : List NodeState) → w.at ≡ Resting → opening t414 t414_ends w.disk.bytes ≡ Ok o
    → other_is_open o w.disk.bytes ≡ false → HasCut w.net cut nodes → CanPut w.disk.bytes o (copy_of w.net w.base cut nodes) → Switches w o cut nodes (o.generation + 1) Turns
closed_switches w o cut nodes rests is closed has P =
    let copy = copy_of w.net w.base cut nodes in
    let C = content_written w.disk.bytes o P.content is P.long in
    let S = spelt_area t414 t414_ends o.head.topology P.content (o.generation + 1) Turns copy.base copy.network P.groups P.now P.spells in
    let spare_is = spare_closed w.disk.bytes o is closed in
    checkpoint_switches w cut nodes o ((other_start o + 1, P.content) ∷ []) (o.generation + 1) Turns rests has (record {
      opens = is;
      closed = closed;
      inside = (subst (λ range. IsWithin range (other_start o + 1, length P.content)) (sym spare_is) (le_refl (other_start o + 1), omega (arith, P.long)), tt);
      groups = P.groups;
      now = P.now;
      spelt = subst (λ content. SpeltArea t414 t414_ends o.head.topology content (o.generation + 1) Turns copy.base copy.network P.groups P.now) (sym C) S;
      entries = P.entries;
      later = omega arith;
    })

-- ## It is open, and is closed first

abbrev cleared_bytes : List ℕ → Opened → List ℕ
cleared_bytes bytes o = written bytes (other_start o) gate_closed

abbrev cleared_world : World NodeState → Opened → World NodeState
cleared_world w o = record w { disk = record { bytes = cleared_bytes w.disk.bytes o; unsynced = [] }; at = Resting }

abbrev clearing_events : Opened → List (Event NodeState)
clearing_events o = Does (Write (other_start o) gate_closed) Cleared ∷ Does Sync Resting ∷ []

open_place : (bytes : List ℕ) (o : Opened) → opening t414 t414_ends bytes ≡ Ok o → other_is_open o bytes ≡ true → open_other_of (opening t414 t414_ends bytes) bytes ≡ Some (other_start o)
unfolding open_other_of
open_place bytes o is opened = ap (λ found. open_other_of found bytes) is ∙ ap (λ b. cond b (Some (other_start o)) None) opened

cleared_run : (most : ℕ) (w : World NodeState) (o : Opened) → w.at ≡ Resting → opening t414 t414_ends w.disk.bytes ≡ Ok o → other_is_open o w.disk.bytes ≡ true
    → KeptRun most w (clearing_events o) (cleared_world w o)
cleared_run most w o rests is opened =
    let r : reached w.at w.stored ≡ w.stored = ap (λ pos. reached pos w.stored) rests in
    let l : left w.at w.backlog ≡ w.backlog = ap (λ pos. left pos w.backlog) rests in
    let u : World NodeState = record w { disk = done (Write (other_start o) gate_closed) w.disk; at = Cleared; stored = reached w.at w.stored; backlog = left w.at w.backlog } in (
      u,
      (subst (λ pos. Allows device_areas w.disk w.backlog pos (Write (other_start o) gate_closed) Cleared) (sym rests) (clearing (other_start o) (open_place w.disk.bytes o is opened)), refl),
      tt,
      (cleared_world w o, (clear_done, (λ i. record w { disk = record { bytes = cleared_bytes w.disk.bytes o; unsynced = [] }; at = Resting; stored = sym r i; backlog = sym l i })), tt, refl),
    )

-- the device opens as it did, and the other area is closed
cleared_opens : (bytes : List ℕ) (o : Opened) → opening t414 t414_ends bytes ≡ Ok o → other_is_open o bytes ≡ true
    → (opening t414 t414_ends (cleared_bytes bytes o) ≡ Ok o) × (other_is_open o (cleared_bytes bytes o) ≡ false)
cleared_opens bytes o is opened =
    let R = reads_of t414 t414_ends bytes o is in
    let place = other_start o in
    let fits_in : place + length gate_closed ≤ length bytes = omega (arith, other_within t414 t414_ends bytes o R) in
    let here : get_or (cleared_bytes bytes o) place 0 ≡ GATE_CLOSED =
    ap (λ q. get_or (cleared_bytes bytes o) q 0) (omega arith) ∙ get_or-written_inside bytes place gate_closed fits_in 0 (omega arith) in (
      gate_keeps t414 t414_ends bytes o R (cleared_bytes bytes o) (length-written bytes place gate_closed fits_in) (get_or-written_outside bytes place gate_closed fits_in) (λ now. opened),
      ap (λ byte. is_open byte) here,
    )

cleared_are_bytes : (bytes : List ℕ) (o : Opened) → AreBytes bytes → AreBytes (cleared_bytes bytes o)
cleared_are_bytes bytes o are =
    let place = other_start o in
    are_bytes-append (take place bytes ++ gate_closed) (drop (place + length gate_closed) bytes)
    (are_bytes-append (take place bytes) gate_closed (are_bytes-take place bytes are) (omega arith, tt))
    (are_bytes-drop (place + length gate_closed) bytes are)

-- ## Either way

-- as many bytes as the room of its areas are enough
module _ (most : ℕ) (start : Network NodeState) (first : World NodeState) (F : BeginsFormatted t414 device_areas start first) (first_bytes : AreBytes first.disk.bytes) where
  switches_from : (events : List (Event NodeState)) (w : World NodeState) → KeptRun most first events w → (o : Opened) (cut : WholeCut) (nodes : List NodeState) → w.at ≡ Resting → AreBytes w.disk.bytes
      → HasCut w.net cut nodes → opening t414 t414_ends w.disk.bytes ≡ Ok o → other_is_open o w.disk.bytes ≡ false → o.generation + 1 < NUMBER_LIMIT → most ≤ room o.head.topology o.head.areas.length
      → Switches w o cut nodes (o.generation + 1) Turns
  switches_from events w run o cut nodes rests are has is closed young small =
      closed_switches w o cut nodes rests is closed has
      (run_tail_put most start events first w F first_bytes run o cut nodes (numbered w.base w.net.entries) rests are has is closed
      (numbered_entries w.base w.net.entries) (numbered_numbers 0 w.base w.net.entries (omega arith)) young
      (omega (arith, small, run_tail_room most start events first w F first_bytes run cut nodes has)))

  pub cut_switches : (events : List (Event NodeState)) (w : World NodeState) → KeptRun most first events w → (o : Opened) (cut : WholeCut) (nodes : List NodeState) → w.at ≡ Resting → AreBytes w.disk.bytes
      → HasCut w.net cut nodes → opening t414 t414_ends w.disk.bytes ≡ Ok o → o.generation + 1 < NUMBER_LIMIT → most ≤ room o.head.topology o.head.areas.length
      → Switches w o cut nodes (o.generation + 1) Turns
  cut_switches events w run o cut nodes rests are has is young small = elim (cases_Bool (other_is_open o w.disk.bytes)) [
    | inr closed ↦ switches_from events w run o cut nodes rests are has is closed young small
    | inl opened ↦
        let v = cleared_world w o in
        let more = cleared_run most w o rests is opened in
        let there = cleared_opens w.disk.bytes o is opened in
        let S = switches_from (events ++ clearing_events o) v (kept_then most first w v events (clearing_events o) run more) o cut nodes refl (cleared_are_bytes w.disk.bytes o are) has there.0 there.1 young small in
        record {
          events = clearing_events o ++ S.events;
          last = S.last;
          run = run_then t414 device_areas w v S.last (clearing_events o) S.events (kept_run most w v (clearing_events o) more) S.run;
          rests = S.rests;
          net = S.net;
          base = S.base;
          journal = S.journal;
          opened = S.opened;
          reads = S.reads;
          holds = S.holds;
          second = S.second;
          age = S.age;
          of_form = S.of_form;
        }
  ]
