-- If the other area spells what was copied, opening chooses it once its gate is open; and so a checkpoint is a run.
use Rattle.std.proofs.Common.{◌≡◌, ℕ, ◌+◌, ◌<◌, ◌≤◌, false, not, cond, List, [], ◌∷◌, ◌++◌, length, get_or, refl, sym, ap, subst, ◌∙◌, arith, Some, None, Ok}
use Rattle.std.specs.Prelude.{map}
use Rattle.tp_law_device.proofs.Lower.{AllByRecursion, lt-ltb, Entry, Form, NodeState, t414, t414_ends, Machine, Network, EndsSeen, WholeCut, trimmed, Moment, Call, Write, Sync, written, done, within, IsWithin, all_done, put_calls, Held, gate_open, is_open, entries_in, Opened, held_of, area_in, opening, verdict, device_areas, other_start, other_is_open, other_content, spare_of, if_newer, other_of, Resting, Tail, Opening, AfterOpening, switching, switch_done, World, Event, CopiesTail, Does, Trims, Run, HasCut, copy_of, may_be_written, loose_may, length-written, get_or-written_outside, get_or-written_inside, tail_run, run_then}
use Rattle.tp_law_device.specs.Checkpoints.{SpellsCopy, Switches}
use Rattle.tp_law_device.proofs.Wires.{has_shape}
use Rattle.tp_law_device.proofs.Heads.{head_parts}
use Rattle.tp_law_device.proofs.SpeltAreas.{SpeltArea, area_spelt, end_of_groups}
use Rattle.tp_law_device.proofs.Stand.{spelt_area}
use Rattle.tp_law_device.proofs.Opens.{reads_of, held_from}
use Rattle.tp_law_device.proofs.Spare.{spare_fits, loose_keeps, loose_spare, loose_gate}
use Rattle.tp_law_device.proofs.Switches.{other_within, gate_switches}
use Rattle.tp_law_device.proofs.Holds.{areas_keep}

-- ## What the other area is, by its spelling

module _ (M : Machine NodeState) (E : EndsSeen NodeState) (bytes : List ℕ) (o : Opened) (is : opening M E bytes ≡ Ok o) (closed : other_is_open o bytes ≡ false)
    (generation : ℕ) (form : Form) (base : ℕ) (s : Network NodeState) (groups : List (List (Entry × ℕ))) (now : Network NodeState)
    (spelt : SpeltArea M E o.head.topology (other_content o bytes) generation form base s groups now) (later : o.generation < generation) where
  -- what it opens as
  abbrev pub other_opened : Opened
  other_opened = record {
    head = o.head;
    second = not o.second;
    generation = generation;
    form = form;
    base = base;
    cut = s;
    kept = entries_in groups;
    now = now;
    end = end_of_groups o.head (not o.second) groups;
  }

  other_read : area_in M E o.head (not o.second) (other_content o bytes) ≡ Ok other_opened
  other_read =
      let topology = (head_parts bytes o.head (reads_of M E bytes o is).head).topology in
      area_spelt M E o.head (not o.second) (has_shape o.head.topology topology) (other_content o bytes) generation form base s groups now spelt

  pub other_spelt : other_of M E (opening M E bytes) bytes ≡ Some (other_start o, held_of other_opened)
  unfolding other_of
  other_spelt =
      (λ i. other_of M E (is i) bytes)
      ∙ (λ i. cond (closed i) None (if_newer o (other_read i)))
      ∙ (λ i. cond (lt-ltb o.generation generation later i) (Some (other_start o, held_of other_opened)) None)

  -- with its gate open the device opens as that
  pub other_opens : opening M E (written bytes (other_start o) gate_open) ≡ Ok other_opened
  other_opens =
      let R = reads_of M E bytes o is in
      let place = other_start o in
      let room : place + length gate_open ≤ length bytes = omega (arith, other_within M E bytes o R) in
      let left = written bytes place gate_open in
      let opened : get_or left place 0 ≡ get_or gate_open 0 0 = ap (λ q. get_or left q 0) (omega arith) ∙ get_or-written_inside bytes place gate_open room 0 (omega arith) in
      gate_switches M E bytes o R left (length-written bytes place gate_open room) (get_or-written_outside bytes place gate_open room) other_opened other_read later (ap (λ byte. is_open byte) opened)

-- ## Pieces that are written after its gate

module _ (M : Machine NodeState) (E : EndsSeen NodeState) (o : Opened) where
  -- the device opens as it did, and the other area is closed
  record Keeps (bytes : List ℕ) (spare : ℕ × ℕ) : Type 0 where
    opens : opening M E bytes ≡ Ok o
    closed : other_is_open o bytes ≡ false
    range : spare_of (opening M E bytes) bytes ≡ spare

  put_keeps : (bytes : List ℕ) (spare : ℕ × ℕ) → Keeps bytes spare → (at : ℕ) (piece : List ℕ) → IsWithin spare (at, length piece) → Keeps (written bytes at piece) spare
  put_keeps bytes spare K at piece inside =
      let R = reads_of M E bytes o K.opens in
      let here : IsWithin (spare_of (opening M E bytes) bytes) (at, length piece) = subst (λ range. IsWithin range (at, length piece)) (sym K.range) inside in
      let end = here.1 in
      let room : at + length piece ≤ length bytes = omega (arith, spare_fits M E bytes o K.opens R) in
      let m : Moment = record { bytes = bytes; unsynced = [] } in
      let left = written bytes at piece in
      let may = loose_may (within (Write at piece) m) (spare_of (opening M E bytes) bytes) left (here, tt) (may_be_written m at piece room) in
      record {
        opens = loose_keeps M E bytes o K.opens R left may.same_length (λ q out beside. may.same_outside q (out, tt));
        closed = loose_gate M E bytes o K.opens R left may.same_length (λ q out beside. may.same_outside q (out, tt)) ∙ K.closed;
        range = loose_spare M E bytes o K.opens R left may.same_length (λ q out beside. may.same_outside q (out, tt)) ∙ K.range;
      }

  puts_keep : (m : Moment) (spare : ℕ × ℕ) (pieces : List (ℕ × List ℕ)) → Keeps m.bytes spare → AllByRecursion (λ piece. IsWithin spare (piece.0, length piece.1)) pieces
      → Keeps (all_done (put_calls pieces) m).bytes spare
  puts_keep m spare [] K inside = K
  puts_keep m spare (piece ∷ pieces) K inside =
      puts_keep (done (Write piece.0 piece.1) m) spare pieces (put_keeps m.bytes spare K piece.0 piece.1 inside.0) inside.1

-- after the last of other calls
all_done-sync : (calls : List Call) (m : Moment) → ◌≡◌ {A = Moment} (all_done (calls ++ Sync ∷ []) m) (record { bytes = (all_done calls m).bytes; unsynced = [] })
all_done-sync [] m = refl
all_done-sync (call ∷ calls) m = all_done-sync calls (done call m)

-- ## The checkpoint

-- as `SpellsCopy`, of a cut that is read back
pub record ReadsCopy (w : World NodeState) (o : Opened) (pieces : List (ℕ × List ℕ)) (copy : Held NodeState) (generation : ℕ) (form : Form) : Type 0 where
  pub opens : opening t414 t414_ends w.disk.bytes ≡ Ok o
  pub closed : other_is_open o w.disk.bytes ≡ false
  pub inside : AllByRecursion (λ piece. IsWithin (device_areas.spare w.disk.bytes) (piece.0, length piece.1)) pieces
  pub groups : List (List (Entry × ℕ))
  pub now : Network NodeState
  pub spelt : SpeltArea t414 t414_ends o.head.topology (other_content o (all_done (put_calls pieces) w.disk).bytes) generation form copy.base copy.network groups now
  pub entries : map (λ e. e.0) (entries_in groups) ≡ copy.entries
  pub later : o.generation < generation

pub spells_reads : (w : World NodeState) (o : Opened) (pieces : List (ℕ × List ℕ)) (copy : Held NodeState) (generation : ℕ) (form : Form) → SpellsCopy w o pieces copy generation form → ReadsCopy w o pieces copy generation form
unfolding verdict
spells_reads w o pieces copy generation form S = record {
  opens = S.opens;
  closed = S.closed;
  inside = S.inside;
  groups = S.groups;
  now = S.now;
  spelt = spelt_area t414 t414_ends o.head.topology (other_content o (all_done (put_calls pieces) w.disk).bytes) generation form copy.base copy.network S.groups S.now S.spells;
  entries = S.entries;
  later = S.later;
}

module _ (w : World NodeState) (cut : WholeCut) (nodes : List NodeState) (o : Opened) (pieces : List (ℕ × List ℕ)) (generation : ℕ) (form : Form) (rests : w.at ≡ Resting) (has : HasCut w.net cut nodes)
    (S : ReadsCopy w o pieces (copy_of w.net w.base cut nodes) generation form) where
  abbrev copy : Held NodeState
  copy = copy_of w.net w.base cut nodes

  abbrev upto : ℕ
  upto = w.base + length w.net.entries

  -- the copies of cut and tail, the pieces with the tail, and the gate
  abbrev copied : World NodeState
  copied = record w { at = Tail copy upto; backlog = [] }

  abbrev bytes : List ℕ
  bytes = (all_done (put_calls pieces) w.disk).bytes

  abbrev tailed : World NodeState
  tailed = record copied { disk = record { bytes = bytes; unsynced = [] } }

  abbrev opened : World NodeState
  opened = record tailed { disk = record { bytes = written bytes (other_start o) gate_open; unsynced = [] }; at = AfterOpening copy upto; stored = upto }

  abbrev last : World NodeState
  last = record opened { net = trimmed w.net cut nodes; base = w.base + cut.size; at = Resting }

  kept : Keeps t414 t414_ends o bytes (device_areas.spare w.disk.bytes)
  kept = puts_keep t414 t414_ends o w.disk (device_areas.spare w.disk.bytes) pieces (record { opens = S.opens; closed = S.closed; range = refl }) S.inside

  abbrev next : Opened
  next = other_opened t414 t414_ends bytes o kept.opens kept.closed generation form copy.base copy.network S.groups S.now S.spelt S.later

  holds : held_of next ≡ copy
  holds = let entries = S.entries in λ i. record { network = copy.network; entries = entries i; base = copy.base }

  other_is : device_areas.other bytes ≡ Some (other_start o, copy)
  other_is =
      other_spelt t414 t414_ends bytes o kept.opens kept.closed generation form copy.base copy.network S.groups S.now S.spelt S.later
      ∙ (λ i. Some (other_start o, holds i))

  to_tail : (events : List (Event NodeState)) × Run t414 device_areas copied events tailed
  to_tail =
      let R = tail_run t414 device_areas (areas_keep t414 t414_ends) copied (held_of o) copy upto pieces refl (held_from (opening t414 t414_ends w.disk.bytes) o (held_of o) S.opens refl) S.inside in
      (R.0, subst (λ disk. Run t414 device_areas copied R.0 (record copied { disk = disk })) (all_done-sync (put_calls pieces) w.disk) R.1)

  abbrev gate_written : World NodeState
  gate_written = record tailed { disk = done (Write (other_start o) gate_open) tailed.disk; at = Opening copy upto }

  pub checkpoint_switches : Switches w o cut nodes generation form
  unfolding verdict
  checkpoint_switches = record {
    events = CopiesTail cut nodes ∷ (to_tail.0 ++ (Does (Write (other_start o) gate_open) (Opening copy upto) ∷ Does Sync (AfterOpening copy upto) ∷ Trims copy upto cut nodes ∷ []));
    last = last;
    run = (
      copied,
      (rests, has, refl),
      run_then t414 device_areas copied tailed last to_tail.0 (Does (Write (other_start o) gate_open) (Opening copy upto) ∷ Does Sync (AfterOpening copy upto) ∷ Trims copy upto cut nodes ∷ [])
          to_tail.1
          (gate_written, (switching copy upto (other_start o) refl other_is, refl), (opened, (switch_done copy upto, refl), (last, (refl, has, refl), refl))),
    );
    rests = refl;
    net = refl;
    base = refl;
    journal = refl;
    opened = next;
    reads = other_opens t414 t414_ends bytes o kept.opens kept.closed generation form copy.base copy.network S.groups S.now S.spelt S.later;
    holds = holds;
    second = refl;
    age = refl;
    of_form = refl;
  }
