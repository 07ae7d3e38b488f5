-- An area that spells a cut and its tail after its closed gate, at a higher generation, is what is held once that is open.
use Rattle.std.proofs.Common.{◌≡◌, ℕ, ◌+◌, ◌-◌, ◌<◌, ◌≤◌, false, not, List, length, sym, ◌∙◌, arith, Some, Ok}
use Rattle.std.specs.Prelude.{map}
use Rattle.tp_law_device.proofs.Lower.{same_number_lists, Entry, Form, NodeState, t414, t414_ends, Network, Held, written, entries_in, SpellsArea, Opened, opening, other_start, other_is_open, other_content, device_areas, length-written, get_or-written_inside}
use Rattle.tp_law_device.proofs.Contents.{places, length-content_of, get_or-content_of}
use Rattle.tp_law_device.proofs.Stand.{spelt_area}
use Rattle.tp_law_device.proofs.Checkpoints.{other_spelt as spelt_other}
use Rattle.tp_law_device.proofs.Opens.{reads_of, layout}

-- what is held then
abbrev pub held_then : ℕ → Network NodeState → List (List (Entry × ℕ)) → Held NodeState
held_then base s groups = record { network = s; entries = map (λ (e : Entry × ℕ). e.0) (entries_in groups); base = base }

pub other_spelt : (bytes : List ℕ) (o : Opened) (generation : ℕ) (form : Form) (base : ℕ) (s : Network NodeState) (groups : List (List (Entry × ℕ))) (now : Network NodeState)
    → opening t414 t414_ends bytes ≡ Ok o → other_is_open o bytes ≡ false → o.generation < generation
    → SpellsArea t414 t414_ends o.head.topology (other_content o bytes) generation form base s groups now
    → device_areas.other bytes ≡ Some (other_start o, held_then base s groups)
other_spelt bytes o generation form base s groups now is closed higher S =
    spelt_other t414 t414_ends bytes o is closed generation form base s groups now (spelt_area t414 t414_ends o.head.topology (other_content o bytes) generation form base s groups now S) higher

-- the other area's content, once it is written whole
pub content_written : (bytes : List ℕ) (o : Opened) (content : List ℕ) → opening t414 t414_ends bytes ≡ Ok o → length content ≡ o.head.areas.length - 1
    → other_content o (written bytes (other_start o + 1) content) ≡ content
content_written bytes o content is long =
    let R = reads_of t414 t414_ends bytes o is in
    let L = layout t414 t414_ends bytes o R in
    let at = other_start o + 1 in
    let areas = o.head.areas in
    let room : at + length content ≤ length bytes = omega (arith, long, L.both, L.some, places areas o.second) in
    let new = written bytes at content in
    let size = length-written bytes at content room in
    let whole = length-content_of areas (not o.second) new (omega (arith, size, L.both, places areas o.second)) in
    same_number_lists (other_content o new) content (whole ∙ sym long)
    (λ k low. get_or-content_of areas (not o.second) new k (omega (arith, whole, low)) ∙ get_or-written_inside bytes at content room k (omega (arith, whole, long, low)))
