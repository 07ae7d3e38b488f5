-- Once its pieces are written, the copy is what the other area holds, and what opens once its gate is open.
use Rattle.std.proofs.Common.{◌≡◌, ℕ, ◌+◌, ◌<◌, false, List, ap, ◌∙◌, arith, Some, Ok}
use Rattle.std.specs.Prelude.{map}
use Rattle.tp_law_device.proofs.Lower.{AllByRecursion, Entry, NUMBER_LIMIT, Turns, NodeState, t414, t414_ends, Held, gate_open, written, entries_in, SpellsArea, Opened, opening, other_start, other_is_open, other_content, device_areas, CopySpelt, IsSized, PiecesStand, opened_copy}
use Rattle.tp_law_device.proofs.Heads.{head_parts}
use Rattle.tp_law_device.proofs.Opens.{reads_of}
use Rattle.tp_law_device.proofs.Stand.{spelt_area}
use Rattle.tp_law_device.proofs.Checkpoints.{other_opens}
use Rattle.tp_law_device.proofs.Other.{other_spelt}
use Rattle.tp_law_device.proofs.Pieces.{pieces_spell}

module _ (bytes : List ℕ) (o : Opened) (copy : Held NodeState) (tail : List (Entry × ℕ)) (groups : List (List (Entry × ℕ)))
    (is : opening t414 t414_ends bytes ≡ Ok o) (closed : other_is_open o bytes ≡ false) (young : o.generation + 1 < NUMBER_LIMIT)
    (C : CopySpelt o.head.topology copy tail) (all : entries_in groups ≡ tail) (sized : AllByRecursion IsSized groups)
    (P : PiecesStand o.head.topology (other_content o bytes) (o.generation + 1) copy groups) where
  spells : SpellsArea t414 t414_ends o.head.topology (other_content o bytes) (o.generation + 1) Turns copy.base copy.network groups C.now
  spells =
      let H = head_parts bytes o.head (reads_of t414 t414_ends bytes o is).head in
      pieces_spell o.head.topology (other_content o bytes) (o.generation + 1) copy tail groups H.topology young C all sized P

  pub copy_stands : device_areas.other bytes ≡ Some (other_start o, copy)
  copy_stands =
      let entries : map (λ (e : Entry × ℕ). e.0) (entries_in groups) ≡ copy.entries = ap (map (λ (e : Entry × ℕ). e.0)) all ∙ C.entries in
      other_spelt bytes o (o.generation + 1) Turns copy.base copy.network groups C.now is closed (omega arith) spells
      ∙ (λ i. Some (other_start o, record { network = copy.network; entries = entries i; base = copy.base }))

  pub copy_opens : opening t414 t414_ends (written bytes (other_start o) gate_open) ≡ Ok (opened_copy o copy groups C.now)
  copy_opens =
      other_opens t414 t414_ends bytes o is closed (o.generation + 1) Turns copy.base copy.network groups C.now
      (spelt_area t414 t414_ends o.head.topology (other_content o bytes) (o.generation + 1) Turns copy.base copy.network groups C.now spells) (omega arith)
