-- The calls of a checkpoint, one after the other, are a piece of a run.
use Rattle.std.proofs.Common.{◌≡◌, ℕ, ◌+◌, List, [], length, refl, sym, ap, subst, ◌∙◌, Some, Ok}
use Rattle.tp_area.proofs.Lower.{AllByRecursion, NodeState, t414, Topology, Moment, IsWithin, State, Called, put_calls, device_areas, Opened, held_of, verdict, WholeCut, Resting, Tail, AtOpened, World, CopiesTail, Trims, HasCut, copy_of, Walks, RestsBetweenGroups, clear_walks, pieces_walk, tail_walks, switch_walks, one_step, still_walks, walks_then}
use Rattle.tp_area.specs.Checkpointed.{checkpointed}
use Rattle.tp_area.specs.Crashes.{RestsAs}
use Rattle.tp_area.specs.Other.{Cleared, Switched, if_open, other_gate}
use Rattle.tp_area.specs.Places.{place_at}
use Rattle.tp_area.specs.Tails.{TailParts, TailPut, tail_pieces}
use Rattle.tp_area.proofs.Filling.{pieces_rest}
use Rattle.tp_area.proofs.StoreCrashes.{keep}

abbrev Piece : World NodeState → World NodeState → State → State → Type 0
Piece w v old new = Walks t414 device_areas w v old new

-- one piece after another
on : (w u v : World NodeState) (old mid new : State) → Piece w u old mid → Piece u v mid new → Piece w v old new
on w u v old mid new first then = walks_then t414 device_areas w u v old mid new first then

pub checkpoint_walks : (w : World NodeState) (o : Opened) (cut : WholeCut) (nodes : List NodeState) (t : Topology) (p : TailParts) (pieces : List (ℕ × List ℕ)) (rested cleared put filled switched : State)
    → w.at ≡ Resting → w.disk ≡ rested.now → HasCut w.net cut nodes → verdict rested.now.bytes ≡ Ok o → RestsAs (held_of o) rested → Cleared (place_at o) rested cleared
    → AllByRecursion (λ piece. IsWithin (device_areas.spare cleared.now.bytes) (piece.0, length piece.1)) pieces → Called (put_calls pieces) cleared put
    → AllByRecursion (λ piece. IsWithin (device_areas.spare put.now.bytes) (piece.0, length piece.1)) (tail_pieces (other_gate (place_at o) + 1) t (o.generation + 1) p)
    → TailPut (place_at o) t p put filled → device_areas.other filled.now.bytes ≡ Some (other_gate (place_at o), copy_of w.net w.base cut nodes) → Switched (place_at o) filled switched
    → Walks t414 device_areas w (checkpointed w cut nodes switched) rested switched × RestsAs (copy_of w.net w.base cut nodes) switched
checkpoint_walks w o cut nodes t p pieces rested cleared put filled switched at was has opens rests C inside P behind T other S =
    let h = held_of o in
    let gate = other_gate (place_at o) in
    let upto = w.base + length w.net.entries in
    let copy = copy_of w.net w.base cut nodes in
    let found : device_areas.open_other w.disk.bytes ≡ if_open gate rested.now.bytes = ap (λ (m : Moment). device_areas.open_other m.bytes) was ∙ C.asked o opens in
    let w1 : World NodeState = record w { disk = cleared.now } in
    let w2 : World NodeState = record w { disk = put.now } in
    let w3 : World NodeState = record w { disk = put.now; at = Tail copy upto; backlog = [] } in
    let w4 : World NodeState = record w { disk = filled.now; at = Tail copy upto; backlog = [] } in
    let w5 : World NodeState = record w { disk = switched.now; at = AtOpened copy upto; backlog = []; stored = upto } in
    let w6 : World NodeState = checkpointed w cut nodes switched in
    let r1 : RestsAs h cleared = C.rests h rests in
    let r2 : RestsAs h put = subst (λ (m : Moment). RestsBetweenGroups device_areas h m) (sym P.now) (pieces_rest t414 device_areas keep h pieces cleared.now r1 inside) in
    let first : Piece w w1 rested cleared = (clear_walks t414 device_areas w rested cleared (if_open gate rested.now.bytes) at was found).done C.called in
    let second : Piece w1 w2 cleared put = (pieces_walk t414 device_areas keep w1 cleared put h pieces at refl r1.reads inside).done P in
    let third : Piece w2 w3 put put = still_walks t414 device_areas w2 w3 put (one_step t414 device_areas w2 w3 (CopiesTail cut nodes) refl (at, has, refl)) refl in
    let fourth : Piece w3 w4 put filled = (tail_walks t414 device_areas keep w3 put filled h copy upto (tail_pieces (gate + 1) t (o.generation + 1) p) refl refl r2.reads behind).done T.called in
    let fifth : Piece w4 w5 filled switched = (switch_walks t414 device_areas w4 filled switched copy upto gate refl refl T.synced other).done S.called in
    let sixth : Piece w5 w6 switched switched = still_walks t414 device_areas w5 w6 switched (one_step t414 device_areas w5 w6 (Trims copy upto cut nodes) refl (refl, has, refl)) refl in
    let put_there : Piece w w3 rested put = on w w2 w3 rested put put (on w w1 w2 rested cleared put first second) third in
    let last : Piece w3 w6 put switched = on w3 w5 w6 put switched switched (on w3 w4 w5 put filled switched fourth fifth) sixth in
    (on w w3 w6 rested put switched put_there last, S.rests h copy gate (T.rests h r2).reads other)
