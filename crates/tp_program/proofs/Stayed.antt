-- The area to which a device opens has its gate open, and the generation that opening answers.
use Rattle.std.proofs.Common.{◌≡◌, ◌+◌, ◌∙◌, ℕ, Bool, true, List, Ok, ap, sym, arith}
use Rattle.tp_program.proofs.Lower.{place_at, opening_place, own_open, is_placed, place_lies, HasStayed, area_kept, kept_start, AreaFront, u64_at, t414, t414_ends, Opened, verdict, generation_of-content}

pub opened_stays : (bytes : List ℕ) (o : Opened) → verdict bytes ≡ Ok o → HasStayed (area_kept o) bytes
unfolding verdict
opened_stays bytes o is =
    let placed = is_placed bytes (place_at o) (opening_place t414 t414_ends bytes o is) in
    let lies = place_lies (place_at o) bytes placed in
    let behind = lies.behind in
    let inside = lies.inside in
    let gate = own_open o.head.areas o.second bytes placed.second in
    let number = generation_of-content o.head.areas o.second bytes (omega arith) in
    ap (λ (b : Bool). let front : AreaFront = record { is_open = b; generation = u64_at bytes (kept_start (area_kept o) + 1) } in front) gate
    ∙ ap (λ (n : ℕ). let front : AreaFront = record { is_open = true; generation = n } in front) (sym number ∙ placed.generation)
