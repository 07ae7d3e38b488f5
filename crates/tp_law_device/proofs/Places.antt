-- What a write leaves of an area's content: a piece is in it, or it is elsewhere.
use Rattle.std.proofs.Common.{◌≡◌, ℕ, ◌+◌, ◌-◌, ◌<◌, ◌≤◌, ◌⊎◌, inl, inr, Bool, List, length, get_or, sym, ap, ◌∙◌, arith}
use Rattle.tp_law_device.proofs.Lower.{cases_lt, same_number_lists, TwoAreas, written, area_start, content_of, length-written, get_or-written_outside, get_or-written_inside}
use Rattle.tp_law_device.proofs.Contents.{length-content_of, get_or-content_of, content_same}

-- as of a group in the open area, or of a gate
pub content_elsewhere : (areas : TwoAreas) (second : Bool) (bytes : List ℕ) (at : ℕ) (more : List ℕ) → 1 ≤ areas.length → at + length more ≤ length bytes
    → (at + length more ≤ area_start areas second + 1) ⊎ (area_start areas second + areas.length ≤ at) → content_of areas second (written bytes at more) ≡ content_of areas second bytes
content_elsewhere areas second bytes at more some room apart =
    content_same areas second bytes (written bytes at more) (length-written bytes at more room) (λ q low high. get_or-written_outside bytes at more room q (side q low high apart))
  where
    side : (q : ℕ) → area_start areas second + 1 ≤ q → q < area_start areas second + 1 + (areas.length - 1) → (at + length more ≤ area_start areas second + 1) ⊎ (area_start areas second + areas.length ≤ at)
        → (q < at) ⊎ (at + length more ≤ q)
    side q low high (inl front) = inr (omega (arith, low, front))
    side q low high (inr behind) = inl (omega (arith, high, behind, some))

pub content_put : (areas : TwoAreas) (second : Bool) (bytes : List ℕ) (at : ℕ) (piece : List ℕ) → area_start areas second + areas.length ≤ length bytes → at + length piece < areas.length
    → content_of areas second (written bytes (area_start areas second + 1 + at) piece) ≡ written (content_of areas second bytes) at piece
content_put areas second bytes at piece within inside =
    let place = area_start areas second + 1 + at in
    let content = content_of areas second bytes in
    let room : place + length piece ≤ length bytes = omega (arith, within, inside) in
    let new = written bytes place piece in
    let size = length-written bytes place piece room in
    let long = length-content_of areas second bytes within in
    let whole = length-content_of areas second new (omega (arith, size, within)) in
    let there : at + length piece ≤ length content = omega (arith, long, inside) in
    same_number_lists (content_of areas second new) (written content at piece) (whole ∙ sym long ∙ sym (length-written content at piece there))
    (λ k low.
    let here : k < areas.length - 1 = omega (arith, low, whole) in
    get_or-content_of areas second new k here
    ∙ elim (cases_lt k at) [
      | inl front ↦
          get_or-written_outside bytes place piece room (area_start areas second + 1 + k) (inl (omega (arith, front)))
          ∙ sym (get_or-content_of areas second bytes k here)
          ∙ sym (get_or-written_outside content at piece there k (inl front))
      | inr from ↦ elim (cases_lt k (at + length piece)) [
        | inl in_it ↦
            let step : ℕ = k - at in
            ap (λ q. get_or new q 0) (omega (arith, from))
            ∙ get_or-written_inside bytes place piece room (k - at) (omega (arith, from, in_it))
            ∙ sym (get_or-written_inside content at piece there (k - at) (omega (arith, from, in_it)))
            ∙ ap (λ q. get_or (written content at piece) q 0) (omega (arith, from))
        | inr behind ↦
            get_or-written_outside bytes place piece room (area_start areas second + 1 + k) (inr (omega (arith, behind)))
            ∙ sym (get_or-content_of areas second bytes k here)
            ∙ sym (get_or-written_outside content at piece there k (inr behind))
      ]
    ])
