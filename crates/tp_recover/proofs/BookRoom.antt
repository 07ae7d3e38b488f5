-- What a book gives finds room on its device.
use Rattle.std.proofs.Common.{◌≡◌, ℕ, ◌+◌, ◌*◌, ◌≤◌, ◌<◌, true, false, List, [], ◌∷◌, length, sym, subst, arith, Some, None, Ok}
use Rattle.std.specs.Prelude.{nat_le}
use Rattle.tp_recover.proofs.Lower.{AllByRecursion, and_parts, Entry, areas_end, IsSpelt, entry_room, is_roomy, room, t414, t414_ends, Opened, opening, verdict, head_parts, reads_of, FitsRoom, Place, append_refusal, place_at, tail_refusal, group_fits_room, tail_fits_room}

-- a device that opens has room for an entry
opened_roomy : (bytes : List ℕ) (o : Opened) → opening t414 t414_ends bytes ≡ Ok o → is_roomy o.head.topology o.head.areas.length ≡ true
opened_roomy bytes o is =
    let H = head_parts bytes o.head (reads_of t414 t414_ends bytes o is).head in
    (and_parts (nat_le (areas_end o.head.areas) (length bytes)) (is_roomy o.head.topology o.head.areas.length) H.room).1

pub book_group : (bytes : List ℕ) (o : Opened) (floor entries count : ℕ) → AllByRecursion (λ byte. byte < 256) bytes → verdict bytes ≡ Ok o
    → FitsRoom (Some (room o.head.topology o.head.areas.length)) floor entries → floor ≤ length o.kept → 1 ≤ count → length o.kept + count ≤ entries
    → append_refusal false (place_at o) count ≡ None
book_group bytes o floor entries count are is fits low some high =
    let most = fits (omega (arith, low, some, high)) in
    group_fits_room bytes o count are is some (omega (arith, most, high))

few_bytes : (most : ℕ) (tail : List (Entry × ℕ)) → FitsRoom (Some most) 0 (length tail) → entry_room * length tail ≤ most
few_bytes most [] fits = omega arith
few_bytes most (e ∷ es) fits = fits (omega arith)

pub book_tail : (bytes : List ℕ) (o : Opened) (place : Place) (tail : List (Entry × ℕ)) → verdict bytes ≡ Ok o → place.areas ≡ o.head.areas → AllByRecursion (λ e. IsSpelt e.0 e.1) tail
    → FitsRoom (Some (room o.head.topology o.head.areas.length)) 0 (length tail) → tail_refusal false place o.head.topology tail ≡ None
unfolding verdict
book_tail bytes o place tail is areas spelt fits =
    let t = o.head.topology in
    tail_fits_room t place tail (subst (λ a. is_roomy t a.length ≡ true) (sym areas) (opened_roomy bytes o is)) spelt
    (subst (λ a. entry_room * length tail ≤ room t a.length) (sym areas) (few_bytes (room t o.head.areas.length) tail fits))
