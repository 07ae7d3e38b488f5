-- The entries of a receipt that is acknowledged are among those that opening replays, each at its number.
use Rattle.std.proofs.Common.{◌≡◌, ℕ, ◌+◌, ◌≤◌, List, ◌++◌, length, take, drop, refl, sym, ap, subst, ◌∙◌, arith, length-append}
use Rattle.tp_law_device.proofs.Lower.{AllByRecursion, take-take, take_all, drop-take, drop_at, length-map, Entry, NodeState, t414, t414_ends, Network, after, MayBe, next_number, device_areas, next_of, held_of, opening, verdict, OpensTo, IsAcknowledged, World, Event, Run, BeginsFormatted, Recovers, has_four_links, never_marks, acknowledged}
use Rattle.tp_law_device.proofs.Opens.{held_from}
use Rattle.tp_law_device.proofs.Holds.{areas_keep}
use Rattle.tp_law_device.proofs.Verdicts.{verdict_leads}

module _ (start : Network NodeState) (w : World NodeState) (bytes : List ℕ) (O : OpensTo start w bytes) where
  number_is : next_of O.opened ≡ next_number (held_of O.opened)
  number_is = ap (λ n. O.opened.base + n) (sym (length-map O.opened.kept (λ (e : Entry × ℕ). e.0)))

  -- what opens like this recovers
  opens_recovers : Recovers t414 device_areas start w bytes
  unfolding verdict
  opens_recovers = record {
    held = held_of O.opened;
    reads = held_from (opening t414 t414_ends bytes) O.opened (held_of O.opened) O.is refl;
    now = O.opened.now;
    replayed = verdict_leads bytes O.opened O.is;
    no_more = omega (arith, O.no_more, number_is);
    exact = ap (λ n. after t414 start (take n w.journal)) (sym number_is) ∙ O.exact;
    no_less = subst (λ n. AllByRecursion (λ m. m ≤ n) w.seen) number_is O.no_less;
  }

  held_number : next_number opens_recovers.held ≡ next_of O.opened
  unfolding opens_recovers
  held_number = sym number_is

pub receipts_held : (start : Network NodeState) (before : List (Event NodeState)) (first made last : World NodeState) → BeginsFormatted t414 device_areas start first → Run t414 device_areas first before made
    → (earlier entries : List Entry) → made.journal ≡ earlier ++ entries → IsAcknowledged t414 device_areas (length made.journal) made last
    → (bytes : List ℕ) → MayBe last.disk bytes → (O : OpensTo start last bytes)
    → take (length entries) (drop (length earlier) (take (next_of O.opened) last.journal)) ≡ entries
receipts_held start before first made last formatted run earlier entries parts a bytes may O =
    let r = opens_recovers start last bytes O in
    let number = held_number start last bytes O in
    let H = acknowledged t414 has_four_links never_marks device_areas (areas_keep t414 t414_ends) start before first made last formatted run (length made.journal) (omega arith) a bytes may r in
    let low = H.0 in
    let count : length earlier + length entries ≡ length made.journal = omega (arith, ap length parts, length-append earlier entries) in
    let held = take (next_of O.opened) last.journal in
    let there : take (length made.journal) held ≡ earlier ++ entries =
    take-take (length made.journal) (next_of O.opened) last.journal (omega arith) ∙ H.1 ∙ take_all (length made.journal) made.journal (omega arith) ∙ parts in
    sym (drop-take (length earlier) (length entries) held)
    ∙ ap (λ n. drop (length earlier) (take n held)) count
    ∙ ap (drop (length earlier)) there
    ∙ drop_at earlier entries (length earlier) refl
