-- The bytes of groups stay inside an area.
use Rattle.std.proofs.Common.{◌≡◌, ℕ, ◌+◌, ◌-◌, ◌*◌, ◌≤◌, inl, inr, true, List, [], ◌∷◌, ◌++◌, length, refl, sym, ap, subst, ◌∙◌, arith, length-append, Ok}
use Rattle.tp_law_device.proofs.Lower.{AllByRecursion, leb-true, length-map, Entry, NodeState, t414, t414_ends, Network, process, post, IsSpelt, rows_of, group_bytes, entry_room, room, is_roomy, Topology, Held, CopySpelt, IsSized, groups_bytes, entries_in, IsGroup, Opened, held_of, groups_place, opening, verdict, device_areas, has_room, Resting, WholeCut, count_in, World, Event, HasCut, BeginsFormatted, KeptRun, has_four_links, AreBytes, At, kept_of}
use Rattle.tp_law_device.proofs.Listings.{length-group_bytes}
use Rattle.tp_law_device.proofs.GroupsFit.{verdict_has_room}
use Rattle.tp_law_device.proofs.Opens.{held_from}
use Rattle.tp_law_device.proofs.Pieces.{groups_are}
use Rattle.tp_law_device.proofs.TailRoom.{tail_room}
use Rattle.tp_law_device.proofs.RunRoom.{HasGroupRoom}
use Rattle.tp_law_device.proofs.KeptRuns.{KeptAt, formatted_kept}

-- However entries are divided into groups, each takes no more than in a group of its own.
pub length-groups_bytes : (groups : List (List (Entry × ℕ))) → AllByRecursion IsGroup groups → length (groups_bytes groups) ≤ entry_room * length (entries_in groups)
unfolding groups_bytes
length-groups_bytes [] h = omega arith
length-groups_bytes (group ∷ groups) h =
    let first = h.0 in
    omega (arith, length-groups_bytes groups h.1, length-append (group_bytes (rows_of group)) (groups_bytes groups), length-group_bytes group first, first.some, length-append group (entries_in groups))

-- ## After a cut image

pub tail_inside : (t : Topology) (area : ℕ) (copy : Held NodeState) (tail : List (Entry × ℕ)) (groups : List (List (Entry × ℕ))) → is_roomy t area ≡ true → CopySpelt t copy tail
    → entries_in groups ≡ tail → AllByRecursion IsSized groups → entry_room * length tail ≤ room t area → groups_place t + length (groups_bytes groups) + 1 ≤ area - 1
tail_inside t area copy tail groups roomy C all sized few =
    let each = groups_are groups sized (subst (AllByRecursion (λ (e : Entry × ℕ). IsSpelt e.0 e.1)) (sym all) C.spelt) in
    omega (arith, few, ap length all, length-groups_bytes groups each, leb-true _ _ roomy)

-- ## After the groups that are there

group_inside : (bytes : List ℕ) (o : Opened) (count : ℕ) → opening t414 t414_ends bytes ≡ Ok o → 1 ≤ count
    → entry_room * (length o.kept + count) ≤ room o.head.topology o.head.areas.length → has_room o count ≡ true
unfolding verdict
group_inside bytes o count is = verdict_has_room bytes o is count

-- ## Of a run

pub run_group_inside : (most : ℕ) (start : Network NodeState) (events : List (Event NodeState)) (first w : World NodeState) → BeginsFormatted t414 device_areas start first → AreBytes first.disk.bytes → KeptRun most first events w
    → (o : Opened) (es more : List Entry) → w.at ≡ Resting → AreBytes w.disk.bytes → opening t414 t414_ends w.disk.bytes ≡ Ok o → w.backlog ≡ es ++ more → 1 ≤ length es
    → most ≤ room o.head.topology o.head.areas.length → has_room o (length es) ≡ true
run_group_inside most start events first w F bytes run o es more rests are is backlog some enough = go (KeptAt.room K).group
  where
    K : KeptAt most start w
    K = formatted_kept most start events first w F bytes run

    a : At t414 device_areas start w Resting
    a = subst (At t414 device_areas start w) rests (KeptAt.inv K).at

    kept : length o.kept ≡ length a.0.tail + length a.0.durable
    kept =
        let reads = a.1.reads in
        let same : held_of o ≡ kept_of w.net.start a.0.tail a.0.durable w.base = let both = sym (held_from (opening t414 t414_ends w.disk.bytes) o (held_of o) is refl) ∙ reads in cc in
        sym (length-map o.kept (λ (e : Entry × ℕ). e.0)) ∙ ap (λ (h : Held NodeState). length h.entries) same ∙ length-append a.0.tail a.0.durable

    entries : length w.net.entries ≡ length o.kept + (length es + length more + length a.0.rest)
    entries = omega (arith, kept, ap length a.0.own, length-append a.0.tail (a.0.durable ++ (w.backlog ++ a.0.rest)), length-append a.0.durable (w.backlog ++ a.0.rest), length-append w.backlog a.0.rest, ap length backlog, length-append es more)

    go : HasGroupRoom most w → has_room o (length es) ≡ true
    go (inl few) = group_inside w.disk.bytes o (length es) is some (omega (arith, few, entries, enough))
    go (inr all) = absurd (omega (arith, all, entries, kept, a.0.reach, a.0.count, some))

pub run_tail_room : (most : ℕ) (start : Network NodeState) (events : List (Event NodeState)) (first w : World NodeState) → BeginsFormatted t414 device_areas start first → AreBytes first.disk.bytes → KeptRun most first events w
    → (cut : WholeCut) (nodes : List NodeState) → HasCut w.net cut nodes → entry_room * length (post (process w.net.start.wires (length w.net.start.nodes)) (count_in cut) w.net.entries) ≤ most
run_tail_room most start events first w F bytes run cut nodes has =
    let K = formatted_kept most start events first w F bytes run in
    tail_room t414 has_four_links most w.net cut has.is K.room.tail
