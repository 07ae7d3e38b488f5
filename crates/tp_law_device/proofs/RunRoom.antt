-- At each moment of a run its entries find room: those of the next group, and those outside a whole cut.
use Rattle.std.proofs.Common.{◌≡◌, ℕ, ◌+◌, ◌*◌, ◌≤◌, ◌⊎◌, inl, inr, List, [], ◌∷◌, length, refl, sym, ap, subst, arith, le_refl, length-append}
use Rattle.tp_law_device.proofs.Lower.{Entry, NodeState, t414, Network, process, post, MarkedNetwork, WholeCut, count_in, trimmed, Act, Begin, Record, Journal, Close, Trim, entry_room, device_areas, Position, Resting, Body, Ready, Gate, Cleared, Tail, Opening, Broken, reached, World, Event, Acts, Copies, CopiesTail, Does, Breaks, Trims, Raises, ReadsMark, Reopens, grown, HasCut, Step, HasTailRoom, FindsRoom, IsKept, has_four_links, length-pre-post, CutInvariant, whole_holds, entries_grow, Inv, At}
use Rattle.tp_model.specs.WriteOrder.{Opened}
use Rattle.tp_law_device.proofs.TailRoom.{tail_room_stays, tail_room_trim, tail_room_opened}

-- the book's entries find room, each in a group of its own; or all are on the device
abbrev pub HasGroupRoom : ℕ → World NodeState → Type 0
HasGroupRoom most w = (entry_room * length w.net.entries ≤ most) ⊎ (w.base + length w.net.entries ≤ w.stored)

pub record RunRoom (most : ℕ) (w : World NodeState) : Type 0 where
  pub tail : HasTailRoom most w.net
  pub group : HasGroupRoom most w

-- more is stored, and the rest is as it was
same_room : (most : ℕ) (w v : World NodeState) → RunRoom most w → v.net ≡ w.net → v.base ≡ w.base → w.stored ≤ v.stored → RunRoom most v
same_room most w v R net base more = record { tail = subst (HasTailRoom most) (sym net) R.tail; group = go R.group }
  where
    count : length v.net.entries ≡ length w.net.entries
    count = ap (λ (n : MarkedNetwork NodeState). length n.entries) net

    go : HasGroupRoom most w → HasGroupRoom most v
    go (inl few) = inl (omega (arith, few, count))
    go (inr all) = inr (omega (arith, all, count, base, more))

-- ## Acts

act_group : (most : ℕ) (w : World NodeState) (net : MarkedNetwork NodeState) (journal : List Entry) (act : Act) → HasGroupRoom most w → FindsRoom most w.net act → net.entries ≡ grown act w.net.entries
    → HasGroupRoom most (record w { net = net; journal = journal })
act_group most w net journal Begin R found is = subst (λ es. (entry_room * length es ≤ most) ⊎ (w.base + length es ≤ w.stored)) (sym is) R
act_group most w net journal (Record i) R found is = subst (λ es. (entry_room * length es ≤ most) ⊎ (w.base + length es ≤ w.stored)) (sym is) R
act_group most w net journal (Close line) R found is = subst (λ es. (entry_room * length es ≤ most) ⊎ (w.base + length es ≤ w.stored)) (sym is) R
act_group most w net journal Trim R found is = subst (λ es. (entry_room * length es ≤ most) ⊎ (w.base + length es ≤ w.stored)) (sym is) R
act_group most w net journal (Journal e) R found is = inl (omega (arith, found, ap length is, length-append w.net.entries (e ∷ [])))

-- ## Calls

reached_more : (start : Network NodeState) (w : World NodeState) (at : Position NodeState) → At t414 device_areas start w at → w.stored ≤ reached at w.stored
reached_more start w Resting a = le_refl w.stored
reached_more start w (Body gate es) a = le_refl w.stored
reached_more start w (Ready gate es) a = le_refl w.stored
reached_more start w (Gate gate es) a = omega arith
reached_more start w Cleared a = le_refl w.stored
reached_more start w (Tail copy upto) a = le_refl w.stored
reached_more start w (Opening copy upto) a = let C = a.1 in omega (arith, C.no_less, C.number)
reached_more start w (Opened copy upto) a = le_refl w.stored
reached_more start w Broken a = le_refl w.stored

-- ## The trim

trim_room : (most : ℕ) (w : World NodeState) (cut : WholeCut) (nodes : List NodeState) → CutInvariant t414 w.net → HasCut w.net cut nodes → RunRoom most w
    → RunRoom most (record w { net = trimmed w.net cut nodes; base = w.base + cut.size; at = Resting })
trim_room most w cut nodes H has R = record { tail = tail_room_trim t414 has_four_links most w.net cut nodes has.is R.tail; group = go R.group }
  where
    outside : List Entry
    outside = post (process w.net.start.wires (length w.net.start.nodes)) (count_in cut) w.net.entries

    count : cut.size + length outside ≡ length w.net.entries
    count = let C = whole_holds t414 has_four_links w.net H cut has.is in omega (arith, C.size, length-pre-post (process w.net.start.wires (length w.net.start.nodes)) (count_in cut) w.net.entries)

    go : HasGroupRoom most w → (entry_room * length outside ≤ most) ⊎ (w.base + cut.size + length outside ≤ w.stored)
    go (inl few) = inl (omega (arith, few, count))
    go (inr all) = inr (omega (arith, all, count))

-- ## Each event

pub step_room : (most : ℕ) (start : Network NodeState) (w v : World NodeState) (event : Event NodeState) → Inv t414 device_areas start w → RunRoom most w → IsKept most w event
    → Step t414 device_areas w event v → RunRoom most v
step_room most start w v (Acts act) I R keeps s =
    subst (RunRoom most) (sym s.3) (record {
      tail = tail_room_stays t414 has_four_links most w.net s.1 act s.0 I.net s.2 keeps.1 R.tail;
      group = act_group most w s.1 (grown act w.journal) act R.group keeps.1 (entries_grow t414 w.net s.1 act s.0 s.2);
    })
step_room most start w v Copies I R keeps s = subst (RunRoom most) (sym s.1) (record { tail = R.tail; group = R.group })
step_room most start w v (CopiesTail cut nodes) I R keeps s = subst (RunRoom most) (sym s.2) (record { tail = R.tail; group = R.group })
step_room most start w v (Does call to) I R keeps s =
    same_room most w v R (ap (λ (x : World NodeState). x.net) s.1) (ap (λ (x : World NodeState). x.base) s.1)
    (subst (λ n. w.stored ≤ n) (sym (ap (λ (x : World NodeState). x.stored) s.1)) (reached_more start w w.at I.at))
step_room most start w v (Breaks call to bytes) I R keeps s = subst (RunRoom most) (sym s.2) (record { tail = R.tail; group = R.group })
step_room most start w v (Trims copy upto cut nodes) I R keeps s = subst (RunRoom most) (sym s.2) (trim_room most w cut nodes I.net s.1 R)
step_room most start w v Raises I R keeps s = subst (RunRoom most) (sym s) (record { tail = R.tail; group = R.group })
step_room most start w v ReadsMark I R keeps s = subst (RunRoom most) (sym s) (record { tail = R.tail; group = R.group })
step_room most start w v (Reopens bytes h now) I R keeps s =
    subst (RunRoom most) (sym s.1) (record {
      tail = tail_room_opened t414 has_four_links most _ refl;
      group = inr (le_refl (h.base + length h.entries));
    })
