-- Acts as events of a run in which each entry is made with room for it.
use Rattle.std.proofs.Common.{◌≡◌, ℕ, ◌+◌, ◌*◌, ◌<◌, ◌≤◌, false, List, [], ◌∷◌, length, refl, sym, ap, arith, length-append, Some}
use Rattle.std.specs.Prelude.{map}
use Rattle.tp_law_device.proofs.Lower.{AllByRecursion, Entry, NUMBER_LIMIT, NodeState, t414, entry_room, MarkedNetwork, Act, Begin, Record, Journal, Close, Trim, happens, acted, FindsRoom, HasByte, ActKeeps, KeptRun, World, Acts, grown, is_trim, bind_some, entries_grow}

-- the journal after acts
abbrev pub journal_after : List Act → List Entry → List Entry
journal_after [] journal = journal
journal_after (act ∷ acts) journal = journal_after acts (grown act journal)

-- an entry that is made carries a byte
abbrev pub ActHasByte : Act → Type 0
ActHasByte (Journal e) = HasByte e
ActHasByte _ = Unit {0}

grown_few : (act : Act) (es : List Entry) → length (grown act es) ≤ length es + 1
grown_few Begin es = omega arith
grown_few (Record i) es = omega arith
grown_few (Journal e) es = omega (arith, length-append es (e ∷ []))
grown_few (Close line) es = omega arith
grown_few Trim es = omega arith

act_kept : (most number : ℕ) (net : MarkedNetwork NodeState) (act : Act) → ActHasByte act → number + 1 < NUMBER_LIMIT → entry_room * (length net.entries + 1) ≤ most
    → ActKeeps number act × FindsRoom most net act
act_kept most number net Begin byte low few = (tt, tt)
act_kept most number net (Record i) byte low few = (tt, tt)
act_kept most number net (Journal e) byte low few = ((byte, low), few)
act_kept most number net (Close line) byte low few = (tt, tt)
act_kept most number net Trim byte low few = (tt, tt)

pub acts_kept : (most : ℕ) (w : World NodeState) (acts : List Act) (net : MarkedNetwork NodeState) → AllByRecursion (λ act. is_trim act ≡ false) acts → AllByRecursion ActHasByte acts
    → w.base + length w.net.entries + length acts < NUMBER_LIMIT → entry_room * (length w.net.entries + length acts) ≤ most → acted t414 w.net acts ≡ Some net
    → KeptRun most w (map Acts acts) (record w { net = net; journal = journal_after acts w.journal })
unfolding acted
acts_kept most w [] net none bytes low few e = let same : w.net ≡ net = cc in ap (λ n. record w { net = n }) (sym same)
acts_kept most w (act ∷ acts) net none bytes low few e =
    let F = bind_some (happens t414 w.net act) (λ u. acted t414 u acts) net e in
    let u : World NodeState = record w { net = F.0; journal = grown act w.journal } in
    let more : length u.net.entries ≤ length w.net.entries + 1 = omega (arith, ap length (entries_grow t414 w.net F.0 act none.0 F.1), grown_few act w.net.entries) in (
      u,
      (none.0, F.0, F.1, refl),
      act_kept most (w.base + length w.net.entries) w.net act bytes.0 (omega (arith, low)) (omega (arith, few)),
      acts_kept most u acts net none.1 bytes.1 (omega (arith, low, more)) (omega (arith, few, more)) F.2,
    )
