-- What is done between two calls of the device is a piece of a run: acts of the book, copying the backlog, and raising the mark.
use Rattle.std.proofs.Common.{◌≡◌, ◌≤◌, false, List, [], ◌∷◌, map, length, refl, sym, ap, subst, ◌∙◌, Some, arith, length-append, ◌-◌}
use Rattle.std.specs.Prelude.{drop, max}
use Rattle.tp_flush.proofs.Lower.{AllByRecursion, Entry, NodeState, t414, MarkedNetwork, Act, Begin, Record, Journal, Close, Trim, acted, happens, Resting, device_areas, is_reopening, World, Event, Acts, Copies, Raises, Run, grown, is_trim, RunLeads, Told, IsFirst, ToldSince, grown_all, bind_some, entries_grow, one_step, leads_then}

-- ## The book's acts

pub acts_run : (w : World NodeState) (acts : List Act) (net : MarkedNetwork NodeState) → AllByRecursion (λ act. is_trim act ≡ false) acts → acted t414 w.net acts ≡ Some net
    → Run t414 device_areas w (map Acts acts) (record w { net = net; journal = grown_all acts w.journal })
unfolding acted
acts_run w [] net none e = let same : w.net ≡ net = cc in ap (λ n. record w { net = n; journal = w.journal }) (sym same)
acts_run w (act ∷ acts) net none e =
    let F = bind_some (happens t414 w.net act) (λ u. acted t414 u acts) net e in
    let u : World NodeState = record w { net = F.0; journal = grown act w.journal } in
    (u, (none.0, F.0, F.1, refl), acts_run u acts net none.1 F.2)

pub acts_unopened : (acts : List Act) → AllByRecursion (λ (e : Event NodeState). is_reopening e ≡ false) (map Acts acts)
acts_unopened [] = tt
acts_unopened (act ∷ acts) = (refl, acts_unopened acts)

-- an act makes no list shorter
grown-length : (act : Act) (entries : List Entry) → length entries ≤ length (grown act entries)
grown-length Begin entries = omega arith
grown-length (Record i) entries = omega arith
grown-length (Journal e) entries = omega (arith, length-append entries (e ∷ []))
grown-length (Close line) entries = omega arith
grown-length Trim entries = omega arith

-- without a trim there are no fewer entries afterwards
pub acts_keep_entries : (acts : List Act) (w v : MarkedNetwork NodeState) → AllByRecursion (λ act. is_trim act ≡ false) acts → acted t414 w acts ≡ Some v → length w.entries ≤ length v.entries
unfolding acted
acts_keep_entries [] w v none e = let same : w ≡ v = cc in omega (arith, ap (λ (u : MarkedNetwork NodeState). length u.entries) same)
acts_keep_entries (act ∷ acts) w v none e =
    let F = bind_some (happens t414 w act) (λ u. acted t414 u acts) v e in
    omega (arith, acts_keep_entries acts F.0 v none.1 F.2, grown-length act w.entries, ap length (entries_grow t414 w F.0 act none.0 F.1))

-- ## The flusher reads the book, and raises the mark

-- the world once the backlog was copied of the book that was told of
abbrev pub copied : World NodeState → Told → World NodeState
copied w told = record w { net = told.net; base = told.base; journal = told.journal; backlog = drop (w.stored - told.base) told.net.entries }

module _ (w : World NodeState) (old now : Told) (told : IsFirst old w) (since : ToldSince old now) where
  net_is : acted t414 w.net since.acts ≡ Some now.net
  net_is = ap (λ n. acted t414 n since.acts) (sym told.net) ∙ since.net

  pub base_is : now.base ≡ w.base
  base_is = since.base ∙ told.base

  pub looks : w.at ≡ Resting → RunLeads t414 device_areas w (copied w now)
  looks rests =
      let u : World NodeState = record w { net = now.net; journal = grown_all since.acts w.journal } in
      let grew : now.journal ≡ grown_all since.acts w.journal = since.journal ∙ ap (grown_all since.acts) told.journal in
      let end : copied w now ≡ record u { backlog = drop (u.stored - u.base) u.net.entries } =
      λ i. record w { net = now.net; base = base_is i; journal = grew i; backlog = drop (w.stored - base_is i) now.net.entries } in
      leads_then t414 device_areas w u (copied w now)
      (record { events = map Acts since.acts; run = acts_run w since.acts now.net since.none net_is; unopened = acts_unopened since.acts })
      (one_step t414 device_areas u (copied w now) Copies refl (rests, end))

  -- the book has no fewer entries than it had
  pub entries_stay : length w.net.entries ≤ length now.net.entries
  entries_stay = acts_keep_entries since.acts w.net now.net since.none net_is

-- the world once the flusher was told of the book
abbrev pub learned : World NodeState → Told → World NodeState
learned w told = record w { net = told.net; base = told.base; journal = told.journal }

pub learns : (w : World NodeState) (old now : Told) → IsFirst old w → ToldSince old now → RunLeads t414 device_areas w (learned w now)
learns w old now told since =
    let u : World NodeState = record w { net = now.net; journal = grown_all since.acts w.journal } in
    let grew : now.journal ≡ grown_all since.acts w.journal = since.journal ∙ ap (grown_all since.acts) told.journal in
    let end : learned w now ≡ u = λ i. record w { net = now.net; base = base_is w old now told since i; journal = grew i } in
    record { events = map Acts since.acts; run = subst (λ (v : World NodeState). Run t414 device_areas w (map Acts since.acts) v) (sym end) (acts_run w since.acts now.net since.none (net_is w old now told since)); unopened = acts_unopened since.acts }

-- the world once the mark was raised
abbrev pub raised : World NodeState → World NodeState
raised w = record w { mark = max w.mark w.stored }

pub raises : (w : World NodeState) → RunLeads t414 device_areas w (raised w)
raises w = one_step t414 device_areas w (raised w) Raises refl refl
