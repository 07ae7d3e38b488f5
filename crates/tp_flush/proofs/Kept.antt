-- What the flusher keeps as it reads the book, and as it raises the mark.
use Rattle.std.proofs.Common.{◌≡◌, ℕ, ◌+◌, ◌<◌, ◌≤◌, List, ◌++◌, length, refl, sym, ap, subst, ◌∙◌, Bool, arith, length-drop, ◌-◌}
use Rattle.std.specs.Prelude.{drop, max}
use Rattle.tp_flush.proofs.Lower.{Reading, AllByRecursion, Entry, NUMBER_LIMIT, IsSpelt, NodeState, t414, Network, Topology, MarkedNetwork, State, moment, Resting, device_areas, numbered, World, RunLeads, Walks, Place, unnumbered, length-entries, run_then, still_walks, RaiserValue, risen, Told, IsFirst, ToldSince}
use Rattle.tp_flush.specs.declared.progress.Progress.{Progress}
use Rattle.tp_flush.specs.Known.{Began, Known, Reached}
use Rattle.tp_flush.specs.Flushing.{Flushing, IsBacklog, KeepsWorld, OnlyLooked, Walked}
use Rattle.tp_flush.proofs.Rises.{rises_raise, rises_walk}
use Rattle.tp_flush.proofs.Looks.{base_is, copied, entries_stay, learned, learns, looks, raised, raises}

-- a run goes on
pub reached_then : (start : Network NodeState) (w v : World NodeState) → Reached start w → RunLeads t414 device_areas w v → Reached start v
reached_then start w v R L = record {
  first = R.first;
  events = R.events ++ L.events;
  formatted = R.formatted;
  run = run_then t414 device_areas R.first w v R.events L.events R.run L.run;
}

-- reading the book is a piece of a run, if the device is known
pub looked_walks : (a b : Flushing) → a.world.disk ≡ a.state.now → OnlyLooked a b → Walked a b
looked_walks a b was L =
    subst (λ (s : State). Walks t414 device_areas a.world b.world a.state s) (sym L.state) (still_walks t414 device_areas a.world b.world a.state L.led (L.disk ∙ was))

-- the flusher reads the book, and then knows more of it
pub learned_looked : (w : World NodeState) (old now : Told) (first : IsFirst old w) (since : ToldSince old now) (s : State) (reads : List Reading) (size failures : ℕ) (opened : List ℕ) (place : Place) (t : Topology) (progress : Progress)
    → OnlyLooked (record { world = w; state = s; reads = reads; size = size; failures = failures; opened = opened; place = place; topology = t; progress = progress; frozen = old.frozen })
    (record { world = learned w now; state = s; reads = reads; size = size; failures = failures; opened = opened; place = place; topology = t; progress = progress; frozen = now.frozen })
learned_looked w old now first since s reads size failures opened place t progress = record {
  led = learns w old now first since;
  at = refl;
  stored = refl;
  disk = refl;
  state = refl;
  reads = refl;
  size = refl;
  failures = refl;
  opened = refl;
  place = refl;
  topology = refl;
  progress = refl;
}

module _ (keeps : Type 0) (start : Network NodeState) (before : World NodeState) where
  abbrev pub raised_known : Known → Known
  raised_known k = record { world = raised k.world; opened = k.opened }

  pub raise_keeps : (k : Known) (s : State) (place : Place) (broken : Bool) (mark : RaiserValue) → KeepsWorld keeps start before k s place broken mark
      → KeepsWorld keeps start before (raised_known k) s place broken (risen mark place.next (moment s))
  raise_keeps k s place broken mark K = record {
    next = K.next;
    cut = K.cut;
    ends = K.ends;
    mark = ap (λ m. max m place.next) K.mark ∙ ap (max k.world.mark) K.next;
    at = K.at;
    disk = K.disk;
    reached = λ kept began. up_to kept began;
    rises = λ kept began. rises_raise start k.world (max k.world.mark k.world.stored) s (up_to kept began) (K.disk kept) (omega arith) (max mark.at place.next) mark.rises (omega (arith, K.mark, K.next)) (K.rises kept began);
  }
    where
      up_to : keeps → Began start before k.opened → Reached start (raised k.world)
      up_to kept began = reached_then start k.world (raised k.world) (K.reached kept began) (raises k.world)

  abbrev pub copied_known : Known → Told → Known
  copied_known k told = record { world = copied k.world told; opened = k.opened }

  pub copy_keeps : (k : Known) (s : State) (place : Place) (broken : Bool) (mark : RaiserValue) → KeepsWorld keeps start before k s place broken mark
      → (old now : Told) → IsFirst old k.world → ToldSince old now → k.world.at ≡ Resting → KeepsWorld keeps start before (copied_known k now) s place broken mark
  copy_keeps k s place broken mark K old now told since rests =
      let base : now.base ≡ k.world.base = base_is k.world old now told since in
      record {
        next = K.next;
        cut = omega (arith, K.cut, base);
        ends = omega (arith, K.cut, K.ends, base, length-drop (k.world.stored - now.base) now.net.entries, entries_stay k.world old now told since);
        mark = K.mark;
        at = K.at;
        disk = K.disk;
        reached = λ kept began. reached_then start k.world (copied k.world now) (K.reached kept began) (looks k.world old now told since rests);
        rises = λ kept began.
            rises_walk start k.world (copied k.world now) s s (K.reached kept began) (still_walks t414 device_areas k.world (copied k.world now) s (looks k.world old now told since rests) (K.disk kept)) mark.rises
            (K.rises kept began);
      }

  abbrev pub learned_known : Known → Told → Known
  learned_known k told = record { world = learned k.world told; opened = k.opened }

  pub learn_keeps : (k : Known) (s : State) (place : Place) (broken : Bool) (mark : RaiserValue) → KeepsWorld keeps start before k s place broken mark
      → (old now : Told) → IsFirst old k.world → ToldSince old now → KeepsWorld keeps start before (learned_known k now) s place broken mark
  learn_keeps k s place broken mark K old now told since =
      let base : now.base ≡ k.world.base = base_is k.world old now told since in
      record {
        next = K.next;
        cut = omega (arith, K.cut, base);
        ends = omega (arith, K.ends, base, entries_stay k.world old now told since);
        mark = K.mark;
        at = K.at;
        disk = K.disk;
        reached = λ kept began. reached_then start k.world (learned k.world now) (K.reached kept began) (learns k.world old now told since);
        rises = λ kept began.
            rises_walk start k.world (learned k.world now) s s (K.reached kept began) (still_walks t414 device_areas k.world (learned k.world now) s (learns k.world old now told since) (K.disk kept)) mark.rises
            (K.rises kept began);
      }

  -- where the copy begins
  pub copy_from : (k : Known) (s : State) (place : Place) (broken : Bool) (mark : RaiserValue) → KeepsWorld keeps start before k s place broken mark
      → (told : Told) → IsFirst told k.world → (told.base ≤ place.next) × (place.next ≤ told.base + length told.net.entries)
  copy_from k s place broken mark K told F =
      let entries : length told.net.entries ≡ length k.world.net.entries = ap (λ (n : MarkedNetwork NodeState). length n.entries) F.net in
      (omega (arith, F.base, K.cut, K.next), omega (arith, F.base, K.ends, K.next, entries))

  -- what was copied is the backlog
  pub copied_backlog : (k : Known) (s : State) (place : Place) (broken : Bool) (mark : RaiserValue) → KeepsWorld keeps start before k s place broken mark
      → (old now : Told) → IsFirst old k.world → ToldSince old now → now.base + length now.net.entries < NUMBER_LIMIT
      → (entries : List (Entry × ℕ)) (upto : ℕ) → (unnumbered entries ≡ drop (place.next - now.base) now.net.entries) × (upto ≡ now.base + length now.net.entries)
      → AllByRecursion (λ e. IsSpelt e.0 e.1) entries → entries ≡ numbered place.next (unnumbered entries) → IsBacklog (copied k.world now) entries upto
  copied_backlog k s place broken mark K old now told since numbers entries upto are each next =
      let base : now.base ≡ k.world.base = base_is k.world old now told since in
      let grew : length k.world.net.entries ≤ length now.net.entries = entries_stay k.world old now told since in
      let count : length entries ≡ length now.net.entries - (place.next - now.base) = sym (length-entries entries) ∙ ap length are.0 ∙ length-drop (place.next - now.base) now.net.entries in
      record {
        same = are.0 ∙ ap (λ n. drop (n - now.base) now.net.entries) K.next;
        each = each;
        next = next ∙ ap (λ n. numbered n (unnumbered entries)) K.next;
        reaches = omega (arith, are.1, count, base, grew, K.cut, K.ends, K.next);
        numbers = omega (arith, count, base, grew, numbers, K.cut, K.ends, K.next);
      }
