-- From what opening answers to the state that it means, whatever the bytes.
use Rattle.std.proofs.Common.{◌≡◌, ℕ, ◌+◌, ◌≤◌, List, take, refl, sym, ap, subst, ◌∙◌, arith, Some, Ok}
use Rattle.std.specs.Prelude.{map}
use Rattle.tp_law_device.proofs.Lower.{AllByRecursion, length-map, Entry, NodeState, t414, t414_ends, Machine, Network, after, EndsSeen, Sound, IsOpened, HasOrder, MayBe, next_number, device_areas, area_start, content_of, Opened, next_of, held_of, base_of, opening, verdict, OpensTo, book_of, World, Event, Run, fresh, BeginsFormatted, has_four_links, never_marks, keeps_flight, sound_after, CutInvariant, reopened_holds, run_recovers, crash_order}
use Rattle.tp_law_device.proofs.Heads.{head_parts}
use Rattle.tp_law_device.proofs.Replays.{replay_holds}
use Rattle.tp_law_device.proofs.AreaReads.{area_parts, groups_in}
use Rattle.tp_law_device.proofs.CutsAreSound.{HasParts, read_parts, parts_sound, parts_open}
use Rattle.tp_law_device.proofs.Opens.{reads_of, held_opened}
use Rattle.tp_law_device.proofs.Holds.{areas_keep}

module _ (M : Machine NodeState) (E : EndsSeen NodeState) (bytes : List ℕ) (o : Opened) (is : opening M E bytes ≡ Ok o) where
  -- the kept entries lead from the kept cut to the state
  pub opening_leads : after M o.cut (map (λ e. e.0) o.kept) ≡ Some o.now
  opening_leads =
      let R = reads_of M E bytes o is in
      let content = content_of o.head.areas o.second bytes in
      let A = area_parts M E o.head o.second content o R.area in
      let L = replay_holds M A.form A.cut (base_of content) A.replay (groups_in o.head o.second content).rows A.leads in
      let cut : o.cut ≡ A.cut = ap (λ (p : Opened). p.cut) (sym A.is) in
      let kept : o.kept ≡ A.replay.kept = ap (λ (p : Opened). p.kept) (sym A.is) in
      let now : A.replay.now ≡ o.now = ap (λ (p : Opened). p.now) A.is in
      (λ i. after M (cut i) (map (λ e. e.0) (kept i))) ∙ L.leads ∙ (λ i. Some (now i))

  cut_has : HasParts E o.head.topology o.cut
  cut_has =
      let R = reads_of M E bytes o is in
      let content = content_of o.head.areas o.second bytes in
      let A = area_parts M E o.head o.second content o R.area in
      let cut : A.cut ≡ o.cut = ap (λ (p : Opened). p.cut) A.is in
      subst (HasParts E o.head.topology) cut (read_parts E o.head.topology (area_start o.head.areas o.second + 1) content A.cut A.cut_is)

  -- what is read is sound
  pub opening_sound : Sound E o.cut
  opening_sound = parts_sound E o.head.topology o.cut (head_parts bytes o.head (reads_of M E bytes o is).head).topology cut_has

  -- and a book may begin with it
  pub opening_begins : IsOpened M (fresh o.cut)
  opening_begins = parts_open E o.head.topology o.cut (head_parts bytes o.head (reads_of M E bytes o is).head).topology cut_has M

-- ## This network's devices

pub verdict_leads : (bytes : List ℕ) (o : Opened) → verdict bytes ≡ Ok o → after t414 o.cut (map (λ e. e.0) o.kept) ≡ Some o.now
unfolding verdict
verdict_leads bytes o is = opening_leads t414 t414_ends bytes o is

pub verdict_sound : (bytes : List ℕ) (o : Opened) → verdict bytes ≡ Ok o → Sound t414_ends o.cut × Sound t414_ends o.now
unfolding verdict
verdict_sound bytes o is =
    let cut = opening_sound t414 t414_ends bytes o is in
    (cut, sound_after has_four_links keeps_flight o.cut o.now (map (λ e. e.0) o.kept) cut (opening_leads t414 t414_ends bytes o is))

-- the law of cuts holds of the book that goes on from what was opened
pub verdict_begins : (bytes : List ℕ) (o : Opened) → verdict bytes ≡ Ok o → IsOpened t414 (book_of o)
unfolding verdict
verdict_begins bytes o is =
    let leads = opening_leads t414 t414_ends bytes o is in
    let H : CutInvariant t414 (book_of o) =
    reopened_holds t414 has_four_links never_marks device_areas (areas_keep t414 t414_ends) o.cut (opening_begins t414 t414_ends bytes o is) (map (λ e. e.0) o.kept) (held_of o) o.now leads leads in
    record { idle = refl; now = H.base.now; unmarked = H.inside; lines = H.base.lines; wired = H.base.wired; unwired = H.base.unwired }

-- ## After a crash

module _ (start : Network NodeState) (events : List (Event NodeState)) (first last : World NodeState)
    (formatted : BeginsFormatted t414 device_areas start first) (run : Run t414 device_areas first events last) where
  pub crash_opens : (bytes : List ℕ) → MayBe last.disk bytes → OpensTo start last bytes
  unfolding verdict
  crash_opens bytes may =
      let r = run_recovers t414 has_four_links never_marks device_areas (areas_keep t414 t414_ends) start events first last formatted run bytes may in
      let o = held_opened (opening t414 t414_ends bytes) r.held r.reads in
      let held : r.held ≡ held_of o.0 = sym o.2 in
      let number : next_number r.held ≡ next_of o.0 = ap next_number held ∙ ap (λ n. o.0.base + n) (length-map o.0.kept (λ (e : Entry × ℕ). e.0)) in
      let both = opening_leads t414 t414_ends bytes o.0 o.1 in
      let replayed : after t414 (held_of o.0).network (held_of o.0).entries ≡ Some r.now = ap (λ h. after t414 h.network h.entries) o.2 ∙ r.replayed in
      let now : r.now ≡ o.0.now = let same = sym replayed ∙ both in cc in
      record {
        opened = o.0;
        is = o.1;
        no_more = omega (arith, r.no_more, number);
        exact = ap (λ n. after t414 start (take n last.journal)) (sym number) ∙ r.exact ∙ ap Some now;
        no_less = subst (λ n. AllByRecursion (λ m. m ≤ n) last.seen) number r.no_less;
        order = subst (λ n. HasOrder t414 start (take n last.journal) (held_of o.0).network (held_of o.0).entries (held_of o.0).base) number
            (subst (λ h. HasOrder t414 start (take (next_number r.held) last.journal) h.network h.entries h.base) held
            (crash_order t414 has_four_links never_marks device_areas (areas_keep t414 t414_ends) start events first last formatted run bytes may r));
      }
