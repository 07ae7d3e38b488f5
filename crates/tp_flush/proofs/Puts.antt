-- What is written into the other area while the flusher rests is a piece of a run, whether it was done or a call of the device failed.
use Rattle.std.proofs.Common.{◌≡◌, ℕ, zero, suc, ◌+◌, ◌-◌, ◌*◌, ◌<◌, ◌≤◌, refl, sym, ap, subst, ◌∙◌, Bool, true, false, Option, None, Result, Ok, Err, OnOk, OnErr, MatchResult, List, [], ◌∷◌, length, take, get_or, arith}
use Rattle.std.specs.Prelude.{if◌then◌else◌, sum_by, nat_le, IfOk}
use Rattle.tp_flush.proofs.Lower.{list_all, eqb-suc-zero, and_parts, leb-true, has_shape, sum_by-cons, option_map, result_ok, IMAGE_HEAD_BYTES, MAX_PAGES, MIN_PAGES, PAGE_BYTES, NodeState, t414, t414_ends, Network, Moment, Call, IsWithin, State, Broke, Called, clear_calls, put_calls, IsFrozenAs, Resting, Opened, held_of, verdict, device_areas, World, AreWalked, Walks, Place, StoreFault, StoreFailed, if_open, other_gate, piece_length, piece_place, place_in_image, Topology, is_page_count, is_topology, image_length, is_roomy, Told, IsFirst, areas_keep, clear_walks, pieces_walk, chain_leads, RaiserValue}
use Rattle.tp_flush.specs.declared.fault.FlushFault.{FlushFault}
use Rattle.tp_flush.specs.declared.fault.FlushFault.TheVariants.{DeviceFailed}
use Rattle.tp_flush.specs.Known.{Known, Began}
use Rattle.tp_flush.specs.Flushing.{Flushing, KeepsWorld}
use Rattle.tp_flush.specs.Ends.{Failed, Tried, NothingStored}
use Rattle.tp_flush.proofs.Rises.{rises_walk}
use Rattle.tp_flush.proofs.Appends.{failed_at}
use Rattle.tp_flush.proofs.Kept.{reached_then}

-- the world after bytes that were written there, and after a call that failed
abbrev pub written_at : World NodeState → Moment → World NodeState
written_at w disk = record w { disk = disk }

abbrev pub after_put : Bool → World NodeState → Moment → World NodeState
after_put broke w disk = if broke then failed_at w disk else written_at w disk

-- What the store says of what it didn't refuse.
pub record Answered (r : Result Unit StoreFault) (broke : Bool) (failures_old failures_new : ℕ) : Type 0 where
  pub done : OnOk r ((broke ≡ false) × (failures_new ≡ failures_old))
  pub failed : OnErr r ((broke ≡ true) × (failures_new ≡ failures_old + 1))

-- ## Pieces of a run

put_walks : (w : World NodeState) (old new : State) (calls : List Call) → AreWalked t414 device_areas calls w w old new
    → (r : Result Unit StoreFault) (broke : Bool) (failures_old failures_new : ℕ) → Answered r broke failures_old failures_new → OnOk r (Called calls old new) → OnErr r (Broke calls old new)
    → Walks t414 device_areas w (after_put broke w new.now) old new
put_walks w old new calls W (Ok x) broke failures_old failures_new A ok err =
    subst (λ (v : World NodeState). Walks t414 device_areas w v old new) (ap (λ b. after_put b w new.now) (sym A.done.0)) (W.done ok)
put_walks w old new calls W (Err e) broke failures_old failures_new A ok err =
    subst (λ (v : World NodeState). Walks t414 device_areas w v old new) (ap (λ b. after_put b w new.now) (sym A.failed.0)) (W.broken err)

module _ (w : World NodeState) (old new : State) (place : Place) (rests : w.at ≡ Resting) (was : w.disk ≡ old.now) where
  pub cleared_walks : device_areas.open_other old.now.bytes ≡ if_open (other_gate place) old.now.bytes
      → (r : Result Unit StoreFault) (broke : Bool) (failures_old failures_new : ℕ) → Answered r broke failures_old failures_new
      → OnOk r (Called (clear_calls (if_open (other_gate place) old.now.bytes)) old new) → OnErr r (Broke (clear_calls (if_open (other_gate place) old.now.bytes)) old new)
      → Walks t414 device_areas w (after_put broke w new.now) old new
  cleared_walks asked =
      put_walks w old new (clear_calls (if_open (other_gate place) old.now.bytes))
      (clear_walks t414 device_areas w old new (if_open (other_gate place) old.now.bytes) rests was (ap (λ (m : Moment). device_areas.open_other m.bytes) was ∙ asked))

  pub piece_walks : (o : Opened) → verdict w.disk.bytes ≡ Ok o → (at : ℕ) (bytes : List ℕ) → IsWithin (device_areas.spare old.now.bytes) (at, length bytes)
      → (r : Result Unit StoreFault) (broke : Bool) (failures_old failures_new : ℕ) → Answered r broke failures_old failures_new
      → OnOk r (Called (put_calls ((at, bytes) ∷ [])) old new) → OnErr r (Broke (put_calls ((at, bytes) ∷ [])) old new)
      → Walks t414 device_areas w (after_put broke w new.now) old new
  unfolding verdict
  piece_walks o is at bytes inside =
      put_walks w old new (put_calls ((at, bytes) ∷ []))
      (pieces_walk t414 device_areas (areas_keep t414 t414_ends) w old new (held_of o) ((at, bytes) ∷ []) rests was (ap (λ r. option_map held_of (result_ok r)) is)
      (subst (λ (m : Moment). IsWithin (device_areas.spare m.bytes) (at, length bytes)) (sym was) inside, tt))

-- ## What the flusher keeps

abbrev pub put_known : Known → Bool → State → Known
put_known k broke s = record { world = after_put broke k.world s.now; opened = k.opened }

module _ (keeps : Type 0) (start : Network NodeState) (before : World NodeState) (k : Known) (s : State) (place : Place) (mark : RaiserValue) (K : KeepsWorld keeps start before k s place false mark) where
  pub put_keeps : (new : State) (broke : Bool) → (keeps → Began start before k.opened → Walks t414 device_areas k.world (after_put broke k.world new.now) s new)
      → KeepsWorld keeps start before (put_known k broke new) new place broke mark
  put_keeps new true walks = record {
    next = K.next;
    cut = K.cut;
    ends = K.ends;
    mark = K.mark;
    at = refl;
    disk = λ h. refl;
    reached = λ h began. let W = walks h began in reached_then start k.world (failed_at k.world new.now) (K.reached h began) (chain_leads t414 device_areas k.world (failed_at k.world new.now) W.worlds W.chain);
    rises = λ h began. rises_walk start k.world (failed_at k.world new.now) s new (K.reached h began) (walks h began) mark.rises (K.rises h began);
  }
  put_keeps new false walks = record {
    next = K.next;
    cut = K.cut;
    ends = K.ends;
    mark = K.mark;
    at = K.at;
    disk = λ h. refl;
    reached = λ h began. let W = walks h began in reached_then start k.world (written_at k.world new.now) (K.reached h began) (chain_leads t414 device_areas k.world (written_at k.world new.now) W.worlds W.chain);
    rises = λ h began. rises_walk start k.world (written_at k.world new.now) s new (K.reached h began) (walks h began) mark.rises (K.rises h began);
  }

pub told_put : (told : Told) (broke : Bool) (w : World NodeState) (disk : Moment) → IsFirst told w → IsFirst told (after_put broke w disk)
told_put told true w disk F = record { net = F.net; base = F.base; journal = F.journal }
told_put told false w disk F = record { net = F.net; base = F.base; journal = F.journal }

-- the book is as it was
pub put_net : (broke : Bool) (w : World NodeState) (disk : Moment) → (after_put broke w disk).net ≡ w.net
put_net true w disk = refl
put_net false w disk = refl

pub put_stored : (broke : Bool) (w : World NodeState) (disk : Moment) → (after_put broke w disk).stored ≡ w.stored
put_stored true w disk = refl
put_stored false w disk = refl

-- ## How it ended

pub put_tried : (r : Result Unit StoreFault) (q : Result Unit FlushFault) → MatchResult r (λ unit. q ≡ Ok unit) (λ fault. q ≡ Err DeviceFailed)
    → (broke : Bool) (a b : Flushing) (disk : Moment) → Answered r broke a.failures b.failures → a.world.at ≡ Resting → b.world ≡ after_put broke a.world disk → b.place ≡ a.place
    → OnOk r (a.progress.cleared ≡ true → b.progress.cleared ≡ true) → Tried q a b
put_tried (Ok unit) q is broke a b disk A rests after place cleared =
    let world : b.world ≡ written_at a.world disk = after ∙ ap (λ f. after_put f a.world disk) A.done.0 in
    let went : NothingStored a b = record {
      waits = record {
        rested = record { began = rests; rests = ap (λ (w : World NodeState). w.at) world ∙ rests; failures = A.done.1 };
        mark = ap (λ (w : World NodeState). w.mark) world;
        generation = ap (λ (p : Place). p.generation) place;
      };
      stored = ap (λ (w : World NodeState). w.stored) world;
      place = place;
      cleared = cleared;
      frozen = λ i node F. subst (λ (w : World NodeState). IsFrozenAs w.net i node) (sym world) F;
    } in
    subst (λ (x : Result Unit FlushFault). Tried x a b) (sym is) went
put_tried (Err fault) q is broke a b disk A rests after place cleared =
    let world : b.world ≡ failed_at a.world disk = after ∙ ap (λ f. after_put f a.world disk) A.failed.0 in
    let failed : Failed a b = record {
      began = rests;
      broken = ap (λ (w : World NodeState). w.at) world;
      failures = A.failed.1;
      mark = ap (λ (w : World NodeState). w.mark) world;
      generation = ap (λ (p : Place). p.generation) place;
    } in
    subst (λ (x : Result Unit FlushFault). Tried x a b) (sym is) (failed, ap (λ (w : World NodeState). w.stored) world)

-- ## What the store's calls say

pub on_ok : {A E : Type 0} (r : Result A E) (P Q : Type 0) → (P → Q) → OnOk r P → OnOk r Q
on_ok (Ok x) P Q on given = on given
on_ok (Err e) P Q on given = tt

pub put_answered : (r : Result Unit StoreFault) (broke : Bool) (filled : Option Place) (failures_old failures_new : ℕ)
    → OnOk r ((broke ≡ false) × (filled ≡ None) × (failures_new ≡ failures_old)) → OnErr r ((r ≡ Err StoreFailed) × (broke ≡ true) × (failures_new ≡ failures_old + 1))
    → Answered r broke failures_old failures_new
put_answered (Ok x) broke filled failures_old failures_new ok err = record { done = (ok.0, ok.2); failed = tt }
put_answered (Err e) broke filled failures_old failures_new ok err = record { done = tt; failed = (err.1, err.2) }

pub on_ok_same : {A E : Type 0} (r : Result A E) (P : Type 0) → P → OnOk r P
on_ok_same (Ok x) P given = given
on_ok_same (Err e) P given = tt

-- ## A piece of an image is inside the other area

pub sum_front : (pages : List ℕ) (i : ℕ) → i < length pages → sum_by image_length (take i pages) + image_length (get_or pages i 0) ≤ sum_by image_length pages
sum_front [] i low = absurd (omega (arith, low))
sum_front (p ∷ ps) zero low = omega (arith, sum_by-cons image_length p ps)
sum_front (p ∷ ps) (suc i) low = omega (arith, sum_front ps i (omega (arith, low)), sum_by-cons image_length p ps, sum_by-cons image_length p (take i ps))

pub place_suc : (piece : ℕ) → place_in_image (suc piece) ≡ IMAGE_HEAD_BYTES + PAGE_BYTES * piece
place_suc piece =
    ap (λ b. if b then 0 else IMAGE_HEAD_BYTES + PAGE_BYTES * (suc piece - 1)) (eqb-suc-zero piece) ∙ ap (λ n. IMAGE_HEAD_BYTES + PAGE_BYTES * n) (omega arith)

pub length_suc : (piece : ℕ) → piece_length (suc piece) ≡ PAGE_BYTES
length_suc piece = ap (λ b. if b then IMAGE_HEAD_BYTES else PAGE_BYTES) (eqb-suc-zero piece)

pub piece_ends : (piece pages : ℕ) → piece ≤ pages → place_in_image piece + piece_length piece ≤ image_length pages
piece_ends zero pages low = omega arith
piece_ends (suc piece) pages low = omega (arith, low, place_suc piece, length_suc piece)

pub if_answered : (r : Result Unit StoreFault) (q : Result Unit FlushFault) → MatchResult r (λ unit. q ≡ Ok unit) (λ fault. q ≡ Err DeviceFailed) → (P : Type 0) → OnOk r P → IfOk q (λ done. P)
if_answered (Ok x) q is P given = subst (λ (y : Result Unit FlushFault). IfOk y (λ done. P)) (sym is) given
if_answered (Err e) q is P given = subst (λ (y : Result Unit FlushFault). IfOk y (λ done. P)) (sym is) tt

-- ## Where images begin

-- and it ends inside the area
pub image_inside : (t : Topology) (area node : ℕ) → is_roomy t area ≡ true → node < length t.pages → piece_place t node 0 + image_length (get_or t.pages node 0) < area
image_inside t area node roomy there = let wide = leb-true _ _ roomy in omega (arith, wide, sum_front t.pages node there)

-- ## A topology's pages

few_in : (pages : List ℕ) → list_all is_page_count pages ≡ true → (i : ℕ) → get_or pages i 0 ≤ MAX_PAGES
few_in [] h i = omega arith
few_in (n ∷ ns) h zero =
    let both = and_parts (is_page_count n) (list_all is_page_count ns) h in
    leb-true n MAX_PAGES (and_parts (nat_le MIN_PAGES n) (nat_le n MAX_PAGES) both.0).1
few_in (n ∷ ns) h (suc i) = few_in ns (and_parts (is_page_count n) (list_all is_page_count ns) h).1 i

pub page_few : (t : Topology) → is_topology t ≡ true → (i : ℕ) → get_or t.pages i 0 ≤ MAX_PAGES
page_few t rules i = few_in t.pages (has_shape t rules).pages i
