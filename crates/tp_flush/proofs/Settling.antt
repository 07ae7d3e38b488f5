-- Slips compared with the flusher's journal.
use Rattle.std.proofs.Common.{◌≡◌, ℕ, zero, suc, ◌+◌, ◌<◌, ◌≤◌, List, [], ◌∷◌, ◌++◌, length, take, refl, sym, ap, subst, ◌∙◌, arith, Some, slice_get, length-append}
use Rattle.tp_flush.proofs.Lower.{cons≢nil, Entry, NodeState, t414, t414_ends, Machine, Network, MarkedNetwork, Reorder, same, swap, next_number, MayBe, device_areas, World, RecoversTo, has_four_links, never_marks, areas_keep, Inv, formatted_holds, run_keeps, no_step, recovers_at, Sound, item_of, Told, AreBelow, Stage, IsTied, IsFirst, ToldSince, told_of, told_journal}
use Rattle.tp_flush.specs.Known.{Reached}
use Rattle.tp_flush.specs.Settled.{AreIn, RecoversWith, SlipsStand}
use Rattle.tp_flush.proofs.Rises.{all_front}

-- ## The journal has as many entries as their numbers say

reorder-length : {Node : Type 0} (M : Machine Node) (s : Network Node) (xs ys : List Entry) → Reorder M s xs ys → length xs ≡ length ys
reorder-length M s xs ys (same es) = refl
reorder-length M s xs ys (swap front e f back es at is apart rest) =
    omega (arith, length-append front (e ∷ f ∷ back), length-append front (f ∷ e ∷ back), reorder-length M s (front ++ f ∷ e ∷ back) es rest)

pub reached_holds : (start : Network NodeState) (w : World NodeState) → Reached start w → Inv t414 device_areas start w
reached_holds start w R =
    run_keeps t414 has_four_links never_marks device_areas (areas_keep t414 t414_ends) start R.formatted.opened R.events R.first w
    (formatted_holds t414 has_four_links never_marks device_areas (areas_keep t414 t414_ends) start R.formatted.opened R.first R.formatted) R.run

pub length-journal : (start : Network NodeState) (w : World NodeState) → Reached start w → length w.journal ≡ w.base + length w.net.entries
length-journal start w R =
    let O = (reached_holds start w R).order in
    omega (arith, reorder-length t414 start w.journal (O.inside ++ w.net.entries) O.order, length-append O.inside w.net.entries, O.count)

-- ## The journal and the book

-- Since the opening the book has what the journal has, and some entries after it. Before it there are as many as the first number says.
pub record JournalJoin (before : World NodeState) (first : ℕ) (all journal : List Entry) : Type 0 where
  pub more : List Entry
  pub both : take first before.journal ++ all ≡ journal ++ more
  pub many : first ≡ length (take first before.journal)

pub journal_join : (before : World NodeState) (first : ℕ) (stage : Stage) (key : Told) (w : World NodeState) → IsFirst key w → ToldSince key (told_of before first stage) → IsTied first stage.all stage.book
    → length w.journal ≡ w.base + length w.net.entries → JournalJoin before first stage.all w.journal
journal_join before first stage key w F S T long =
    let front = take first before.journal in
    let J = told_journal before first key stage S in
    let more = J.0 in
    let both : front ++ stage.all ≡ w.journal ++ more = J.2 ∙ ap (λ es. es ++ more) F.journal in
    let lengths = ap length both in
    let left = length-append front stage.all in
    let right = length-append w.journal more in
    let entries = ap length J.1 in
    let kept = length-append key.net.entries more in
    let net = ap (λ (n : MarkedNetwork NodeState). length n.entries) F.net in
    let next = T.next in
    let base = S.base in
    let begun = F.base in
    record { more = more; both = both; many = omega (arith, lengths, left, right, entries, kept, net, next, base, begun, long) }

-- ## A slip's entry

behind_front : {V : Type 0} (front items : List V) (n : ℕ) (v : V) → item_of (length front) items n ≡ v ∷ [] → slice_get (front ++ items) n ≡ Some v
behind_front [] [] n v e = absurd (cons≢nil (sym e))
behind_front [] (x ∷ items) zero v e = let same : x ≡ v = cc in ap Some same
behind_front [] (x ∷ items) (suc n) v e = behind_front [] items n v e
behind_front (y ∷ front) items zero v e = absurd (cons≢nil (sym e))
behind_front (y ∷ front) items (suc n) v e = behind_front front items n v e

in_front : {V : Type 0} (front rest : List V) (n : ℕ) → n < length front → slice_get (front ++ rest) n ≡ slice_get front n
in_front [] rest n h = absurd (omega (arith, h))
in_front (x ∷ front) rest zero h = refl
in_front (x ∷ front) rest (suc n) h = in_front front rest n (omega (arith, h))

in_prefix : {V : Type 0} (m : ℕ) (xs : List V) (n : ℕ) → n < m → slice_get (take m xs) n ≡ slice_get xs n
in_prefix zero xs n h = absurd (omega (arith, h))
in_prefix (suc m) [] n h = refl
in_prefix (suc m) (x ∷ xs) zero h = refl
in_prefix (suc m) (x ∷ xs) (suc n) h = in_prefix m xs n (omega (arith, h))

-- ## What slips show

stand_in : (journal front items more : List Entry) (slips : List (ℕ × Entry)) → front ++ items ≡ journal ++ more → Sound (item_of (length front) items) slips → SlipsStand journal slips
stand_in journal front items more [] both sound = tt
stand_in journal front items more (slip ∷ slips) both sound = (
  (λ below. sym (in_front journal more slip.0 below) ∙ ap (λ es. slice_get es slip.0) (sym both) ∙ behind_front front items slip.0 slip.1 sound.0),
  stand_in journal front items more slips both sound.2,
)

pub slips_stand : (before : World NodeState) (first : ℕ) (stage : Stage) (key : Told) (w : World NodeState) (slips : List (ℕ × Entry)) → IsFirst key w → ToldSince key (told_of before first stage)
    → IsTied first stage.all stage.book → length w.journal ≡ w.base + length w.net.entries → Sound (item_of first stage.all) slips → SlipsStand w.journal slips
slips_stand before first stage key w slips F S T long sound =
    let J = journal_join before first stage key w F S T long in
    stand_in w.journal (take first before.journal) stage.all J.more slips J.both (subst (λ n. Sound (item_of n stage.all) slips) J.many sound)

-- ## Some of them

stand_behind : (journal : List Entry) (before slips : List (ℕ × Entry)) → SlipsStand journal (before ++ slips) → SlipsStand journal slips
stand_behind journal [] slips stand = stand
stand_behind journal (slip ∷ before) slips stand = stand_behind journal before slips stand.1

-- slips that are next to each other among others
pub stand_among : (journal : List Entry) (all before some behind : List (ℕ × Entry)) → all ≡ before ++ some ++ behind → SlipsStand journal all → SlipsStand journal some
stand_among journal all before some behind is stand =
    stand_behind journal before some (all_front (λ slip. slip.0 < length journal → slice_get journal slip.0 ≡ Some slip.1) (before ++ some) behind (subst (SlipsStand journal) is stand))

-- ## What a crash leaves of them

are_in : (journal : List Entry) (least m : ℕ) (slips : List (ℕ × Entry)) → least ≤ m → m ≤ length journal → AreBelow least slips → SlipsStand journal slips → AreIn (take m journal) slips
are_in journal least m [] low high below stand = tt
are_in journal least m (slip ∷ slips) low high below stand =
    let up = below.0 in (
      in_prefix m journal slip.0 (omega (arith, up, low)) ∙ stand.0 (omega (arith, up, low, high)),
      are_in journal least m slips low high below.1 stand.1,
    )

pub recovers_with : (start : Network NodeState) (journal : List Entry) (least : ℕ) (slips : List (ℕ × Entry)) (bytes : List ℕ) → RecoversTo t414 device_areas start journal least bytes
    → AreBelow least slips → SlipsStand journal slips → RecoversWith start journal least slips bytes
recovers_with start journal least slips bytes R below stand = record {
  recovers = R;
  has = are_in journal least (next_number R.held) slips R.no_less R.no_more below stand;
}

pub below_more : (m n : ℕ) (slips : List (ℕ × Entry)) → m ≤ n → AreBelow m slips → AreBelow n slips
below_more m n [] up below = tt
below_more m n (slip ∷ slips) up below = (let low = below.0 in omega (arith, low, up), below_more m n slips up below.1)

-- of a device as it is
pub now_recovers : (start : Network NodeState) (w : World NodeState) → Reached start w → (left : List ℕ) → MayBe w.disk left → RecoversTo t414 device_areas start w.journal w.mark left
now_recovers start w R left may =
    recovers_at t414 device_areas has_four_links never_marks (areas_keep t414 t414_ends) start R.events R.first w R.formatted R.run w w (no_step t414 device_areas w) (no_step t414 device_areas w) left may
