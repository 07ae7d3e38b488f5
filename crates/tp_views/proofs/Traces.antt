-- Lines that are printed one after the other.
use Rattle.std.proofs.Common.{◌≡◌, ◌∙◌, ℕ, zero, suc, ◌+◌, ◌<◌, ◌≤◌, true, false, List, [], ◌++◌, length, take, drop, Option, Some, None, Ok, Err, Result, OnOk, refl, sym, ap, subst, append_assoc, append-nil, arith}
use Rattle.tp_views.proofs.Lower.{take-add, take-append_seam, drop-append_seam, take-append-drop, Appends, none_appended, Attended}
use Rattle.tp_views.specs.Front.{AppendsFront}
use Rattle.tp_views.specs.Maps.{Row}
use Rattle.tp_views.specs.Traced.{Passes, behind, last_text, moment, traced}
use Rattle.tp_views.specs.declared.trace.stops.Stops.{Stops}

-- ## Bytes

-- bytes after bytes
pub then_appended : (was then now : Option (List ℕ)) (xs ys : List ℕ) → Appends was then xs → Appends then now ys → Appends was now (xs ++ ys)
then_appended None then now xs ys first second = tt
then_appended (Some a) None now xs ys first second = absurd first
then_appended (Some a) (Some b) None xs ys first second = absurd second
then_appended (Some a) (Some b) (Some c) xs ys first second = second ∙ ap (λ front. front ++ ys) first ∙ append_assoc a xs ys

-- nothing is a front, and so is all
pub no_front : (was : Option (List ℕ)) (xs : List ℕ) → AppendsFront was was xs
no_front was xs = (0, none_appended was)

pub whole_front : (was now : Option (List ℕ)) (xs : List ℕ) → Appends was now xs → AppendsFront was now xs
whole_front was now xs is =
    (length xs, subst (λ bytes. Appends was now bytes) (sym (ap (take (length xs)) (sym (append-nil xs)) ∙ take-append_seam xs [])) is)

-- the first bytes of those that come first
pub front_more : (was now : Option (List ℕ)) (xs rest : List ℕ) → AppendsFront was now xs → AppendsFront was now (xs ++ rest)
front_more was now xs rest (n, is) =
    let front = take n xs in
    let same : take (length front) (xs ++ rest) ≡ front =
    ap (λ ys. take (length front) (ys ++ rest)) (sym (take-append-drop n xs))
    ∙ ap (take (length front)) (append_assoc front (drop n xs) rest) ∙ take-append_seam front (drop n xs ++ rest) in
    (length front, subst (λ bytes. Appends was now bytes) (sym same) is)

-- the first of bytes that are after others
pub then_front : (was then now : Option (List ℕ)) (xs ys : List ℕ) → Appends was then xs → AppendsFront then now ys → AppendsFront was now (xs ++ ys)
then_front was then now xs ys first (n, second) =
    let same : take (length xs + n) (xs ++ ys) ≡ xs ++ take n ys =
    take-add (length xs) n (xs ++ ys)
    ∙ ap (λ zs. zs ++ take n (drop (length xs) (xs ++ ys))) (take-append_seam xs ys)
    ∙ ap (λ zs. xs ++ take n zs) (drop-append_seam xs ys) in
    (length xs + n, subst (λ bytes. Appends was now bytes) (sym same) (then_appended was then now xs (take n ys) first second))

-- what holds if a call was done
pub on_ok : {T E : Type 0} (P Q : Type 0) (r : Result T E) → (P → Q) → OnOk r P → OnOk r Q
on_ok P Q (Ok x) turn h = turn h
on_ok P Q (Err e) turn h = h

-- ## One moment

-- the lines where the trace goes on, and where it ends
goes_on : (rows : List Row) (stops : Stops) (left number : ℕ) (a next : Attended) → (moment rows stops number a).next ≡ Some next
    → traced rows stops (suc left) number a ≡ (moment rows stops number a).text ++ traced rows stops left (number + 1) next
unfolding traced
goes_on rows stops left number a next is = ap (λ (o : Option Attended). (moment rows stops number a).text ++ behind o (traced rows stops left (number + 1))) is

stops_there : (rows : List Row) (stops : Stops) (left number : ℕ) (a : Attended) → (moment rows stops number a).next ≡ None → traced rows stops (suc left) number a ≡ (moment rows stops number a).text
unfolding traced
stops_there rows stops left number a is =
    ap (λ (o : Option Attended). (moment rows stops number a).text ++ behind o (traced rows stops left (number + 1))) is ∙ append-nil (moment rows stops number a).text

-- its text stands in front either way
fronted : (rows : List Row) (stops : Stops) (left number : ℕ) (a : Attended) → (rest : List ℕ) × (traced rows stops (suc left) number a ≡ (moment rows stops number a).text ++ rest)
unfolding traced
fronted rows stops left number a = (behind (moment rows stops number a).next (traced rows stops left (number + 1)), refl)

ends : (rows : List Row) (stops : Stops) (number : ℕ) (a : Attended) → traced rows stops zero number a ≡ last_text rows stops a
unfolding traced
ends rows stops number a = refl

-- ## Some lines printed

-- The text of `index` moments was appended, and that of the others is left.
pub record Goes (rows : List Row) (stops : Stops) (was now : Option (List ℕ)) (whole : List ℕ) (steps index : ℕ) (a : Attended) : Type 0 where
  pub left : ℕ
  pub counted : steps ≡ index + left
  pub done : List ℕ
  pub appended : Appends was now done
  pub whole_is : whole ≡ done ++ traced rows stops left (index + 1) a

pub begun : (rows : List Row) (stops : Stops) (was : Option (List ℕ)) (steps : ℕ) (a : Attended) → Goes rows stops was was (traced rows stops steps 1 a) steps 0 a
begun rows stops was steps a = record { left = steps; counted = omega arith; done = []; appended = none_appended was; whole_is = refl }

-- a moment more
pub goes_further : (rows : List Row) (stops : Stops) (was then now : Option (List ℕ)) (whole : List ℕ) (steps index : ℕ) (a next : Attended) → Goes rows stops was then whole steps index a → index < steps
    → Passes (moment rows stops (index + 1) a) true next then now → Goes rows stops was now whole steps (index + 1) next
goes_further rows stops was then now whole steps index a next g few made = go g.left g.counted g.whole_is
  where
    go : (left : ℕ) → steps ≡ index + left → whole ≡ g.done ++ traced rows stops left (index + 1) a → Goes rows stops was now whole steps (index + 1) next
    go zero counted is = absurd (omega (arith, counted, few))
    go (suc left) counted is =
        let text = (moment rows stops (index + 1) a).text in
        record {
          left = left;
          counted = omega (arith, counted);
          done = g.done ++ text;
          appended = then_appended was then now g.done text g.appended made.shown;
          whole_is = is ∙ ap (λ xs. g.done ++ xs) (goes_on rows stops left (index + 1) a next made.next) ∙ sym (append_assoc g.done text (traced rows stops left (index + 1 + 1) next));
        }

-- the trace ends there
pub goes_stopped : (rows : List Row) (stops : Stops) (was then now : Option (List ℕ)) (whole : List ℕ) (steps index : ℕ) (a next : Attended) → Goes rows stops was then whole steps index a → index < steps
    → Passes (moment rows stops (index + 1) a) false next then now → Appends was now whole
goes_stopped rows stops was then now whole steps index a next g few made = go g.left g.counted g.whole_is
  where
    go : (left : ℕ) → steps ≡ index + left → whole ≡ g.done ++ traced rows stops left (index + 1) a → Appends was now whole
    go zero counted is = absurd (omega (arith, counted, few))
    go (suc left) counted is =
        subst (λ bytes. Appends was now bytes) (sym (is ∙ ap (λ xs. g.done ++ xs) (stops_there rows stops left (index + 1) a made.next)))
        (then_appended was then now g.done (moment rows stops (index + 1) a).text g.appended made.shown)

-- a front of its text
pub goes_front : (rows : List Row) (stops : Stops) (was then now : Option (List ℕ)) (whole : List ℕ) (steps index : ℕ) (a : Attended) → Goes rows stops was then whole steps index a → index < steps
    → AppendsFront then now (moment rows stops (index + 1) a).text → AppendsFront was now whole
goes_front rows stops was then now whole steps index a g few front = go g.left g.counted g.whole_is
  where
    go : (left : ℕ) → steps ≡ index + left → whole ≡ g.done ++ traced rows stops left (index + 1) a → AppendsFront was now whole
    go zero counted is = absurd (omega (arith, counted, few))
    go (suc left) counted is =
        let rest = fronted rows stops left (index + 1) a in
        let text = (moment rows stops (index + 1) a).text in
        subst (λ bytes. AppendsFront was now bytes) (sym (is ∙ ap (λ xs. g.done ++ xs) rest.1))
        (then_front was then now g.done (text ++ rest.0) g.appended (front_more then now text rest.0 front))

-- what is left behind the last line
last_is : (rows : List Row) (stops : Stops) (was now : Option (List ℕ)) (whole : List ℕ) (steps index : ℕ) (a : Attended) (g : Goes rows stops was now whole steps index a) → steps ≤ index
    → whole ≡ g.done ++ last_text rows stops a
last_is rows stops was now whole steps index a g all = go g.left g.counted g.whole_is
  where
    go : (left : ℕ) → steps ≡ index + left → whole ≡ g.done ++ traced rows stops left (index + 1) a → whole ≡ g.done ++ last_text rows stops a
    go zero counted is = is ∙ ap (λ xs. g.done ++ xs) (ends rows stops (index + 1) a)
    go (suc left) counted is = absurd (omega (arith, counted, all))

pub goes_ended : (rows : List Row) (stops : Stops) (was then now : Option (List ℕ)) (whole : List ℕ) (steps index : ℕ) (a : Attended) → Goes rows stops was then whole steps index a → steps ≤ index
    → Appends then now (last_text rows stops a) → Appends was now whole
goes_ended rows stops was then now whole steps index a g all shown =
    subst (λ bytes. Appends was now bytes) (sym (last_is rows stops was then whole steps index a g all)) (then_appended was then now g.done (last_text rows stops a) g.appended shown)

pub goes_ended_front : (rows : List Row) (stops : Stops) (was then now : Option (List ℕ)) (whole : List ℕ) (steps index : ℕ) (a : Attended) → Goes rows stops was then whole steps index a → steps ≤ index
    → AppendsFront then now (last_text rows stops a) → AppendsFront was now whole
goes_ended_front rows stops was then now whole steps index a g all front =
    subst (λ bytes. AppendsFront was now bytes) (sym (last_is rows stops was then whole steps index a g all)) (then_front was then now g.done (last_text rows stops a) g.appended front)
