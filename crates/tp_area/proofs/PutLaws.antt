-- Pieces that are put one after the other are put as one.
use Rattle.std.proofs.Common.{◌≡◌, ℕ, ◌+◌, ◌-◌, ◌≤◌, List, [], ◌∷◌, ◌++◌, length, take, drop, refl, sym, ap, subst, ◌∙◌, arith, add-zero, append_assoc, append-nil, length-append, length-drop, get_or, ◌<◌, inl, inr, Result, OnOk, OnErr}
use Rattle.std.specs.Prelude.{flat_map}
use Rattle.tp_area.proofs.Lower.{AllByRecursion, cases_lt, flat_map-append, length-flat_map-take, take_more, replicate-append-replicate, length-replicate, take_at, take-append-drop, drop-drop, length-take-le, get_or-take, get_or-drop, Moment, MayBe, Write, IsWithin, SameOutside, written, done, within, State, MomentPassed, Fails, LeavesOnly, Called, put_calls, written_same_outside, outside_last, same_refl, same_sym, same_trans, same_wider, inside_written, called_one, called_then, started, and_then, weaker, call_leaves, zeros}
use Rattle.tp_area.specs.Puts.{ButFor, Puts}
use Rattle.tp_area.proofs.Frames.{drop_behind}

abbrev Within : ℕ → ℕ → List (ℕ × List ℕ) → Type 0
Within at count pieces = AllByRecursion (λ piece. IsWithin (at, count) (piece.0, length piece.1)) pieces

within-append : (at count : ℕ) (first second : List (ℕ × List ℕ)) → Within at count first → Within at count second → Within at count (first ++ second)
within-append at count [] second one two = two
within-append at count (piece ∷ first) second one two = (one.0, within-append at count first second one.1 two)

within-wider : (at count from size : ℕ) (pieces : List (ℕ × List ℕ)) → from ≤ at → at + count ≤ from + size → Within at count pieces → Within from size pieces
within-wider at count from size [] low high all = tt
within-wider at count from size (piece ∷ pieces) low high all =
    let first = all.0.0 in
    let last = all.0.1 in
    ((omega arith, omega arith), within-wider at count from size pieces low high all.1)

pub put_calls-append : (first second : List (ℕ × List ℕ)) → put_calls (first ++ second) ≡ put_calls first ++ put_calls second
put_calls-append [] second = refl
put_calls-append (piece ∷ first) second = ap (λ calls. Write piece.0 piece.1 ∷ calls) (put_calls-append first second)

pub written_nothing : (old : List ℕ) (at : ℕ) → written old at [] ≡ old
written_nothing old at =
    ap (λ xs. xs ++ drop (at + 0) old) (append-nil (take at old)) ∙ ap (λ n. take at old ++ drop n old) (add-zero at) ∙ take-append-drop at old

pub written_twice : (old : List ℕ) (at : ℕ) (first second : List ℕ) → at ≤ length old
    → written (written old at first) (at + length first) second ≡ written old at (first ++ second)
written_twice old at first second room =
    let mid = written old at first in
    let front = take at old ++ first in
    let next = at + length first in
    let size : length front ≡ next = omega (arith, length-append (take at old) first, length-take-le at old room) in
    let rest : drop (next + length second) mid ≡ drop (at + length (first ++ second)) old =
    sym (drop-drop (length second) next mid) ∙ ap (drop (length second)) (drop_behind old at first room)
    ∙ drop-drop (length second) next old ∙ ap (λ n. drop n old) (omega (arith, length-append first second)) in
    ap (λ xs. (xs ++ second) ++ drop (next + length second) mid) (take_at front (drop next old) next size)
    ∙ ap (λ xs. (front ++ second) ++ xs) rest
    ∙ ap (λ xs. xs ++ drop (at + length (first ++ second)) old) (append_assoc (take at old) first second)

-- nothing
pub puts_none : (at : ℕ) (s : State) → Puts at [] s s
puts_none at s = record {
  pieces = [];
  within = tt;
  called = record { now = refl; past = sym (append-nil s.past) };
  are = sym (written_nothing s.now.bytes at);
}

-- one piece
pub puts_one : (at : ℕ) (bytes : List ℕ) (s t : State) → t.now ≡ done (Write at bytes) s.now → MomentPassed s t → Puts at bytes s t
puts_one at bytes s t was goes = record {
  pieces = (at, bytes) ∷ [];
  within = ((omega arith, omega arith), tt);
  called = called_one (Write at bytes) s t was goes;
  are = ap (λ (m : Moment). m.bytes) was;
}

-- one after the other
pub puts_then : (at : ℕ) (first second : List ℕ) (s t u : State) → at ≤ length s.now.bytes → Puts at first s t → Puts (at + length first) second t u → Puts at (first ++ second) s u
puts_then at first second s t u room one two =
    let all = length-append first second in
    record {
      pieces = one.pieces ++ two.pieces;
      within = within-append at (length (first ++ second)) one.pieces two.pieces
          (within-wider at (length first) at (length (first ++ second)) one.pieces (omega arith) (omega arith) one.within)
          (within-wider (at + length first) (length second) at (length (first ++ second)) two.pieces (omega arith) (omega arith) two.within);
      called = subst (λ calls. Called calls s u) (sym (put_calls-append one.pieces two.pieces)) (called_then (put_calls one.pieces) (put_calls two.pieces) s t u one.called two.called);
      are = two.are ∙ ap (λ bytes. written bytes (at + length first) second) one.are ∙ written_twice s.now.bytes at first second room;
    }

-- bytes that were put are those that they are equal to
pub puts_same : (at : ℕ) (bytes other : List ℕ) (s t : State) → bytes ≡ other → Puts at bytes s t → Puts at other s t
puts_same at bytes other s t is puts = subst (λ xs. Puts at xs s t) is puts

-- ## Turns of loops

-- some zeros more
pub zeros_more : (at count left size : ℕ) (piece : List ℕ) (s t u : State) → at + count ≤ length s.now.bytes → left ≤ count → size ≤ left → piece ≡ zeros size
    → Puts at (zeros (count - left)) s t → Puts (at + (count - left)) piece t u → Puts at (zeros (count - (left - size))) s u
zeros_more at count left size piece s t u room some fits is one two =
    let k : ℕ = count - left in
    let front : length (zeros k) ≡ k = length-replicate k 0 in
    let next : Puts (at + length (zeros k)) piece t u = subst (λ n. Puts (at + n) piece t u) (sym front) two in
    puts_same at (zeros k ++ piece) (zeros (count - (left - size))) s u
    (ap (λ xs. zeros k ++ xs) is ∙ replicate-append-replicate k size 0 ∙ ap zeros (omega arith))
    (puts_then at (zeros k) piece s t u (omega arith) one next)

-- one image more
pub flat_map_more : {X : Type 0} (f : X → List ℕ) (xs : List X) (i : ℕ) (x : X) → i < length xs → flat_map f (take (i + 1) xs) ≡ flat_map f (take i xs) ++ f (get_or xs i x)
flat_map_more f xs i x lt =
    ap (flat_map f) (take_more xs i x lt) ∙ flat_map-append f (take i xs) (get_or xs i x ∷ [])
    ∙ ap (λ ys. flat_map f (take i xs) ++ ys) (append-nil (f (get_or xs i x)))

pub image_puts : {X : Type 0} (f : X → List ℕ) (xs : List X) (i : ℕ) (x : X) (at place : ℕ) (s t u : State) → i < length xs → x ≡ get_or xs i x → at ≤ length s.now.bytes
    → place ≡ at + length (flat_map f (take i xs)) → Puts at (flat_map f (take i xs)) s t → Puts place (f x) t u → Puts at (flat_map f (take (i + 1) xs)) s u
image_puts f xs i x at place s t u lt is room here one two =
    let next : Puts (at + length (flat_map f (take i xs))) (f x) t u = subst (λ n. Puts n (f x) t u) here two in
    puts_same at (flat_map f (take i xs) ++ f x) (flat_map f (take (i + 1) xs)) s u
    (ap (λ y. flat_map f (take i xs) ++ f y) is ∙ sym (flat_map_more f xs i x lt))
    (puts_then at (flat_map f (take i xs)) (f x) s t u room one next)

pub image_fits : {X : Type 0} (f : X → List ℕ) (xs : List X) (i : ℕ) (x : X) → i < length xs → x ≡ get_or xs i x
    → length (flat_map f (take i xs)) + length (f x) ≤ length (flat_map f xs)
image_fits f xs i x lt is = subst (λ y. length (flat_map f (take i xs)) + length (f y) ≤ length (flat_map f xs)) (sym is) (length-flat_map-take f xs i x lt)

pub image_place : {X : Type 0} (f : X → List ℕ) (xs : List X) (i : ℕ) (x : X) → i < length xs → x ≡ get_or xs i x
    → length (flat_map f (take (i + 1) xs)) ≡ length (flat_map f (take i xs)) + length (f x)
image_place f xs i x lt is = ap length (flat_map_more f xs i x lt) ∙ length-append (flat_map f (take i xs)) (f (get_or xs i x)) ∙ ap (λ y. length (flat_map f (take i xs)) + length (f y)) (sym is)

-- three parts, one after the other
pub puts_three : (at : ℕ) (one two three : List ℕ) (second third : ℕ) (s t u v : State) → at ≤ length s.now.bytes → second ≡ at + length one → third ≡ second + length two
    → Puts at one s t → Puts second two t u → Puts third three u v → Puts at ((one ++ two) ++ three) s v
puts_three at one two three second third s t u v room is_second is_third first next last =
    let both : Puts at (one ++ two) s u = puts_then at one two s t u room first (subst (λ n. Puts n two t u) is_second next) in
    let there : third ≡ at + length (one ++ two) = omega (arith, length-append one two) in
    puts_then at (one ++ two) three s u v room both (subst (λ n. Puts n three u v) there last)

-- ## What a crash leaves on the way

-- what may be left within a write is outside its range what a crash before it might have left
but_for_write : (m : Moment) (at : ℕ) (bytes left : List ℕ) → at + length bytes ≤ length m.bytes → MayBe (within (Write at bytes) m) left → ButFor at (length bytes) m left
but_for_write m at bytes left room may =
    let part : List ℕ = take (length bytes) (drop at m.bytes) in
    let size : length part ≡ length bytes = length-take-le (length bytes) (drop at m.bytes) (let dropped = length-drop at m.bytes in omega arith) in
    let sizes = may.same_length in
    let fits : at + length part ≤ length left = omega arith in
    let same : SameOutside at (length part) left (written left at part) = written_same_outside left at part fits in
    record {
      before = written left at part;
      may = record {
        same_length = same.same_length ∙ sizes;
        same_outside = λ place out. elim (cases_lt place at) [
          | inl low ↦ same.same place (inl low) ∙ may.same_outside place (outside_last m.unsynced (at, length bytes) place out (inl low))
          | inr high ↦ elim (cases_lt place (at + length bytes)) [
            | inl inside ↦ inside_written left at part place fits high (omega arith) ∙ get_or-take (length bytes) (drop at m.bytes) (place - at) 0 (omega arith)
                ∙ get_or-drop at m.bytes (place - at) 0 ∙ ap (λ n. get_or m.bytes n 0) (let place_is : at + (place - at) ≡ place = omega arith in place_is)
            | inr behind ↦ same.same place (inr (omega arith)) ∙ may.same_outside place (outside_last m.unsynced (at, length bytes) place out (inr behind))
          ]
        ];
      };
      same = same_sym at (length bytes) left (written left at part) (subst (λ (n : ℕ). SameOutside at n left (written left at part)) size same);
    }

pub write_leaves : {E : Type 0} (r : Result Unit E) (at : ℕ) (bytes : List ℕ) (s t : State) → at + length bytes ≤ length s.now.bytes → MomentPassed s t
    → OnOk r (t.now ≡ done (Write at bytes) s.now) → OnErr r (Fails (Write at bytes) s t) → LeavesOnly s t (ButFor at (length bytes) s.now)
write_leaves r at bytes s t room goes was failed =
    weaker s t (MayBe (within (Write at bytes) s.now)) (ButFor at (length bytes) s.now) (λ left may. but_for_write s.now at bytes left room may) (call_leaves r (Write at bytes) s t room goes was failed)

pub but_for_may : (at count : ℕ) (m : Moment) (left : List ℕ) → MayBe m left → ButFor at count m left
but_for_may at count m left may = record { before = left; may = may; same = same_refl at count left }

-- no call yet
pub none_leaves : (at count : ℕ) (s : State) → LeavesOnly s s (ButFor at count s.now)
none_leaves at count s = started s (ButFor at count s.now) (but_for_may at count s.now)

-- a range in another one
pub wider_leaves : (outer inner : ℕ × ℕ) (s t : State) → IsWithin outer inner → LeavesOnly s t (ButFor inner.0 inner.1 s.now) → LeavesOnly s t (ButFor outer.0 outer.1 s.now)
wider_leaves outer inner s t inside only =
    weaker s t (ButFor inner.0 inner.1 s.now) (ButFor outer.0 outer.1 s.now)
    (λ left b. record { before = b.before; may = b.may; same = same_wider outer inner b.before left inside b.same }) only

-- and then calls within it
pub then_leaves : (outer inner : ℕ × ℕ) (s t u : State) → IsWithin outer inner → LeavesOnly s t (ButFor outer.0 outer.1 s.now) → LeavesOnly t u (ButFor inner.0 inner.1 t.now)
    → LeavesOnly s u (ButFor outer.0 outer.1 s.now)
then_leaves outer inner s t u inside one two =
    and_then s t u (ButFor outer.0 outer.1 s.now) one (weaker t u (ButFor inner.0 inner.1 t.now) (ButFor outer.0 outer.1 s.now) both two)
  where
    both : (left : List ℕ) → ButFor inner.0 inner.1 t.now left → ButFor outer.0 outer.1 s.now left
    both left b =
        let first = one.each b.before (inr b.may) in
        record {
          before = first.before;
          may = first.may;
          same = same_trans outer.0 outer.1 first.before b.before left first.same (same_wider outer inner b.before left inside b.same);
        }

pub zeros_leave : (at count left size : ℕ) (piece : List ℕ) (s t u : State) → left ≤ count → size ≤ left → piece ≡ zeros size
    → LeavesOnly s t (ButFor at count s.now) → LeavesOnly t u (ButFor (at + (count - left)) (length piece) t.now) → LeavesOnly s u (ButFor at count s.now)
zeros_leave at count left size piece s t u some fits is one two =
    let len : length piece ≡ size = ap length is ∙ length-replicate size 0 in
    then_leaves (at, count) (at + (count - left), length piece) s t u (omega arith, omega arith) one two

pub image_leaves : {X : Type 0} (f : X → List ℕ) (xs : List X) (i : ℕ) (x : X) (bytes : List ℕ) (at place : ℕ) (s t u : State) → i < length xs → x ≡ get_or xs i x → bytes ≡ f x
    → place ≡ at + length (flat_map f (take i xs)) → LeavesOnly s t (ButFor at (length (flat_map f xs)) s.now) → LeavesOnly t u (ButFor place (length bytes) t.now)
    → LeavesOnly s u (ButFor at (length (flat_map f xs)) s.now)
image_leaves f xs i x bytes at place s t u lt is same here one two =
    let fit = image_fits f xs i x lt is in
    let len = ap length same in
    then_leaves (at, length (flat_map f xs)) (place, length bytes) s t u (omega arith, omega arith) one two
