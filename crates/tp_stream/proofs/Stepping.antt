-- Steps, one after the other, and what they put while a device goes on.
use Rattle.std.proofs.Common.{◌≡◌, ℕ, ◌+◌, ◌≤◌, inl, inr, List, [], ◌∷◌, ◌++◌, length, take, Option, Some, None, refl, sym, ap, subst, ◌∙◌, arith, append-nil, append_assoc, length-append, map}
use Rattle.tp_stream.proofs.Lower.{take-take, NodeState, t414, Network, after, moment, device_areas, World, RecoversTo, weaker, chain_leads, BookValue, shown_from, Reached, Flushing, Walked, reached_then, recovers_less, walked_recovers, walked_stays, walked_then, HeldBytes, HasPut, OutputValue, none_put}
use Rattle.tp_stream.specs.Put.{ArePut, EachWith, Got, PutPiece, LeadsToBytes, bytes_put}
use Rattle.tp_stream.specs.Steps.{AllStepped, AreSteps, PutsLeft, PortsStand, PutStep, Stepped, put_by}
use Rattle.tp_stream.proofs.Puts.{each_like, each_same, each_then, shows_left}

-- ## Bytes after bytes

put_more : (n : ℕ) (xs ys : List ℕ) (a b c : Option HeldBytes) → HasPut n xs a b → HasPut (n + length xs) ys b c → HasPut n (xs ++ ys) a c
put_more n xs ys None None None first then = tt
put_more n xs ys None None (Some c) first then = absurd then
put_more n xs ys None (Some b) c first then = absurd first
put_more n xs ys (Some a) None c first then = absurd first
put_more n xs ys (Some a) (Some b) None first then = absurd then
put_more n xs ys (Some a) (Some b) (Some c) first then =
    let long = length-append xs ys in
    let all : n + length (xs ++ ys) ≡ n + length xs + length ys = omega (arith, long) in
    ap (λ m. take m c.bytes) all ∙ then ∙ ap (λ l. l ++ ys) first ∙ append_assoc (take n a.bytes) xs ys

put_both : (ss ts : List PutStep) → put_by (ss ++ ts) ≡ put_by ss ++ put_by ts
put_both [] ts = refl
put_both (s ∷ ss) ts = ap (λ l. s.bytes ++ l) (put_both ss ts) ∙ sym (append_assoc s.bytes (put_by ss) (put_by ts))

-- ## Steps after steps

steps_since : (start : Network NodeState) (first old new : Flushing) → Walked first old → (port from : ℕ) (ss : List PutStep) → AreSteps start old new port from ss → AreSteps start first new port from ss
steps_since start first old new W port from [] each = tt
steps_since start first old new W port from (s ∷ ss) each =
    let S = each.0 in
    (record { before = walked_then first old s.at W S.before; behind = S.behind; few = S.few; all = S.all; shows = S.shows }, each.1)

steps_then : (start : Network NodeState) (old mid new : Flushing) → Walked old mid → Walked mid new → (port from : ℕ) (ss ts : List PutStep) → AreSteps start old mid port from ss
    → AreSteps start mid new port (from + length (put_by ss)) ts → AreSteps start old new port from (ss ++ ts)
steps_then start old mid new W V port from [] ts first then =
    let none : from + 0 ≡ from = omega arith in
    subst (λ n. AreSteps start old new port n ts) none (steps_since start old mid new W port (from + 0) ts then)
steps_then start old mid new W V port from (s ∷ ss) ts first then =
    let S = first.0 in
    let long = length-append s.bytes (put_by ss) in
    let all : from + length (s.bytes ++ put_by ss) ≡ from + length s.bytes + length (put_by ss) = omega (arith, long) in (
      record { before = S.before; behind = walked_then s.at mid new S.behind V; few = S.few; all = S.all; shows = S.shows },
      steps_then start s.at mid new S.behind V port (from + length s.bytes) ss ts first.1 (subst (λ n. AreSteps start mid new port n ts) all then),
    )

still : (start : Network NodeState) (old new : Flushing) (a : OutputValue) → Stepped start old new a a
still start old new a =
    record { port = refl; steps = []; each = tt; next = let none : a.next ≡ a.next + 0 = omega arith in none; holds = none_put a.next [] a.held refl }

stepped_then : (start : Network NodeState) (old mid new : Flushing) → Walked old mid → Walked mid new → (a b c : OutputValue) → Stepped start old mid a b → Stepped start mid new b c → Stepped start old new a c
stepped_then start old mid new W V a b c F G =
    let both = put_both F.steps G.steps in
    let long = ap length both ∙ length-append (put_by F.steps) (put_by G.steps) in
    let up = F.next in
    let then = G.next in
    record {
      port = G.port ∙ F.port;
      steps = F.steps ++ G.steps;
      each =
          steps_then start old mid new W V a.port a.next F.steps G.steps F.each
          (subst (λ n. AreSteps start mid new a.port n G.steps) F.next (subst (λ p. AreSteps start mid new p b.next G.steps) F.port G.each));
      next = omega (arith, long, up, then);
      holds =
          subst (λ l. HasPut a.next l a.held c.held) (sym both)
          (put_more a.next (put_by F.steps) (put_by G.steps) a.held b.held c.held F.holds (subst (λ n. HasPut n (put_by G.steps) b.held c.held) F.next G.holds));
    }

-- ## Of all outputs

pub all_still : (start : Network NodeState) (old new : Flushing) (xs : List OutputValue) → AllStepped start old new xs xs
all_still start old new xs = each_same (Stepped start old new) (still start old new) xs

pub all_then : (start : Network NodeState) (old mid new : Flushing) → Walked old mid → Walked mid new → (xs ys zs : List OutputValue) → AllStepped start old mid xs ys → AllStepped start mid new ys zs
    → AllStepped start old new xs zs
all_then start old mid new W V xs ys zs first then =
    each_then (Stepped start old mid) (Stepped start mid new) (Stepped start old new) (stepped_then start old mid new W V) xs ys zs first then

-- from an earlier moment on
pub all_since : (start : Network NodeState) (first old new : Flushing) → Walked first old → Walked old new → (xs ys : List OutputValue) → AllStepped start old new xs ys → AllStepped start first new xs ys
all_since start first old new W V xs ys then = all_then start first old new W V xs xs ys (all_still start first old xs) then

-- what is put under the lock, if the flusher's journal leads to the book
one_step : (start : Network NodeState) (f : Flushing) (b : BookValue) (mark : ℕ) → Walked f f → PortsStand start f.world b → (x y : OutputValue) → PutsLeft b mark x y → Stepped start f f x y
one_step start f b mark W S x y P = elim P.puts [
  | inl E ↦ record { port = E.port; steps = []; each = tt; next = E.next; holds = E.put }
  | inr (low, E) ↦
      let bytes = shown_from P.now x.port mark x.next in
      record {
        port = E.port;
        steps = record { bytes = bytes; number = S.number; at = f } ∷ [];
        each = (record { before = W; behind = W; few = S.few; all = S.all; shows = shows_left start f.world b P.now mark x.port x.next S P.left low }, tt);
        next = E.next ∙ ap (λ l. x.next + length l) (sym (append-nil bytes));
        holds = subst (λ l. HasPut x.next l x.held y.held) (sym (append-nil bytes)) E.put;
      }
]

pub stepped_under : (start : Network NodeState) (f : Flushing) (b : BookValue) (mark : ℕ) → Walked f f → PortsStand start f.world b → (xs ys : List OutputValue) → EachWith (PutsLeft b mark) xs ys
    → AllStepped start f f xs ys
stepped_under start f b mark W S xs ys each = each_like (PutsLeft b mark) (Stepped start f f) (one_step start f b mark W S) xs ys each

-- ## As the device goes on

reached_at : (start : Network NodeState) (a b : Flushing) → Reached start a.world → Walked a b → Reached start b.world
reached_at start a b R W = reached_then start a.world b.world R (chain_leads t414 device_areas a.world b.world W.worlds W.chain)

shows_on : (start : Network NodeState) (a b : Flushing) → Reached start a.world → Walked a b → (port from number : ℕ) (bytes : List ℕ) → number ≤ a.world.mark
    → LeadsToBytes start a.world.journal number port from bytes → LeadsToBytes start b.world.journal number port from bytes
shows_on start a b R W port from number bytes few S =
    let front : take number b.world.journal ≡ take number a.world.journal =
    sym (take-take number a.world.mark b.world.journal few) ∙ ap (take number) (walked_stays start a b R W).1 ∙ take-take number a.world.mark a.world.journal few in
    record { state = S.state; leads = ap (after t414 start) front ∙ S.leads; unconfirmed = S.unconfirmed; are = S.are }

walked_later : (a b : Flushing) → Walked a b → moment a.state ≤ moment b.state
walked_later a b W =
    let grew = ap length W.past in let long = length-append a.state.past (map (λ (u : World NodeState). u.disk) W.worlds) in omega (arith, grew, long)

abbrev pieces_of : List PutStep → List PutPiece
pieces_of [] = []
pieces_of (s ∷ ss) = record { bytes = s.bytes; number = s.number; there = s.at.state } ∷ pieces_of ss

same_bytes : (ss : List PutStep) → bytes_put (pieces_of ss) ≡ put_by ss
same_bytes [] = refl
same_bytes (s ∷ ss) = ap (λ l. s.bytes ++ l) (same_bytes ss)

pieces_put : (start : Network NodeState) (old new : Flushing) → Reached start old.world → (least : ℕ) → least ≤ old.world.mark → (port from : ℕ) (ss : List PutStep) → AreSteps start old new port from ss
    → ArePut start new.world.journal least port from old.state new.state (pieces_of ss)
pieces_put start old new R least low port from [] each = tt
pieces_put start old new R least low port from (s ∷ ss) each =
    let S = each.0 in
    let up = (walked_stays start old s.at R S.before).0 in
    let all = S.all in
    let there = reached_at start old s.at R S.before in (
      record {
        behind = omega (arith, low, up, all);
        shows = shows_on start s.at new there S.behind port from s.number s.bytes S.few S.shows;
        later = walked_later old s.at S.before;
        since =
            weaker s.at.state new.state (RecoversTo t414 device_areas start new.world.journal s.at.world.mark) _
            (λ left r. recovers_less start new.world.journal s.at.world.mark s.number left S.few r) (walked_recovers start s.at new there S.behind);
      },
      pieces_put start s.at new there least (omega (arith, low, up)) port (from + length s.bytes) ss each.1,
    )

got : (start : Network NodeState) (old new : Flushing) → Reached start old.world → (least : ℕ) → least ≤ old.world.mark → (a b : OutputValue) → Stepped start old new a b → Got start new.world.journal least a.next old.state new.state a b
got start old new R least low a b S =
    let same = sym (same_bytes S.steps) in
    record {
      port = S.port;
      pieces = pieces_of S.steps;
      each = pieces_put start old new R least low a.port a.next S.steps S.each;
      next = S.next ∙ ap (λ l. a.next + length l) same;
      holds = subst (λ l. HasPut a.next l a.held b.held) same S.holds;
    }

pub all_got : (start : Network NodeState) (old new : Flushing) → Reached start old.world → (least : ℕ) → least ≤ old.world.mark → (xs ys : List OutputValue) → AllStepped start old new xs ys
    → EachWith (λ a b. Got start new.world.journal least a.next old.state new.state a b) xs ys
all_got start old new R least low xs ys each = each_like (Stepped start old new) (λ a b. Got start new.world.journal least a.next old.state new.state a b) (got start old new R least low) xs ys each
