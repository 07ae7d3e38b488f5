-- What a book keeps of its ports. Each answers on a line of its own. A port can take the token at the front of a line that goes to it, if
-- it has room.
use Rattle.std.proofs.Common.{◌≡◌, ℕ, ◌+◌, ◌*◌, ◌<◌, ◌≤◌, true, false, cond, List, [], ◌∷◌, ◌++◌, length, get_or, refl, sym, ap, subst, ◌∙◌, arith, Option, Some, None, slice_get}
use Rattle.tp_book.proofs.Lower.{option_map, lt-ltb, leb-false, length-map, Token, Data, Ack, Marker, WireEnd, AtPort, MAX_HELD, NodeState, bit, t414_ends, Port, Network, own, receiver, is_wired, line_of, back, on_line, is_first, in_flight, acks, is_some_byte, is_pending, waits_at, end_waits, plain, plain_network, BookState, live, bit_some, same_token-self, own-host, owner_of_port, on_line-plain, acks-plain}
use Rattle.tp_book.specs.Book.{agreed}
use Rattle.tp_book.specs.Kept.{BookKeeps}
use Rattle.tp_book.specs.Ports.{CanTake}
use Rattle.tp_book.specs.Refusals.{takeable_of, is_full_for}
use Rattle.tp_book.proofs.Commit.{length-agreed}

-- ## What can be taken

-- it is at the front
pub takeable_first : (ts : List Token) (token : Token) → takeable_of ts ≡ Some token → (is_first ts token ≡ true) × (get_or ts 0 Marker ≡ token)
takeable_first [] token e = cc
takeable_first (Data b ∷ ts) token e =
    let same : Data b ≡ token = cc in
    (subst (λ t. is_first (Data b ∷ ts) t ≡ true) same (same_token-self (Data b)), same)
takeable_first (Ack ∷ ts) token e =
    let same : Ack ≡ token = cc in
    (subst (λ t. is_first (Ack ∷ ts) t ≡ true) same refl, same)
takeable_first (Marker ∷ ts) token e = cc

-- an Ack at the front is on the line
first_ack : (ts : List Token) → takeable_of ts ≡ Some Ack → 1 ≤ acks ts
first_ack [] e = cc
first_ack (Data b ∷ ts) e = cc
first_ack (Ack ∷ ts) e = omega arith
first_ack (Marker ∷ ts) e = cc

-- and it is no Marker
no_marker : (ts : List Token) → takeable_of ts ≡ Some Marker → ⊥
no_marker [] e = cc
no_marker (Data b ∷ ts) e = cc
no_marker (Ack ∷ ts) e = cc
no_marker (Marker ∷ ts) e = cc

can_be_acked : (pending : List ℕ) (port : Port) → port.pending ≡ pending → is_some_byte pending ≡ true → CanTake port Ack
can_be_acked [] port is some = cc
can_be_acked (x ∷ xs) port is some = record { after = (record port { pending = xs; in_base = port.in_base + 1 }, in_flight xs); is = rw is }

-- a port can take a token, if it has room for it and an Ack finds a byte pending
can_take_front : (ts : List Token) (token : Token) (port : Port) → takeable_of ts ≡ Some token → is_full_for (Some port) token ≡ false
    → (1 ≤ acks ts → is_some_byte port.pending ≡ true) → CanTake port token
can_take_front ts (Data b) port front free pending =
    record {
      after = (record port { outputs = port.outputs ++ b ∷ [] }, Ack ∷ []);
      is = ap (λ c. cond c (Some (record port { outputs = port.outputs ++ b ∷ [] }, Ack ∷ [])) None) (lt-ltb (length port.outputs) MAX_HELD (leb-false MAX_HELD (length port.outputs) free));
    }
can_take_front ts Ack port front free pending = can_be_acked port.pending port refl (pending (first_ack ts front))
can_take_front ts Marker port front free pending = absurd (no_marker ts front)

-- ## The line on which a port answers

wired_back : (end : Option WireEnd) (N y : ℕ) → option_map (line_of N) end ≡ Some y → is_wired end ≡ true
wired_back None N y e = cc
wired_back (Some end) N y e = refl

module _ (b : BookState NodeState) (K : BookKeeps b) (line p : ℕ) (goes : receiver b.start.wires line ≡ Some (AtPort p)) where
  abbrev net : Network NodeState
  net = plain_network (live b (agreed b))

  abbrev N : ℕ
  N = length (agreed b)

  comes_back : back net (4 * N + p) ≡ Some line
  comes_back = K.sound.wires.both_ways line (4 * N + p) (ap (option_map (line_of N)) goes)

  pub answers_on : 4 * length b.start.nodes + p < length b.lines
  answers_on = omega (arith, length-agreed b K, length-map b.lines plain, K.sound.there (4 * N + p) (wired_back (receiver b.start.wires (4 * N + p)) N line comes_back))

  waits_is : end_waits t414_ends net (4 * N + p) ≡ is_pending (slice_get b.ports p)
  waits_is =
      ap (λ q. waits_at t414_ends N (own net q) (4 * N + p)) (owner_of_port N p)
      ∙ ap (λ o. waits_at t414_ends N o (4 * N + p)) (own-host net)
      ∙ ap (λ q. is_pending (slice_get b.ports q)) (omega arith)

  -- if an Ack is on its way, a byte is pending
  is_acked : 1 ≤ acks (on_line b.lines line) → is_pending (slice_get b.ports p) ≡ true
  is_acked some =
      let flight = K.sound.flight (4 * N + p) line comes_back in
      let same : acks (on_line net.lines line) ≡ acks (on_line b.lines line) = ap acks (on_line-plain b.lines line) ∙ acks-plain (on_line b.lines line) in
      bit_some (is_pending (slice_get b.ports p)) (omega (arith, flight, same, ap bit waits_is))

  -- The port can take the front.
  pub can_take : (token : Token) (port : Port) → takeable_of (on_line b.lines line) ≡ Some token → slice_get b.ports p ≡ Some port
      → is_full_for (slice_get b.ports p) token ≡ false → CanTake port token
  can_take token port front at free =
      can_take_front (on_line b.lines line) token port front (sym (ap (λ o. is_full_for o token) at) ∙ free) (λ some. sym (ap is_pending at) ∙ is_acked some)
