-- What has come out of a port is what the entries put out.
use Rattle.std.proofs.Common.{◌≡◌, ℕ, ◌+◌, ◌-◌, List, [], ◌∷◌, length, take, refl, sym, subst, ◌∙◌, arith, append-nil, Option, Some}
use Rattle.std.specs.Prelude.{slice_get, ◌==◌, ◌&&◌, nat_lt, nat_le}
use Rattle.tp_law_processes.proofs.Lower.{take-append-drop, and_parts, ltb-true, leb-true, length-take-le, cond_some, Token, Data, Ack, Marker, WireEnd, Entry, Run, Take, HostIn, Confirm, Turn, Machine, Network, Port, receiver, HasFourLinks, port_took, acked, in_flight, handed_in, confirmed, after, is_at}
use Rattle.tp_law_processes.specs.Outputs.{byte_out, bytes_out, Grew}
use Rattle.tp_law_processes.proofs.Changes.{Becomes, Brings, after_holds, change_at, if_holds, none_holds, same_holds}
use Rattle.tp_law_processes.proofs.Queue.{moved_then, unmoved}

none : (port : Port) → Grew [] port port
none port = unmoved port.out_base port.outputs

abbrev byte_put : Token → List ℕ
byte_put (Data b) = b ∷ []
byte_put Ack = []
byte_put Marker = []

took_grew : (token : Token) → Brings Grew none (port_took token) (byte_put token)
took_grew (Data b) port later sends e =
    subst (λ r. Grew (b ∷ []) port r.0) (cond_some _ _ (later, sends) e).1 (record { gone = []; base = omega arith; are = refl })
took_grew Ack port later sends e = go port.pending e
  where
    go : (xs : List ℕ) → acked xs port ≡ Some (later, sends) → Grew [] port later
    go [] e = cc
    go (x ∷ xs) e =
        let same : ◌≡◌ {A = Port × List Token} (record port { pending = xs; in_base = port.in_base + 1 }, in_flight xs) (later, sends) = cc in
        subst (λ r. Grew [] port r.0) same (unmoved port.out_base port.outputs)
took_grew Marker port later sends e = cc

handed_grew : (x : ℕ) → Brings Grew none (handed_in x) []
handed_grew x port later sends e = subst (λ r. Grew [] port r.0) (cond_some _ _ (later, sends) e).1 (unmoved port.out_base port.outputs)

confirmed_grew : (upto : ℕ) → Brings Grew none (confirmed upto) []
confirmed_grew upto port later sends e =
    let found = cond_some (nat_lt port.out_base upto && nat_le upto (port.out_base + length port.outputs)) _ (later, sends) e in
    let tests = and_parts (nat_lt port.out_base upto) (nat_le upto (port.out_base + length port.outputs)) found.0 in
    let low = ltb-true port.out_base upto tests.0 in
    let high = leb-true upto (port.out_base + length port.outputs) tests.1 in
    let long = length-take-le (upto - port.out_base) port.outputs (omega (arith, low, high)) in
    subst (λ r. Grew [] port r.0) found.1 (record {
      gone = take (upto - port.out_base) port.outputs;
      base = omega (arith, low, high, long);
      are = append-nil port.outputs ∙ sym (take-append-drop (upto - port.out_base) port.outputs);
    })

entry_grew : (p : ℕ) (wires : List (Option WireEnd)) (e : Entry) (before later : Port) → Becomes (change_at wires p e) before later → Grew (byte_out wires p e) before later
entry_grew p wires (Run i k) before later B = same_holds Grew none before later B
entry_grew p wires (Take line (Data b)) before later B = if_holds Grew none (is_at p (receiver wires line)) (port_took (Data b)) (b ∷ []) (took_grew (Data b)) before later B
entry_grew p wires (Take line Ack) before later B = none_holds Grew none (is_at p (receiver wires line)) (port_took Ack) (took_grew Ack) before later B
entry_grew p wires (Take line Marker) before later B = none_holds Grew none (is_at p (receiver wires line)) (port_took Marker) (took_grew Marker) before later B
entry_grew p wires (HostIn q x) before later B = none_holds Grew none (q == p) (handed_in x) (handed_grew x) before later B
entry_grew p wires (Confirm q upto) before later B = none_holds Grew none (q == p) (confirmed upto) (confirmed_grew upto) before later B
entry_grew p wires (Turn i links k) before later B = same_holds Grew none before later B

pub after_grown : {Node : Type 0} (M : Machine Node) → HasFourLinks M → (s t : Network Node) (es : List Entry) → after M s es ≡ Some t
    → (p : ℕ) (port : Port) → slice_get s.ports p ≡ Some port → (later : Port) × (slice_get t.ports p ≡ Some later) × Grew (bytes_out s.wires p es) port later
after_grown M four s t es h p port at =
    after_holds Grew none (λ one two a b c F G. moved_then one two a.out_base b.out_base c.out_base a.outputs b.outputs c.outputs F G)
    p (λ wires e. byte_out wires p e) (entry_grew p) M four s t es h port at
