-- What a port of a cut has counted and holds, each entry keeps.
use Rattle.std.proofs.Common.{◌≡◌, ℕ, ◌+◌, ◌-◌, ◌<◌, ◌≤◌, true, List, [], ◌∷◌, ◌++◌, length, drop, subst, arith, Some, slice_get, length-append, length-drop}
use Rattle.std.specs.Prelude.{nat_lt, nat_le, ◌&&◌}
use Rattle.tp_law_device.proofs.Lower.{ltb-true, leb-true, le-leb, and_parts, and_from, Token, Data, Ack, Marker, Entry, MAX_HELD, NodeState, t414, Port, Network, port_took, handed_in, confirmed, acked, first_only, in_flight, next, is_port_of, cond_some, ports_keep}

-- A port has counted no more than `base` entries, and holds no more than it has room for.
pub record PortFits (base : ℕ) (port : Port) : Type 0 where
  pub inputs : port.in_base ≤ base
  pub confirmed_low : port.out_base + length port.outputs ≤ base
  pub pending : length port.pending ≤ MAX_HELD
  pub outputs : length port.outputs ≤ MAX_HELD

abbrev pub PortsFit : ℕ → List Port → Type 0
PortsFit base ports = (p : ℕ) (port : Port) → slice_get ports p ≡ Some port → PortFits base port

-- A port that is one of a cut's fits, and one that fits is one of a cut's.
pub port_fits : (base : ℕ) (port : Port) → is_port_of base port ≡ true → PortFits base port
port_fits base port h =
    let all = and_parts (nat_le (length port.pending) MAX_HELD && nat_le (length port.outputs) MAX_HELD) (nat_le port.in_base base && nat_le (port.out_base + length port.outputs) base) h in
    let few = and_parts (nat_le (length port.pending) MAX_HELD) (nat_le (length port.outputs) MAX_HELD) all.0 in
    let low = and_parts (nat_le port.in_base base) (nat_le (port.out_base + length port.outputs) base) all.1 in
    record {
      inputs = leb-true port.in_base base low.0;
      confirmed_low = leb-true (port.out_base + length port.outputs) base low.1;
      pending = leb-true (length port.pending) MAX_HELD few.0;
      outputs = leb-true (length port.outputs) MAX_HELD few.1;
    }

pub port_of_cut : (base : ℕ) (port : Port) → PortFits base port → is_port_of base port ≡ true
port_of_cut base port F =
    and_from (nat_le (length port.pending) MAX_HELD && nat_le (length port.outputs) MAX_HELD) (nat_le port.in_base base && nat_le (port.out_base + length port.outputs) base)
    (and_from (nat_le (length port.pending) MAX_HELD) (nat_le (length port.outputs) MAX_HELD) (le-leb (length port.pending) MAX_HELD F.pending) (le-leb (length port.outputs) MAX_HELD F.outputs))
    (and_from (nat_le port.in_base base) (nat_le (port.out_base + length port.outputs) base) (le-leb port.in_base base F.inputs) (le-leb (port.out_base + length port.outputs) base F.confirmed_low))

-- ## Each change of a port

some_fits : (n : ℕ) (x after : Port × List Token) → Some x ≡ Some after → PortFits n x.0 → PortFits n after.0
some_fits n x after e fits = let same : x ≡ after = cc in subst (λ y. PortFits n y.0) same fits

took_fits : (n : ℕ) (token : Token) (port : Port) (after : Port × List Token) → PortFits n port → port_took token port ≡ Some after → PortFits (n + 1) after.0
took_fits n (Data byte) port after F e =
    let C = cond_some (nat_lt (length port.outputs) MAX_HELD) (Some (record port { outputs = port.outputs ++ byte ∷ [] }, Ack ∷ [])) after e in
    let room = ltb-true (length port.outputs) MAX_HELD C.0 in
    some_fits (n + 1) (record port { outputs = port.outputs ++ byte ∷ [] }, Ack ∷ []) after C.1
    (record { inputs = omega (arith, F.inputs); confirmed_low = omega (arith, F.confirmed_low, length-append port.outputs (byte ∷ [])); pending = F.pending; outputs = omega (arith, room, length-append port.outputs (byte ∷ [])) })
took_fits n Ack port after F e = go port.pending F.pending e
  where
    go : (pending : List ℕ) → length pending ≤ MAX_HELD → acked pending port ≡ Some after → PortFits (n + 1) after.0
    go [] few e = cc
    go (x ∷ xs) few e =
        some_fits (n + 1) (record port { pending = xs; in_base = port.in_base + 1 }, in_flight xs) after e
        (record { inputs = omega (arith, F.inputs); confirmed_low = omega (arith, F.confirmed_low); pending = omega (arith, few); outputs = F.outputs })
took_fits n Marker port after F e = cc

handed_fits : (n byte : ℕ) (port : Port) (after : Port × List Token) → PortFits n port → handed_in byte port ≡ Some after → PortFits (n + 1) after.0
handed_fits n byte port after F e =
    let C = cond_some (nat_lt (length port.pending) MAX_HELD) (Some (record port { pending = port.pending ++ byte ∷ [] }, first_only port.pending byte)) after e in
    let room = ltb-true (length port.pending) MAX_HELD C.0 in
    some_fits (n + 1) (record port { pending = port.pending ++ byte ∷ [] }, first_only port.pending byte) after C.1
    (record { inputs = omega (arith, F.inputs); confirmed_low = omega (arith, F.confirmed_low); pending = omega (arith, room, length-append port.pending (byte ∷ [])); outputs = F.outputs })

confirmed_fits : (n upto : ℕ) (port : Port) (after : Port × List Token) → PortFits n port → confirmed upto port ≡ Some after → PortFits (n + 1) after.0
confirmed_fits n upto port after F e =
    let C = cond_some (nat_lt port.out_base upto && nat_le upto (port.out_base + length port.outputs)) (Some (record port { outputs = drop (upto - port.out_base) port.outputs; out_base = upto }, [])) after e in
    let both = and_parts (nat_lt port.out_base upto) (nat_le upto (port.out_base + length port.outputs)) C.0 in
    let past : port.out_base < upto = ltb-true port.out_base upto both.0 in
    let there : upto ≤ port.out_base + length port.outputs = leb-true upto (port.out_base + length port.outputs) both.1 in
    some_fits (n + 1) (record port { outputs = drop (upto - port.out_base) port.outputs; out_base = upto }, []) after C.1
    (record {
      inputs = omega (arith, F.inputs);
      confirmed_low = omega (arith, F.confirmed_low, past, there, length-drop (upto - port.out_base) port.outputs);
      pending = F.pending;
      outputs = omega (arith, F.outputs, length-drop (upto - port.out_base) port.outputs);
    })

-- ## Each entry

fits_more : (n : ℕ) (port : Port) → PortFits n port → PortFits (n + 1) port
fits_more n port F = record { inputs = omega (arith, F.inputs); confirmed_low = omega (arith, F.confirmed_low); pending = F.pending; outputs = F.outputs }

-- One entry more counts for one more.
pub ports_next : (n : ℕ) (s : Network NodeState) (e : Entry) (t : Network NodeState) → PortsFit n s.ports → next t414 s e ≡ Some t → PortsFit (n + 1) t.ports
ports_next n s e t all h = ports_keep t414 PortFits (record { more = fits_more; took = took_fits; handed = handed_fits; confirmed_so = confirmed_fits }) n s e t all h
