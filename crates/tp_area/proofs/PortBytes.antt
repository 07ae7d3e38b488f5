-- A port's record, written field by field.
use Rattle.std.proofs.Common.{◌≡◌, ℕ, ◌+◌, ◌-◌, ◌≤◌, List, [], ◌++◌, length, refl, ap, ◌∙◌, arith, append_assoc, length-append}
use Rattle.tp_area.proofs.Lower.{length-replicate, MAX_HELD, PORT_BYTES, u16_bytes, u64_bytes, padded, zeros, port_bytes, Port}
use Rattle.tp_area.proofs.HeadBytes.{padded-behind}

length-padded : (n : ℕ) (xs : List ℕ) → length xs ≤ n → length (padded n xs) ≡ n
length-padded n xs le = omega (arith, length-append xs (zeros (n - length xs)), length-replicate {A = ℕ} (n - length xs) 0)

fields : Port → List ℕ
fields port = u64_bytes port.in_base ++ u64_bytes port.out_base ++ u16_bytes (length port.pending) ++ u16_bytes (length port.outputs)

length-fields : (port : Port) → length (fields port) ≡ 20
unfolding fields
length-fields port = refl

pub port_bytes-put : (port : Port) (empty one two three four filled half whole : List ℕ) → length port.pending ≤ MAX_HELD → length port.outputs ≤ MAX_HELD
    → empty ≡ [] → one ≡ empty ++ u64_bytes port.in_base → two ≡ one ++ u64_bytes port.out_base
    → three ≡ two ++ u16_bytes (length port.pending) → four ≡ three ++ u16_bytes (length port.outputs)
    → filled ≡ four ++ port.pending → half ≡ padded (20 + MAX_HELD) filled → whole ≡ half ++ port.outputs
    → padded PORT_BYTES whole ≡ port_bytes port
unfolding fields
port_bytes-put port empty one two three four filled half whole few few_outputs s0 s1 s2 s3 s4 s5 s6 s7 =
    let a = u64_bytes port.in_base in
    let b = u64_bytes port.out_base in
    let c = u16_bytes (length port.pending) in
    let d = u16_bytes (length port.outputs) in
    let pending = padded MAX_HELD port.pending in
    let outputs = padded MAX_HELD port.outputs in
    let to_fields : four ≡ fields port = s4 ∙ ap (λ xs. xs ++ d) (s3 ∙ ap (λ xs. xs ++ c) (s2 ∙ ap (λ xs. xs ++ b) (s1 ∙ ap (λ xs. xs ++ a) s0))) in
    let to_half : half ≡ fields port ++ pending =
    s6 ∙ ap (padded (20 + MAX_HELD)) (s5 ∙ ap (λ xs. xs ++ port.pending) to_fields)
    ∙ padded-behind MAX_HELD (20 + MAX_HELD) (fields port) port.pending (omega (arith, length-fields port)) in
    let long : length (fields port ++ pending) ≡ 20 + MAX_HELD =
    length-append (fields port) pending ∙ omega (arith, length-fields port, length-padded MAX_HELD port.pending few) in
    let all : padded PORT_BYTES whole ≡ (fields port ++ pending) ++ outputs =
    ap (padded PORT_BYTES) (s7 ∙ ap (λ xs. xs ++ port.outputs) to_half)
    ∙ padded-behind MAX_HELD PORT_BYTES (fields port ++ pending) port.outputs (omega (arith, long)) in
    all
    ∙ append_assoc (a ++ b ++ c ++ d) pending outputs
    ∙ append_assoc (a ++ b ++ c) d (pending ++ outputs)
    ∙ append_assoc (a ++ b) c (d ++ (pending ++ outputs))
    ∙ append_assoc a b (c ++ (d ++ (pending ++ outputs)))
