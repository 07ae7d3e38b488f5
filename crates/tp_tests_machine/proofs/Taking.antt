-- What a node of an image can take, by the ends of its links.
use Rattle.std.proofs.Common.{◌≡◌, ℕ, zero, suc, ◌+◌, ◌*◌, ◌<◌, ◌&&◌, List, take, drop, bytes_eq, refl, sym, ap, ◌∙◌, arith, Option, Some, None, IsSome, Ok}
use Rattle.tp_tests_machine.proofs.Lower.{slice_get, lt-ltb, cond_both, Token, Data, Ack, IMAGE_HEAD_BYTES, ends_at, out_end_at, in_end_at, image_head, is_node, node_at, node_of, took_token, took, NodeState, four_ends_apart, ReadsImage, NodeContents}

-- the end of a link is where its bytes are
pub end_of_link : {End : Type 0} (end_at : List ℕ → End) (at k : ℕ) (bytes : List ℕ) → k < 4
    → slice_get (ends_at end_at 4 (drop at bytes)) k ≡ Some (end_at (drop (at + 16 * k) bytes))
end_of_link end_at at zero bytes h =
    let e : at ≡ at + 0 = omega arith in
    rw (four_ends_apart end_at at bytes) (ap (λ i. Some (end_at (drop i bytes))) e)
end_of_link end_at at (suc zero) bytes h = rw (four_ends_apart end_at at bytes) refl
end_of_link end_at at (suc (suc zero)) bytes h = rw (four_ends_apart end_at at bytes) refl
end_of_link end_at at (suc (suc (suc zero))) bytes h = rw (four_ends_apart end_at at bytes) refl
end_of_link end_at at (suc (suc (suc (suc k)))) bytes h = absurd (omega arith)

pub ack_can_come : (bytes : List ℕ) (k : ℕ) → k < 4
    → ((node : NodeState) (j : ℕ) → slice_get node.outputs j ≡ Some (out_end_at (drop (44 + 16 * k) bytes)) → node.memory ≡ drop IMAGE_HEAD_BYTES bytes → IsSome (took_token node j Ack))
    → IsSome (took (node_at bytes) k Ack)
unfolding took node_at
ack_can_come bytes k h can = rw (lt-ltb k 4 h) (can (node_at bytes) k (end_of_link out_end_at 44 k bytes h) refl)

pub data_can_come : (bytes : List ℕ) (k byte : ℕ) → k < 4
    → ((node : NodeState) (j b : ℕ) → slice_get node.inputs j ≡ Some (in_end_at (drop (108 + 16 * k) bytes)) → node.memory ≡ drop IMAGE_HEAD_BYTES bytes → IsSome (took_token node j (Data b)))
    → IsSome (took (node_at bytes) k (Data byte))
unfolding took node_at
data_can_come bytes k byte h can = rw (lt-ltb k 4 h) (can (node_at bytes) k byte (end_of_link in_end_at 108 k bytes h) refl)

-- the node of an image is the one that its bytes spell
pub node_of-is : (bytes : List ℕ) (state : NodeState) → node_of bytes ≡ Some state → node_at bytes ≡ state
unfolding node_of
node_of-is bytes state =
    cond_both (is_node (node_at bytes) && bytes_eq (take IMAGE_HEAD_BYTES bytes) (image_head (node_at bytes))) (Some (node_at bytes)) None (λ o. o ≡ Some state → node_at bytes ≡ state)
    (λ both is. cc)
    (λ other is. absurd (cc))

-- so what it can take shows in them
pub node_hears : (bytes : List ℕ) (node : NodeContents) (k : ℕ) (token : Token) → ReadsImage (node_of bytes) (Ok node)
    → IsSome (took (node_at bytes) k token) → IsSome (took node.live k token)
node_hears bytes node k token reads can = go (node_of bytes) refl reads
  where
    go : (found : Option NodeState) → node_of bytes ≡ found → ReadsImage found (Ok node) → IsSome (took node.live k token)
    go (Some state) is reads =
        let e : node_at bytes ≡ node.live = node_of-is bytes state is ∙ sym reads.0 in
        rw (sym e) can
    go None is reads = absurd reads
