-- A node can take the token at the front of a line that goes to it: in a sound network the end waits for it.
use Rattle.std.proofs.Common.{◌≡◌, ℕ, ◌+◌, ◌*◌, ◌%◌, ◌<◌, ◌≤◌, true, false, length, drop, refl, sym, ap, ◌∙◌, arith, Some, IsSome, slice_get}
use Rattle.tp_replay.proofs.Lower.{Token, Data, Ack, Marker, Link, NodeState, took, holds, waits, t414_ends, Network, OfNode, own, receiver, back, line_of, on_line, is_first, is_marker, datas, acks, owner, end_waits, end_holds, bit, option_map, true≢false, takes_data, takes_ack, first_is, bit_none, bit_some, bit_small, owner_of_link, end_waits_is, end_holds_is}
use Rattle.tp_replay.specs.Flat.{IsFlat}
use Rattle.tp_replay.proofs.Steps.{own_there}

module _ (s : Network NodeState) (F : IsFlat s) (line i k : ℕ) (n : NodeState) (to : receiver s.wires line ≡ Some (Link i k)) (at : slice_get s.nodes i ≡ Some n) where
  comes_back : back s line ≡ Some (4 * i + k)
  comes_back = ap (option_map (line_of (length s.nodes))) to

  ends : (i < length s.nodes) × (k < 4)
  ends = F.sound.wires.links line i k to

  link : (4 * i + k) % 4 ≡ k
  link = omega (arith, ends.1)

  own_end : own s (owner (length s.nodes) (4 * i + k)) ≡ Some (OfNode n)
  own_end = ap (own s) (owner_of_link (length s.nodes) i k ends.0 ends.1) ∙ own_there s i n at

  data_front : (byte : ℕ) → is_first (on_line s.lines line) (Data byte) ≡ true → IsSome (took n k (Data byte))
  data_front byte front =
      let one : datas (on_line s.lines line) ≡ 1 + datas (drop 1 (on_line s.lines line)) = ap datas (first_is (on_line s.lines line) (Data byte) front) in
      let flight = F.sound.flight line (4 * i + k) comes_back in
      let most = bit_small (end_waits t414_ends s line) in
      let none : bit (end_holds t414_ends s (4 * i + k)) ≡ 0 = omega arith in
      let free : holds n k ≡ false = ap (holds n) (sym link) ∙ sym (end_holds_is t414_ends s (length s.nodes) (4 * i + k) (OfNode n) refl own_end) ∙ bit_none (end_holds t414_ends s (4 * i + k)) none in
      takes_data n k byte (F.nodes i n at).image ends.1 free

  ack_front : is_first (on_line s.lines line) Ack ≡ true → IsSome (took n k Ack)
  ack_front front =
      let one : acks (on_line s.lines line) ≡ 1 + acks (drop 1 (on_line s.lines line)) = ap acks (first_is (on_line s.lines line) Ack front) in
      let flight = F.sound.flight (4 * i + k) line (F.sound.wires.both_ways line (4 * i + k) comes_back) in
      let some : 1 ≤ bit (end_waits t414_ends s (4 * i + k)) = omega arith in
      let stands : waits n k ≡ true = ap (waits n) (sym link) ∙ sym (end_waits_is t414_ends s (length s.nodes) (4 * i + k) (OfNode n) refl own_end) ∙ bit_some (end_waits t414_ends s (4 * i + k)) some in
      takes_ack n k (F.nodes i n at).image ends.1 stands

  -- so any token but a Marker is taken
  pub front_taken : (token : Token) → is_marker token ≡ false → is_first (on_line s.lines line) token ≡ true → IsSome (took n k token)
  front_taken (Data byte) plain front = data_front byte front
  front_taken Ack plain front = ack_front front
  front_taken Marker plain front = absurd (true≢false plain)
