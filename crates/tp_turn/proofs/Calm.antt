-- A book of one node and one port that has no device, and in which no snapshot runs: what acts journal in it. Its calls only fail if memory
-- is out.
use Rattle.std.proofs.Common.{◌≡◌, ℕ, ◌+◌, ◌<◌, Bool, true, false, inl, inr, List, [], ◌∷◌, length, refl, sym, ap, subst, ◌∙◌, arith, Option, Some, None, get_or, ◌⊎◌}
use Rattle.std.specs.Prelude.{◌-◌, count_by, is_none, nat_lt, Err}
use Rattle.tp_turn.proofs.Lower.{option_map, cases_Bool, le-ltb, Token, Data, Ack, Marker, Entry, Take, NUMBER_LIMIT, WireEnd, Link, AtPort, NodeState, t414, Network, back, line_of, on_line, is_first, receiver, next, process, takes, after, is_full, MarkedNetwork, collected, journalled, Act, Journal, Close, acted, close_line, happens, has_four_links, bind_some, after_one, after_shape, BookValue, agreed, next_in_book, reserved, world_of, network_now, else_if, entry_refusal, host_refusal, is_full_for, is_full_for_take, is_journal_full, needs_take, port_behind, reserve_refusal, takeable_of, IsAnswer, Refusal, JournalFull, Memory, NothingToTake, PortFull, StoreBroken, none_reserved, full_for_any}
use Rattle.tp_turn.specs.Books.{Grew}
use Rattle.tp_turn.specs.Fronts.{front_act}
use Rattle.tp_turn.specs.Moments.{entries_among}
use Rattle.tp_turn.proofs.Grown.{grew_next}
use Rattle.tp_turn.specs.Lone.{IsLoneBook, Made, lone_value}
use Rattle.tp_turn.specs.TrialTurns.{TookSo, port_there}

-- ## What acts journal

-- entries that were journalled
pub record Goes (es : List Entry) (a b : BookValue) : Type 0 where
  pub leads : after t414 (network_now a) es ≡ Some (network_now b)
  pub book : IsLoneBook b
  pub count : next_in_book b ≡ next_in_book a + length es

record Journalled (w v : MarkedNetwork NodeState) (e : Entry) : Type 0 where
  leads : next t414 w.live e ≡ Some v.live
  snapshot : v.snapshot ≡ option_map (collected (process w.start.wires (length w.start.nodes) e) (takes w.live.wires (length w.live.nodes) e)) w.snapshot

one_journalled : (w v : MarkedNetwork NodeState) (e : Entry) → acted t414 w (Journal e ∷ []) ≡ Some v → Journalled w v e
unfolding acted happens
one_journalled w v e h =
    let first = bind_some (happens t414 w (Journal e)) (λ x. acted t414 x []) v h in
    let second = bind_some (next t414 w.live e) (λ live. Some (journalled w e live)) first.0 first.1 in
    let made : journalled w e second.0 ≡ first.0 = let it : Some (journalled w e second.0) ≡ Some first.0 = second.2 in cc in
    let same : first.0 ≡ v = let it : Some first.0 ≡ Some v = first.2 in cc in
    let is : journalled w e second.0 ≡ v = made ∙ same in
    record { leads = second.1 ∙ ap (λ (x : MarkedNetwork NodeState). Some x.live) is; snapshot = sym (ap (λ (x : MarkedNetwork NodeState). x.snapshot) is) }

-- no line is closed if no snapshot runs
no_close : (w v : MarkedNetwork NodeState) (line : ℕ) → w.snapshot ≡ None → acted t414 w (Close line ∷ []) ≡ Some v → ⊥
unfolding acted happens
no_close w v line idle h =
    let first = bind_some (happens t414 w (Close line)) (λ x. acted t414 x []) v h in
    let none : close_line w w.snapshot line ≡ None = ap (λ given. close_line w given line) idle in
    let some : close_line w w.snapshot line ≡ Some first.0 = first.1 in
    cc

goes : (es : List Entry) (a b : BookValue) → IsLoneBook a → Grew es a b → length (agreed b.state) ≡ length (agreed a.state) → b.state.snapshot ≡ None → after t414 (network_now a) es ≡ Some (network_now b) → Goes es a b
goes es a b L G many idle leads = record {
  leads = leads;
  book = record {
    alone = G.room ∙ L.alone;
    idle = idle;
    ready = G.ready ∙ L.ready;
    runs = G.runs ∙ L.runs;
    whole = G.broken ∙ L.whole;
    nodes = ap (λ (s : Network NodeState). length s.nodes) G.start ∙ L.nodes;
    many = many ∙ L.many;
    ports = (after_shape t414 has_four_links (network_now a) (network_now b) es leads).ports ∙ L.ports;
    form = G.form ∙ L.form;
  };
  count = grew_next es a b G;
}

module _ (a b : BookValue) (L : IsLoneBook a) (acts : List Act) (did : acted t414 (world_of a) acts ≡ Some (world_of b)) (grew : Grew (entries_among acts) a b) (many : length (agreed b.state) ≡ length (agreed a.state)) where
  -- an entry was journalled
  pub goes_one : (e : Entry) → acts ≡ Journal e ∷ [] → Goes (e ∷ []) a b
  goes_one e are =
      let J = one_journalled (world_of a) (world_of b) e (subst (λ x. acted t414 (world_of a) x ≡ Some (world_of b)) are did) in
      goes (e ∷ []) a b L (subst (λ x. Grew (entries_among x) a b) are grew) many
      (J.snapshot ∙ ap (option_map (collected (process a.state.start.wires (length a.state.start.nodes) e) (takes (network_now a).wires (length (network_now a).nodes) e))) L.idle)
      (after_one t414 (network_now a) e ∙ J.leads)

  -- nothing was done
  pub goes_none : acts ≡ [] → Goes [] a b
  unfolding acted after
  goes_none are =
      let nothing : Some (world_of a) ≡ Some (world_of b) = subst (λ x. acted t414 (world_of a) x ≡ Some (world_of b)) are did in
      let same : world_of a ≡ world_of b = cc in
      goes [] a b L (subst (λ x. Grew (entries_among x) a b) are grew) many
      (sym (ap (λ (w : MarkedNetwork NodeState). w.snapshot) same) ∙ L.idle)
      (ap (λ (w : MarkedNetwork NodeState). Some w.live) same)

  -- what was at the front of a line was taken
  pub front_goes : (line : ℕ) (token : Token) → acts ≡ front_act line token ∷ [] → Goes (Take line token ∷ []) a b
  front_goes line (Data byte) are = goes_one (Take line (Data byte)) are
  front_goes line Ack are = goes_one (Take line Ack) are
  front_goes line Marker are = absurd (no_close (world_of a) (world_of b) line L.idle (subst (λ x. acted t414 (world_of a) x ≡ Some (world_of b)) are did))

pub took_goes : (a b : BookValue) (line : ℕ) (token : Token) → Goes (Take line token ∷ []) a b → Made (TookSo line 1) 1 (lone_value a) (lone_value b)
took_goes a b line token G = record {
  entries = Take line token ∷ [];
  few = omega arith;
  counted = G.count;
  did = record { tokens = token ∷ []; many = refl; are = refl; leads = G.leads };
}

pub same_value : (a b : BookValue) → Goes [] a b → lone_value a ≡ lone_value b
unfolding after
same_value a b G =
    let nets : Some (network_now a) ≡ Some (network_now b) = G.leads in
    let net : network_now a ≡ network_now b = cc in
    let number : next_in_book a ≡ next_in_book b = omega (arith, G.count) in
    ap (λ s. record { network = s; entries = next_in_book a }) net ∙ ap (λ n. record { network = network_now b; entries = n }) number

-- ## What a book refuses

module _ (b : BookValue) (L : IsLoneBook b) (left : next_in_book b + 1 < NUMBER_LIMIT) where
  free : is_journal_full b 1 ≡ false
  free =
      let none : reserved b ≡ 0 = ap (count_by (λ run. run)) L.runs ∙ none_reserved 1 in
      let numbers : nat_lt (NUMBER_LIMIT - 1) (next_in_book b + reserved b + 1) ≡ false = le-ltb (NUMBER_LIMIT - 1) (next_in_book b + reserved b + 1) (omega (arith, left, none)) in
      ap (λ r. is_full r (length b.state.lines) (length b.state.entries) (reserved b) (next_in_book b) 1) L.alone ∙ numbers

  free_take : (needed : Bool) → is_full_for_take b needed ≡ false
  free_take needed = elim (cases_Bool (is_full_for_take b needed)) [
    | inl full ↦ absurd (let any = full_for_any b needed full in let not = free in cc)
    | inr not ↦ not
  ]

  -- a run
  pub nothing_refused : reserve_refusal b ≡ None
  nothing_refused = ap (λ broken. entry_refusal b 1 (else_if None broken StoreBroken)) L.whole ∙ ap (λ full. else_if None full JournalFull) free

  pub run_refused : (A : Type 0) (e : Refusal) → IsAnswer {A = A} (reserve_refusal b) (Err e) → e ≡ Memory
  run_refused A e = subst (λ o. IsAnswer {A = A} o (Err e) → e ≡ Memory) (sym nothing_refused) (λ is. is)

  -- a port's take
  pub host_refused : (line : ℕ) (r : Refusal) → host_refusal b line ≡ Some r
      → (r ≡ NothingToTake) ⊎ (is_full_for (port_behind b (receiver b.state.start.wires line)) (get_or (on_line b.state.lines line) 0 Marker) ≡ true)
  host_refused line r =
      go (is_none (takeable_of (on_line b.state.lines line))) b.broken (is_full_for (port_behind b (receiver b.state.start.wires line)) (get_or (on_line b.state.lines line) 0 Marker)) (is_full_for_take b (needs_take b line))
      L.whole (free_take (needs_take b line))
    where
      go : (none broken port full : Bool) → broken ≡ false → full ≡ false → else_if (else_if (else_if (else_if None none NothingToTake) broken StoreBroken) port PortFull) full JournalFull ≡ Some r → (r ≡ NothingToTake) ⊎ (port ≡ true)
      go true broken port full whole not e = inl cc
      go false true port full whole not e = cc
      go false false true full whole not e = inr refl
      go false false false true whole not e = cc
      go false false false false whole not e = cc

-- if the port has no room, the answer isn't a full journal
pub host_not_full : (b : BookValue) → IsLoneBook b → next_in_book b + 1 < NUMBER_LIMIT → (line : ℕ) → host_refusal b line ≡ Some JournalFull → ⊥
host_not_full b L left line =
    go (is_none (takeable_of (on_line b.state.lines line))) b.broken (is_full_for (port_behind b (receiver b.state.start.wires line)) (get_or (on_line b.state.lines line) 0 Marker)) (is_full_for_take b (needs_take b line))
    (free_take b L left (needs_take b line))
  where
    go : (none broken port full : Bool) → full ≡ false → else_if (else_if (else_if (else_if None none NothingToTake) broken StoreBroken) port PortFull) full JournalFull ≡ Some JournalFull → ⊥
    go true broken port full not e = cc
    go false true port full not e = cc
    go false false true full not e = cc
    go false false false true not e = cc
    go false false false false not e = cc

pub host_not_broken : (b : BookValue) → b.broken ≡ false → (line : ℕ) → host_refusal b line ≡ Some StoreBroken → ⊥
host_not_broken b whole line =
    go (is_none (takeable_of (on_line b.state.lines line))) b.broken (is_full_for (port_behind b (receiver b.state.start.wires line)) (get_or (on_line b.state.lines line) 0 Marker)) (is_full_for_take b (needs_take b line)) whole
  where
    go : (none broken port full : Bool) → broken ≡ false → else_if (else_if (else_if (else_if None none NothingToTake) broken StoreBroken) port PortFull) full JournalFull ≡ Some StoreBroken → ⊥
    go true broken port full whole e = cc
    go false true port full whole e = cc
    go false false true full whole e = cc
    go false false false true whole e = cc
    go false false false false whole e = cc

-- ## The network

-- a Marker at the front is nothing to take
pub marker_stays : (ts : List Token) → is_first ts Marker ≡ true → takeable_of ts ≡ None
marker_stays [] e = refl
marker_stays (Data byte ∷ ts) e = cc
marker_stays (Ack ∷ ts) e = cc
marker_stays (Marker ∷ ts) e = refl

pub port_same : (b : BookValue) (end : Option WireEnd) → port_behind b end ≡ port_there b.state.ports end
port_same b None = refl
port_same b (Some (Link i k)) = refl
port_same b (Some (AtPort p)) = refl

pub back_now : (b : BookValue) → IsLoneBook b → (out : ℕ) → back b.state.start out ≡ back (network_now b) out
back_now b L out = ap (λ n. option_map (line_of n) (receiver b.state.start.wires out)) (L.nodes ∙ sym L.many)
