-- Markers that are sent and taken leave what every book keeps.
use Rattle.std.proofs.Common.{◌≡◌, ℕ, ◌+◌, ◌<◌, ◌≤◌, Bool, true, false, List, [], ◌∷◌, ◌++◌, length, map, set, get_or, replicate, zero, suc, drop, refl, sym, ap, subst, ◌∙◌, arith, length-set, Option, Some, None, slice_get, not, inl, inr, get_or-set_same, get_or-set_other}
use Rattle.std.specs.Prelude.{is_some}
use Rattle.tp_book.proofs.Lower.{option_map, Token, Marker, NodeState, t414, t414_ends, has_wire, on_line, is_first, sent, process, made, Sound, before, has_marker, markers, plain, plain_network, unmarked, Snapshot, has_recorded, first_snapshot, with_count, with_closed, closed_over, host_markers, node_markers, BookState, live, marked, with_begin, with_record, with_close, with_close_over, Begin, Record, Close, happens, has_four_links, never_marks, made_past, on_set_same, marker_there, running, LINE_TOKENS, CutInvariant, few_markers, happens_holds, begin_joins, record_joins, close_joins, close_over_joins, and_parts, cases_eq, cases_lt, get_or_past, NUMBER_LIMIT}
use Rattle.tp_book.specs.SnapCounted.{SnapshotsValue}
use Rattle.tp_book.specs.Needs.{has_recorded_in, is_asked, KnowsLine, HasRoomBefore}
use Rattle.tp_book.specs.Book.{BookValue, agreed, world_of}
use Rattle.tp_book.specs.Kept.{BookKeeps, IsShaped}
use Rattle.tp_book.specs.Joined.{book_joined, HasFloor, HostRecorded, BookStands}
use Rattle.tp_book.specs.Marked.{with_lines, after_begin, after_record, after_close, after_close_over, is_closable, taker_of}
use Rattle.tp_book.proofs.Commit.{length-agreed}
use Rattle.tp_book.proofs.Told.{ages_kept, floor_kept}
use Rattle.tp_book.proofs.Entered.{keeps_joined, cut_small}
use Rattle.tp_book.proofs.Front.{front_begun, front_kept, front_recorded}

-- Other lines with the tokens of these but for Markers, and with no two Markers on one.
pub remarked : (b : BookState NodeState) → BookKeeps b → (lines : List (List Token)) → map plain lines ≡ map plain b.lines → ((line : ℕ) → markers (on_line lines line) ≤ 1) → BookKeeps (record b { lines = lines })
unfolding agreed
remarked b K lines same few = record {
  history = K.history ∙ ap (λ given. Some (record (live b (agreed b)) { lines = given })) (sym same);
  sound = subst (λ given. Sound t414_ends (record (live b (agreed b)) { lines = given })) (sym same) K.sound;
  marked = few;
}

-- ## A snapshot begins

host_counted : (n h : ℕ) → is_some (get_or (replicate n None ++ Some h ∷ []) n (Some 0)) ≡ true
host_counted zero h = refl
host_counted (suc n) h = host_counted n h

module _ (j : BookValue) (s : SnapshotsValue) (g : ℕ) (B : BookStands j s g) (K : BookKeeps j.state) where
  abbrev st : BookState NodeState
  st = (book_joined j s g).state

  as_many : length (agreed st) ≡ length st.start.nodes
  as_many = length-agreed st (keeps_joined j s g K)

  module _ (idle : s.snapshot ≡ None) where
    pub begin_act : happens t414 (world_of (book_joined j s g)) Begin ≡ Some (world_of (after_begin (book_joined j s g)))
    unfolding agreed
    begin_act = begin_joins t414 st (agreed st) s.frozen as_many idle ∙ ap (λ n. Some (marked (with_begin st) (agreed st) (replicate n None))) as_many

    pub begin_holds : CutInvariant t414 (world_of (after_begin (book_joined j s g)))
    begin_holds = happens_holds t414 has_four_links never_marks (world_of (book_joined j s g)) (world_of (after_begin (book_joined j s g))) Begin B.holds begin_act

    pub begin_few : (line : ℕ) → markers (on_line (sent (has_wire j.state.start.wires) j.state.lines (host_markers (length j.state.start.nodes) (length j.state.ports))) line) ≤ 1
    begin_few = few_markers t414 (world_of (after_begin (book_joined j s g))) begin_holds

  module _ (node : ℕ) (snap : Snapshot) (runs : s.snapshot ≡ Some snap) (below : node < length j.state.start.nodes) (new : has_recorded snap node ≡ false) where
    record_is : after_record (book_joined j s g) node ≡ record (book_joined j s g) { state = with_record st snap node; frozen = set s.frozen node (slice_get (agreed st) node) }
    record_is = ap (λ given. record (after_record (book_joined j s g) node) { state = record (after_record (book_joined j s g) node).state { snapshot = option_map (λ x. with_count x node (made (process st.start.wires (length st.start.nodes)) node st.entries)) given } }) runs

    pub record_act : happens t414 (world_of (book_joined j s g)) (Record node) ≡ Some (world_of (after_record (book_joined j s g) node))
    unfolding agreed
    record_act =
        record_joins t414 st (agreed st) s.frozen as_many snap node runs (omega (arith, below, as_many)) new
        ∙ ap (λ (b : BookValue). Some (world_of b)) (sym record_is)

    pub record_holds : CutInvariant t414 (world_of (after_record (book_joined j s g) node))
    record_holds = happens_holds t414 has_four_links never_marks (world_of (book_joined j s g)) (world_of (after_record (book_joined j s g) node)) (Record node) B.holds record_act

    pub record_few : (line : ℕ) → markers (on_line (sent (has_wire j.state.start.wires) j.state.lines (node_markers node)) line) ≤ 1
    record_few = few_markers t414 (world_of (after_record (book_joined j s g) node)) record_holds

  module _ (line : ℕ) (snap : Snapshot) (runs : s.snapshot ≡ Some snap) (front : is_first (on_line j.state.lines line) Marker ≡ true)
      (has : has_recorded snap (taker_of (book_joined j s g) line) ≡ true) where
    close_is : after_close (book_joined j s g) line ≡ record (book_joined j s g) { state = with_close st snap line }
    close_is = ap (λ given. record (after_close (book_joined j s g) line) { state = record (after_close (book_joined j s g) line).state { snapshot = option_map (λ x. with_closed x line) given } }) runs

    pub close_act : happens t414 (world_of (book_joined j s g)) (Close line) ≡ Some (world_of (after_close (book_joined j s g) line))
    unfolding agreed
    close_act = close_joins t414 st (agreed st) s.frozen as_many snap line runs front has ∙ ap (λ (b : BookValue). Some (world_of b)) (sym close_is)

    pub close_holds : CutInvariant t414 (world_of (after_close (book_joined j s g) line))
    close_holds = happens_holds t414 has_four_links never_marks (world_of (book_joined j s g)) (world_of (after_close (book_joined j s g) line)) (Close line) B.holds close_act

    pub close_few : (l : ℕ) → markers (on_line (set j.state.lines line (drop 1 (on_line j.state.lines line))) l) ≤ 1
    close_few = few_markers t414 (world_of (after_close (book_joined j s g) line)) close_holds

  module _ (line : ℕ) (snap : Snapshot) (runs : s.snapshot ≡ Some snap) (marker : has_marker (on_line j.state.lines line) ≡ true)
      (has : has_recorded snap (taker_of (book_joined j s g) line) ≡ true) where
    abbrev passed : List Token
    passed = before (on_line j.state.lines line)

    over_is : after_close_over (book_joined j s g) line ≡ record (book_joined j s g) { state = with_close_over st snap line }
    over_is = ap (λ given. record (after_close_over (book_joined j s g) line) { state = record (after_close_over (book_joined j s g) line).state { snapshot = option_map (λ x. closed_over x line passed) given } }) runs

    pub over_act : happens t414 (world_of (book_joined j s g)) (Close line) ≡ Some (world_of (after_close_over (book_joined j s g) line))
    unfolding agreed
    over_act = close_over_joins t414 st (agreed st) s.frozen as_many snap line runs marker has ∙ ap (λ (b : BookValue). Some (world_of b)) (sym over_is)

    pub over_holds : CutInvariant t414 (world_of (after_close_over (book_joined j s g) line))
    over_holds = happens_holds t414 has_four_links never_marks (world_of (book_joined j s g)) (world_of (after_close_over (book_joined j s g) line)) (Close line) B.holds over_act

    pub over_few : (l : ℕ) → markers (on_line (set j.state.lines line (unmarked (on_line j.state.lines line))) l) ≤ 1
    over_few = few_markers t414 (world_of (after_close_over (book_joined j s g) line)) over_holds

    over_there : line < length snap.lines
    over_there = let R = running t414 (world_of (book_joined j s g)) B.holds snap runs in omega (arith, marker_there j.state.lines line marker, R.cut_lines)

    over_small : length (on_line snap.lines line ++ passed) ≤ LINE_TOKENS
    over_small =
        let few = cut_small (world_of (after_close_over (book_joined j s g) line)) over_holds B.origin (closed_over snap line passed) (ap (option_map (λ x. closed_over x line passed)) runs) line in
        omega (arith, few, ap length (on_set_same snap.lines line (on_line snap.lines line ++ passed) over_there))

    pub over_room : HasRoomBefore s.snapshot j.state.lines line
    over_room other is = let alike : Some snap ≡ Some other = sym runs ∙ is in let same : snap ≡ other = cc in subst (λ x. (line < length x.lines) × (length (on_line x.lines line ++ passed) ≤ LINE_TOKENS)) same (over_there, over_small)

    pub over_known : KnowsLine s.snapshot line
    over_known other is =
        let R = running t414 (world_of (book_joined j s g)) B.holds other is in
        omega (arith, marker_there j.state.lines line marker, R.cut_closed)

-- ## The snapshot that runs

pub none_of : (given : Option Snapshot) → is_some given ≡ false → given ≡ None
none_of None e = refl
none_of (Some snap) e = cc

pub running_in : (given : Option Snapshot) (p : ℕ) → has_recorded_in given p ≡ true → (snap : Snapshot) × (given ≡ Some snap) × (has_recorded snap p ≡ true)
running_in None p e = cc
running_in (Some snap) p e = (snap, refl, e)

-- a line that can be closed
pub closable_in : (b : BookValue) (line : ℕ) → is_closable b line ≡ true → (has_marker (on_line b.state.lines line) ≡ true) × (has_recorded_in b.state.snapshot (taker_of b line) ≡ true)
closable_in b line e = and_parts (has_marker (on_line b.state.lines line)) (has_recorded_in b.state.snapshot (taker_of b line)) e

pub asked_in : (given : Option Snapshot) (p : ℕ) → is_asked given p ≡ true → (snap : Snapshot) × (given ≡ Some snap) × (has_recorded snap p ≡ false)
asked_in None p e = cc
asked_in (Some snap) p e = (snap, refl, not_true (has_recorded snap p) e)
  where
    not_true : (b : Bool) → not b ≡ true → b ≡ false
    not_true true h = cc
    not_true false h = refl

-- each process that has recorded still has
closed_host : (given : Option Snapshot) (line host : ℕ) → HostRecorded given host → HostRecorded (option_map (λ x. with_closed x line) given) host
closed_host None line host H snap e = cc
closed_host (Some old) line host H snap e = let is : with_closed old line ≡ snap = cc in ap (λ x. has_recorded x host) (sym is) ∙ H old refl

passed_host : (given : Option Snapshot) (line host : ℕ) (tokens : List Token) → HostRecorded given host → HostRecorded (option_map (λ x. closed_over x line tokens) given) host
passed_host None line host tokens H snap e = cc
passed_host (Some old) line host tokens H snap e = let is : closed_over old line tokens ≡ snap = cc in ap (λ x. has_recorded x host) (sym is) ∙ H old refl

counted_host : (given : Option Snapshot) (node count host : ℕ) → HostRecorded given host → HostRecorded (option_map (λ x. with_count x node count) given) host
counted_host None node count host H snap e = cc
counted_host (Some old) node count host H snap e =
    let is : with_count old node count ≡ snap = cc in
    ap (λ x. has_recorded x host) (sym is) ∙ still old.counts host (H old refl)
  where
    still : (counts : List (Option ℕ)) (p : ℕ) → is_some (get_or counts p (Some 0)) ≡ true → is_some (get_or (set counts node (Some count)) p (Some 0)) ≡ true
    still counts p h = elim (cases_eq p node) [
      | inl same ↦ elim (cases_lt node (length counts)) [
        | inl below ↦ ap (λ q. is_some (get_or (set counts node (Some count)) q (Some 0))) same ∙ ap is_some (get_or-set_same counts node (Some count) (Some 0) below)
        | inr past ↦ ap (λ x. is_some x) (get_or_past (set counts node (Some count)) p (Some 0) (omega (arith, past, same, length-set counts node (Some count))))
      ]
      | inr other ↦ ap is_some (get_or-set_other counts node p (Some count) (Some 0) other) ∙ h
    ]

module _ (j : BookValue) (s : SnapshotsValue) (g : ℕ) (B : BookStands j s g) (K : BookKeeps j.state) where
  pub closed_stands : (line : ℕ) (snap : Snapshot) → s.snapshot ≡ Some snap → is_first (on_line j.state.lines line) Marker ≡ true → has_recorded snap (taker_of (book_joined j s g) line) ≡ true
      → BookStands (with_lines j (set j.state.lines line (drop 1 (on_line j.state.lines line)))) (record s { snapshot = option_map (λ x. with_closed x line) s.snapshot }) g
  closed_stands line snap runs front has = record {
    holds = close_holds j s g B K line snap runs front has;
    origin = B.origin;
    counted = B.counted;
    host = closed_host s.snapshot line (length j.state.start.nodes) B.host;
    fits = B.fits;
    ages = ages_kept (λ x. with_closed x line) s.snapshot g B.ages;
    front = front_kept (λ x. with_closed x line) s.snapshot (process j.state.start.wires (length j.state.start.nodes)) j.state.entries s.front s.early (λ x. refl) B.front;
    low = floor_kept (λ x. with_closed x line) s.snapshot s.floor (length j.state.entries) (length j.state.entries) (omega arith) (λ x. omega arith) B.low;
    as_many = B.as_many;
    told = B.told;
  }

  pub passed_stands : (line : ℕ) (snap : Snapshot) → s.snapshot ≡ Some snap → has_marker (on_line j.state.lines line) ≡ true → has_recorded snap (taker_of (book_joined j s g) line) ≡ true
      → BookStands (with_lines j (set j.state.lines line (unmarked (on_line j.state.lines line)))) (record s { snapshot = option_map (λ x. closed_over x line (before (on_line j.state.lines line))) s.snapshot }) g
  passed_stands line snap runs marker has = record {
    holds = over_holds j s g B K line snap runs marker has;
    origin = B.origin;
    counted = B.counted;
    host = passed_host s.snapshot line (length j.state.start.nodes) (before (on_line j.state.lines line)) B.host;
    fits = B.fits;
    ages = ages_kept (λ x. closed_over x line (before (on_line j.state.lines line))) s.snapshot g B.ages;
    front = front_kept (λ x. closed_over x line (before (on_line j.state.lines line))) s.snapshot (process j.state.start.wires (length j.state.start.nodes)) j.state.entries s.front s.early (λ x. refl) B.front;
    low = floor_kept (λ x. closed_over x line (before (on_line j.state.lines line))) s.snapshot s.floor (length j.state.entries) (length j.state.entries) (omega arith) (λ x. omega arith) B.low;
    as_many = B.as_many;
    told = B.told;
  }

  -- the host recorded
  module _ (shaped : IsShaped j.state (length j.runs)) (idle : s.snapshot ≡ None) where
    abbrev j_begun : BookValue
    j_begun = with_lines j (sent (has_wire j.state.start.wires) j.state.lines (host_markers (length j.state.start.nodes) (length j.state.ports)))

    abbrev begun_by : ℕ → ℕ → SnapshotsValue
    begun_by n h = record s { snapshot = Some (first_snapshot n (length j.state.lines) h j.state.ports (length j.state.entries)); frozen = replicate n None; front = length j.state.entries; early = s.made }

    own : get_or s.made (length j.runs) 0 ≡ made (process j.state.start.wires (length j.state.start.nodes)) (length j.state.start.nodes) j.state.entries
    own = B.counted.each (length j.runs) (omega (arith, shaped.count, B.counted.count)) ∙ ap (λ n. made (process j.state.start.wires (length j.state.start.nodes)) n j.state.entries) (sym shaped.count)

    pub begun_value : book_joined j_begun (begun_by (length j.runs) (get_or s.made (length j.runs) 0)) g ≡ after_begin (book_joined j s g)
    begun_value =
        ap (λ h. book_joined j_begun (begun_by (length j.runs) h) g) own
        ∙ ap (λ n. book_joined j_begun (begun_by n (made (process j.state.start.wires (length j.state.start.nodes)) (length j.state.start.nodes) j.state.entries)) g) (sym shaped.count)

    floor_before : s.floor ≤ length j.state.entries
    floor_before = subst (λ given. HasFloor given s.floor (length j.state.entries)) idle B.low

    pub begun_stands : g + 1 < NUMBER_LIMIT → BookStands j_begun (begun_by (length j.runs) (get_or s.made (length j.runs) 0)) g
    begun_stands age = record {
      holds = subst (λ b. CutInvariant t414 (world_of b)) (sym begun_value) (begin_holds j s g B K idle);
      origin = B.origin;
      counted = B.counted;
      host = λ snap runs.
          let is : first_snapshot (length j.runs) (length j.state.lines) (get_or s.made (length j.runs) 0) j.state.ports (length j.state.entries) ≡ snap = cc in
          ap (λ x. has_recorded x (length j.state.start.nodes)) (sym is)
          ∙ ap (λ n. is_some (get_or (replicate (length j.runs) None ++ Some (get_or s.made (length j.runs) 0) ∷ []) n (Some 0))) shaped.count
          ∙ host_counted (length j.runs) (get_or s.made (length j.runs) 0);
      fits = B.fits;
      ages = age;
      low = (floor_before, floor_before);
      front = front_begun (length j.runs) (length j.state.lines) (get_or s.made (length j.runs) 0) (length j.state.entries) j.state.ports (process j.state.start.wires (length j.state.start.nodes)) j.state.entries s.made
          (B.counted.count ∙ ap (λ n. n + 1) shaped.count) B.counted.each
          (λ p past. made_past t414 has_four_links j.state.start (plain_network (live j.state (agreed j.state))) j.state.entries K.history p (omega (arith, past, shaped.count))) refl;
      as_many = B.as_many;
      told = B.told;
    }

  -- a node recorded
  module _ (node : ℕ) (snap : Snapshot) (runs : s.snapshot ≡ Some snap) (below : node < length j.state.start.nodes) (new : has_recorded snap node ≡ false)
      (image : Option NodeState) (image_is : image ≡ slice_get (agreed j.state) node) where
    abbrev j_recorded : BookValue
    j_recorded = with_lines j (sent (has_wire j.state.start.wires) j.state.lines (node_markers node))

    abbrev recorded_by : ℕ → Option NodeState → SnapshotsValue
    recorded_by h given = record s { snapshot = option_map (λ x. with_count x node h) s.snapshot; frozen = set s.frozen node given }

    pub recorded_value : book_joined j_recorded (recorded_by (get_or s.made node 0) image) g ≡ after_record (book_joined j s g) node
    unfolding agreed
    recorded_value =
        ap (λ h. book_joined j_recorded (recorded_by h image) g) (B.counted.each node (omega (arith, below, B.counted.count)))
        ∙ ap (λ given. book_joined j_recorded (recorded_by (made (process j.state.start.wires (length j.state.start.nodes)) node j.state.entries) given) g) image_is

    pub recorded_stands : BookStands j_recorded (recorded_by (get_or s.made node 0) image) g
    recorded_stands = record {
      holds = subst (λ b. CutInvariant t414 (world_of b)) (sym recorded_value) (record_holds j s g B K node snap runs below new);
      origin = B.origin;
      counted = B.counted;
      host = counted_host s.snapshot node (get_or s.made node 0) (length j.state.start.nodes) B.host;
      fits = B.fits;
      ages = ages_kept (λ x. with_count x node (get_or s.made node 0)) s.snapshot g B.ages;
      front = front_recorded s.snapshot (process j.state.start.wires (length j.state.start.nodes)) j.state.entries s.front s.early node (get_or s.made node 0) (sym (B.counted.each node (omega (arith, below, B.counted.count)))) B.front;
      low = floor_kept (λ x. with_count x node (get_or s.made node 0)) s.snapshot s.floor (length j.state.entries) (length j.state.entries) (omega arith) (λ x. omega arith) B.low;
      as_many = B.as_many;
      told = B.told;
    }
