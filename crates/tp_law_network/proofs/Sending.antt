-- Markers are sent: one on each line of a process, and on no other.
use Rattle.std.proofs.Common.{◌≡◌, ◌≢◌, ℕ, zero, suc, ◌+◌, ◌*◌, ◌/◌, ◌<◌, ◌≤◌, Bool, true, false, cond, inl, inr, List, [], ◌∷◌, ◌++◌, length, refl, sym, ap, subst, ◌∙◌, arith, Option, Some, eq-eqb, ne_eqb}
use Rattle.std.specs.Prelude.{◌==◌, nat_lt}
use Rattle.tp_law_network.proofs.Lower.{AllByRecursion, cases_eq, ltb-true, Token, Marker, Machine, Network, has_wire, on_line, for_line, owner, bit, before, markers, Snapshot, MarkedNetwork, node_markers, host_markers, with_markers}
use Rattle.tp_law_network.proofs.Lines.{on_sent, on_sent_shut, length_sent, for_line-elsewhere}
use Rattle.tp_law_network.proofs.Local.{owner_of_link, owner_of_port}
use Rattle.tp_law_network.proofs.Marks.{markers-append}
use Rattle.tp_law_network.proofs.CutsMarks.{AreMarkers, before-append_markers, for_line_markers, sent_markers}
use Rattle.tp_law_network.specs.Invariant.{Base}

-- ## How many Markers on a line

count_cons : (k l : ℕ) (ms : List (ℕ × Token)) → markers (for_line l ((k, Marker) ∷ ms)) ≡ bit (k == l) + markers (for_line l ms)
count_cons k l ms = go (k == l)
  where
    go : (b : Bool) → markers (cond b (Marker ∷ for_line l ms) (for_line l ms)) ≡ bit b + markers (for_line l ms)
    go true = omega arith
    go false = omega arith

here : (k l : ℕ) → k ≡ l → ◌≡◌ {A = ℕ} (bit (k == l)) 1
here k l e = rw (eq-eqb k l e)

elsewhere : (k l : ℕ) → k ≢ l → ◌≡◌ {A = ℕ} (bit (k == l)) 0
elsewhere k l n = rw (ne_eqb k l n)

-- a node's Markers: one on each of its lines
pub node_marked : (i l : ℕ) → 4 * i ≤ l → l < 4 * i + 4 → ◌≡◌ {A = ℕ} (markers (for_line l (node_markers i))) 1
node_marked i l low high = elim (cases_eq (4 * i) l) [
  | inl a ↦ omega (arith, total, here (4 * i) l a, elsewhere (4 * i + 1) l (λ h. omega arith), elsewhere (4 * i + 2) l (λ h. omega arith), elsewhere (4 * i + 3) l (λ h. omega arith))
  | inr a ↦ elim (cases_eq (4 * i + 1) l) [
    | inl b ↦ omega (arith, total, elsewhere (4 * i) l a, here (4 * i + 1) l b, elsewhere (4 * i + 2) l (λ h. omega arith), elsewhere (4 * i + 3) l (λ h. omega arith))
    | inr b ↦ elim (cases_eq (4 * i + 2) l) [
      | inl c ↦ omega (arith, total, elsewhere (4 * i) l a, elsewhere (4 * i + 1) l b, here (4 * i + 2) l c, elsewhere (4 * i + 3) l (λ h. omega arith))
      | inr c ↦ omega (arith, total, elsewhere (4 * i) l a, elsewhere (4 * i + 1) l b, elsewhere (4 * i + 2) l c, here (4 * i + 3) l (last a b c))
    ]
  ]
]
  where
    total : markers (for_line l (node_markers i)) ≡ bit (4 * i == l) + (bit (4 * i + 1 == l) + (bit (4 * i + 2 == l) + (bit (4 * i + 3 == l) + 0)))
    total =
        count_cons (4 * i) l ((4 * i + 1, Marker) ∷ (4 * i + 2, Marker) ∷ (4 * i + 3, Marker) ∷ [])
        ∙ ap (λ n. bit (4 * i == l) + n)
        (count_cons (4 * i + 1) l ((4 * i + 2, Marker) ∷ (4 * i + 3, Marker) ∷ [])
        ∙ ap (λ n. bit (4 * i + 1 == l) + n)
        (count_cons (4 * i + 2) l ((4 * i + 3, Marker) ∷ [])
        ∙ ap (λ n. bit (4 * i + 2 == l) + n) (count_cons (4 * i + 3) l [])))

    last : 4 * i ≢ l → 4 * i + 1 ≢ l → 4 * i + 2 ≢ l → 4 * i + 3 ≡ l
    last a b c = omega arith

-- the host's: one on each port's line
pub host_past : (N p l : ℕ) → 4 * N + p ≤ l → ◌≡◌ {A = ℕ} (markers (for_line l (host_markers N p))) 0
host_past N zero l h = refl
host_past N (suc p) l h = omega (arith, count_cons (4 * N + p) l (host_markers N p), elsewhere (4 * N + p) l (λ e. omega arith), host_past N p l (omega arith))

pub host_marked : (N p l : ℕ) → 4 * N ≤ l → l < 4 * N + p → ◌≡◌ {A = ℕ} (markers (for_line l (host_markers N p))) 1
host_marked N zero l low high = absurd (omega arith)
host_marked N (suc p) l low high = go (host_marked N p l low)
  where
    go : (l < 4 * N + p → ◌≡◌ {A = ℕ} (markers (for_line l (host_markers N p))) 1) → ◌≡◌ {A = ℕ} (markers (for_line l (host_markers N (suc p)))) 1
    go more = elim (cases_eq (4 * N + p) l) [
      | inl e ↦ omega (arith, count_cons (4 * N + p) l (host_markers N p), here (4 * N + p) l e, host_past N p l (omega arith))
      | inr n ↦ omega (arith, count_cons (4 * N + p) l (host_markers N p), elsewhere (4 * N + p) l n, more (omega arith))
    ]

-- ## Whose lines they are

pub node_markers_all : (i : ℕ) → AreMarkers (node_markers i)
node_markers_all i = (refl, (refl, (refl, (refl, tt))))

pub host_markers_all : (N p : ℕ) → AreMarkers (host_markers N p)
host_markers_all N zero = tt
host_markers_all N (suc p) = (refl, host_markers_all N p)

pub node_elsewhere : (N i l : ℕ) → i < N → owner N l ≢ i → for_line l (node_markers i) ≡ []
node_elsewhere N i l h other = for_line-elsewhere (owner N) i l (node_markers i) all other
  where
    first : 4 * i + 0 ≡ 4 * i
    first = omega arith

    all : AllByRecursion (λ m. owner N m.0 ≡ i) (node_markers i)
    all = (
      subst (λ k. owner N k ≡ i) first (owner_of_link N i 0 h (omega arith)),
      (owner_of_link N i 1 h (omega arith), (owner_of_link N i 2 h (omega arith), (owner_of_link N i 3 h (omega arith), tt))),
    )

pub host_elsewhere : (N p l : ℕ) → owner N l ≢ N → for_line l (host_markers N p) ≡ []
host_elsewhere N p l other = for_line-elsewhere (owner N) N l (host_markers N p) (all p) other
  where
    all : (k : ℕ) → AllByRecursion (λ m. owner N m.0 ≡ N) (host_markers N k)
    all zero = tt
    all (suc k) = (owner_of_port N k, all k)

-- the lines of a node, and those of the host
pub owner_node : (N l i : ℕ) → i < N → owner N l ≡ i → (4 * i ≤ l) × (l < 4 * i + 4)
owner_node N l i h e = go (nat_lt l (4 * N)) e
  where
    go : (b : Bool) → cond b (l / 4) N ≡ i → (4 * i ≤ l) × (l < 4 * i + 4)
    go true e = (omega arith, omega arith)
    go false e = absurd (omega arith)

pub owner_most : (N l : ℕ) → owner N l ≤ N
owner_most N l = go (nat_lt l (4 * N)) refl
  where
    go : (b : Bool) → nat_lt l (4 * N) ≡ b → cond b (l / 4) N ≤ N
    go true is = let h = ltb-true l (4 * N) is in omega arith
    go false is = omega arith

-- ## The lines after Markers were sent

module _ {Node : Type 0} (M : Machine Node) (w : MarkedNetwork Node) (B : Base M w) (ms : List (ℕ × Token)) (all : AreMarkers ms) where
  abbrev marked : Network Node
  marked = with_markers w.live ms

  marked_line : (l : ℕ) → on_line marked.lines l ≡ on_line w.live.lines l ++ cond (has_wire w.live.wires l) (for_line l ms) []
  marked_line l = on_sent (has_wire w.live.wires) w.live.lines ms l (B.wired l)

  -- nothing comes before a Marker that didn't
  pub before_marked : (l : ℕ) → before (on_line marked.lines l) ≡ before (on_line w.live.lines l)
  before_marked l = ap before (marked_line l) ∙ before-append_markers (on_line w.live.lines l) (cond (has_wire w.live.wires l) (for_line l ms) []) (go (has_wire w.live.wires l))
    where
      go : (b : Bool) → before (cond b (for_line l ms) []) ≡ []
      go true = for_line_markers l ms all
      go false = refl

  pub markers_marked : (l : ℕ) → has_wire w.live.wires l ≡ true → markers (on_line marked.lines l) ≡ markers (on_line w.live.lines l) + markers (for_line l ms)
  markers_marked l y = ap markers (marked_line l ∙ ap (λ b. on_line w.live.lines l ++ cond b (for_line l ms) []) y) ∙ markers-append (on_line w.live.lines l) (for_line l ms)

  pub marked_length : length marked.lines ≡ length w.live.lines
  marked_length = length_sent (has_wire w.live.wires) w.live.lines ms

  pub base_marked : (snapshot : Option Snapshot) (frozen : List (Option Node)) → Base M (record w { live = marked; snapshot = snapshot; frozen = frozen })
  base_marked snapshot frozen = record {
    now = B.now ∙ ap (λ lines. Some (record w.live { lines = lines })) (sym (sent_markers (has_wire w.live.wires) w.live.lines ms all));
    lines = marked_length ∙ B.lines;
    wired = λ l y. subst (λ n. l < n) (sym marked_length) (B.wired l y);
    unwired = λ l n. on_sent_shut (has_wire w.live.wires) w.live.lines ms l n ∙ B.unwired l n;
  }
