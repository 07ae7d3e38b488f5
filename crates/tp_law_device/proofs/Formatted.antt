-- A device that was formatted holds the network of its images, before its first entry.
use Rattle.std.proofs.Common.{◌≡◌, ℕ, zero, suc, ◌<◌, true, false, List, [], ◌∷◌, length, refl, sym, ap, ◌∙◌, arith, Option, Some, Ok}
use Rattle.std.specs.Prelude.{map, replicate}
use Rattle.tp_law_device.proofs.Lower.{false≢true, length-replicate, length-map, TwoAreas, Token, WireEnd, GATE_CLOSED, page_count, Form, NodeState, Machine, Network, has_wire, on_line, markers, plain, after, IsOpened, t414, t414_ends, Topology, node_count, line_count, content_of, is_open, Head, version_for, groups_bytes, Opened, network_of, opening, verdict, StandsFor, start_of, fresh_nodes, fresh_port, fresh, BeginsFormatted, areas_of, map_some}
use Rattle.tp_law_device.specs.FormattedWorld.{formatted_world, WasFormatted}
use Rattle.tp_law_device.proofs.Heads.{version_keeps}
use Rattle.tp_law_device.proofs.Wires.{HasShape, has_shape}
use Rattle.tp_law_device.proofs.FreshHeads.{head_of-head_bytes}
use Rattle.tp_law_device.proofs.FreshCuts.{AreFresh, fresh_nodes_are, no_lines, no_line, fresh_reads_back}
use Rattle.tp_law_device.proofs.Chosen.{chosen_alone}
use Rattle.tp_law_device.proofs.Opens.{opening_from, held_in, held_from}
use Rattle.tp_law_device.proofs.SpeltCuts.{ReadsBack}
use Rattle.tp_law_device.proofs.SpeltAreas.{SpeltArea, end_of_groups, area_spelt}

wired_within : (wires : List (Option WireEnd)) (line : ℕ) → has_wire wires line ≡ true → line < length wires
wired_within [] line is = absurd (false≢true is)
wired_within (wire ∷ wires) zero is = omega arith
wired_within (wire ∷ wires) (suc line) is = let below = wired_within wires line is in omega arith

-- ## The network of images

module _ (t : Topology) (given : List (List ℕ)) (s : Network NodeState) (start : start_of t given ≡ Some s) where
  -- which nodes it has
  pub record Begins : Type 0 where
    pub nodes : List NodeState
    pub fresh_are : AreFresh t.pages nodes
    pub is : network_of t nodes (no_lines (line_count t)) (replicate t.ports fresh_port) ≡ s

  pub begins : Begins
  begins =
      let found = map_some (λ ns. network_of t ns (no_lines (line_count t)) (replicate t.ports fresh_port)) (fresh_nodes t.pages given) s start in
      record { nodes = found.0; fresh_are = fresh_nodes_are t.pages given found.0 found.1; is = found.2 }

  pub start_reads_back : HasShape t → ReadsBack t414_ends t 0 s
  start_reads_back L =
      let B = begins in
      let F = B.fresh_are in
      let is = sym B.is in
      fresh_reads_back t B.nodes F.idle s (ap (λ (n : Network NodeState). n.nodes) is) (ap (λ (n : Network NodeState). n.lines) is) (ap (λ (n : Network NodeState). n.ports) is)
      (ap (λ (n : Network NodeState). n.wires) is) F.back F.pages_are L.lines

-- ## The device

module _ (M : Machine NodeState) (t : Topology) (areas : TwoAreas) (form : Form) (given : List (List ℕ)) (s : Network NodeState) (bytes : List ℕ) (W : WasFormatted t areas form given s bytes) where
  abbrev pub head : Head
  head = record { version = version_for t; topology = t; areas = areas }

  abbrev first : Begins t given s W.network
  first = begins t given s W.network

  limits : HasShape t
  limits = has_shape t W.topology

  -- what opening answers of it
  abbrev pub found : Opened
  found = record { head = head; second = false; generation = 1; form = form; base = 0; cut = s; kept = []; now = s; end = end_of_groups head false [] }

  area_is : SpeltArea M t414_ends t (content_of areas false bytes) 1 form 0 s [] s
  unfolding groups_bytes after
  area_is = record {
    gate = GATE_CLOSED;
    rest = W.format.rest;
    shut = refl;
    spelled = W.format.content;
    generation_fits = omega arith;
    cut = start_reads_back t given s W.network limits;
    each = tt;
    of_form = tt;
    numbers = tt;
    last = omega arith;
    leads = refl;
  }

  pub formatted_opens : opening M t414_ends bytes ≡ Ok found
  formatted_opens =
      let opened = W.format.open_gate in
      let closed = W.format.closed_gate in
      opening_from M t414_ends bytes head false found
      (head_of-head_bytes (version_for t) t areas bytes W.topology (version_keeps t W.topology) W.room W.format.first W.area_fits W.format.head)
      (chosen_alone areas bytes false (ap (λ gate. is_open gate) opened) (ap (λ gate. is_open gate) closed))
      (area_spelt M t414_ends head false limits (content_of areas false bytes) 1 form 0 s [] s area_is)

  pub formatted_holds : held_in (opening M t414_ends bytes) ≡ Some (record { network = s; entries = []; base = 0 })
  formatted_holds = held_from (opening M t414_ends bytes) found (record { network = s; entries = []; base = 0 }) formatted_opens refl

  -- ## A book with no entry

  lines_of_s : s.lines ≡ no_lines (line_count t)
  lines_of_s = ap (λ (n : Network NodeState). n.lines) (sym first.is)

  plain_none : (count : ℕ) → map plain (no_lines count) ≡ no_lines count
  plain_none zero = refl
  plain_none (suc count) = ap (λ more. [] ∷ more) (plain_none count)

  no_tokens : (line : ℕ) → on_line s.lines line ≡ []
  no_tokens line = ap (λ lines. on_line lines line) lines_of_s ∙ no_line (line_count t) line

  pub formatted_begins : IsOpened M (fresh s)
  unfolding after
  formatted_begins = record {
    idle = refl;
    now = (let lines = lines_of_s in let plain_lines = plain_none (line_count t) in
        let same : s.lines ≡ map plain s.lines = lines ∙ sym plain_lines ∙ ap (map plain) (sym lines) in
        λ i. Some (record s { lines = same i }));
    unmarked = λ line. ap markers (no_tokens line);
    lines =
        let B = first in
        let nodes_are : length s.nodes ≡ node_count t = ap (λ (n : Network NodeState). length n.nodes) (sym B.is) ∙ (sym (length-map B.nodes (λ n. page_count n.memory)) ∙ ap length B.fresh_are.pages_are) in
        let ports_are : length s.ports ≡ t.ports = ap (λ (n : Network NodeState). length n.ports) (sym B.is) ∙ length-replicate t.ports fresh_port in
        ap length lines_of_s ∙ length-replicate {A = List Token} (line_count t) [] ∙ omega arith;
    wired = λ line is.
        let wires_are : s.wires ≡ t.wires = ap (λ (n : Network NodeState). n.wires) (sym first.is) in
        let within = wired_within t.wires line (ap (λ wires. has_wire wires line) (sym wires_are) ∙ is) in
        let count = limits.lines in
        let size : length s.lines ≡ line_count t = ap length lines_of_s ∙ length-replicate {A = List Token} (line_count t) [] in
        omega arith;
    unwired = λ line is. no_tokens line;
  }

pub formatted_starts : (M : Machine NodeState) (t : Topology) (areas : TwoAreas) (form : Form) (given : List (List ℕ)) (s : Network NodeState) (bytes : List ℕ) → WasFormatted t areas form given s bytes
    → BeginsFormatted M (areas_of M t414_ends) s (formatted_world s bytes)
formatted_starts M t areas form given s bytes W = record {
  reads = formatted_holds M t areas form given s bytes W;
  synced = refl;
  opened = formatted_begins M t areas form given s bytes W;
  net = refl;
  rests = (refl, refl);
  none = (refl, refl, refl, refl, refl);
}

pub formatted_stands : (t : Topology) (areas : TwoAreas) (form : Form) (given : List (List ℕ)) (s : Network NodeState) (bytes : List ℕ) → WasFormatted t areas form given s bytes → StandsFor bytes s [] 0
unfolding verdict
formatted_stands t areas form given s bytes W = record {
  opened = found t414 t areas form given s bytes W;
  is = formatted_opens t414 t areas form given s bytes W;
  holds = refl;
}

-- it opens with the form that it was formatted with
pub formatted_form : (t : Topology) (areas : TwoAreas) (form : Form) (given : List (List ℕ)) (s : Network NodeState) (bytes : List ℕ) → WasFormatted t areas form given s bytes
    → (o : Opened) → verdict bytes ≡ Ok o → o.form ≡ form
unfolding verdict
formatted_form t areas form given s bytes W o is =
    let both = sym is ∙ formatted_opens t414 t areas form given s bytes W in
    let same : o ≡ found t414 t areas form given s bytes W = cc in
    ap (λ (k : Opened). k.form) same
