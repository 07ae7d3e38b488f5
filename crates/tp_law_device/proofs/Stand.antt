-- A device that is spelt like this opens like this.
use Rattle.std.proofs.Common.{◌≡◌, ℕ, inl, inr, not, List, [], ◌∷◌, sym, ◌∙◌, arith, Ok}
use Rattle.tp_law_device.proofs.Lower.{AllByRecursion, cases_Bool, Entry, Form, NodeState, IsNode, Machine, Network, EndsSeen, Topology, content_of, IsCut, SpellsArea, DeviceSpells, Opened, chosen_area, opening, verdict, t414, t414_ends, node_of-image, AreBytes}
use Rattle.tp_law_device.proofs.ReadAreas.{opens_stand}
use Rattle.tp_law_device.proofs.Wires.{has_shape}
use Rattle.tp_law_device.proofs.FreshHeads.{head_of-head_bytes}
use Rattle.tp_law_device.proofs.Chosen.{open_in, age_in, chosen_alone, chosen_higher}
use Rattle.tp_law_device.proofs.SpeltCuts.{IsReadBack, ReadsBack, front_generation}
use Rattle.tp_law_device.proofs.SpeltAreas.{SpeltArea, area_spelt}
use Rattle.tp_law_device.proofs.Opens.{opening_from}

nodes_back : (nodes : List NodeState) → AllByRecursion IsNode nodes → AllByRecursion IsReadBack nodes
nodes_back [] h = tt
nodes_back (n ∷ ns) h = (node_of-image n h.0, nodes_back ns h.1)

cut_back : (E : EndsSeen NodeState) (t : Topology) (base : ℕ) (s : Network NodeState) → IsCut E t base s → ReadsBack E t base s
cut_back E t base s C = record {
  wires = C.wires;
  nodes = nodes_back s.nodes C.nodes;
  pages = C.pages;
  lines = C.lines;
  count = C.count;
  ports = C.ports;
  flights = C.flights;
  base_fits = C.base_fits;
}

pub spelt_area : (M : Machine NodeState) (E : EndsSeen NodeState) (t : Topology) (content : List ℕ) (generation : ℕ) (form : Form) (base : ℕ) (s : Network NodeState) (groups : List (List (Entry × ℕ))) (now : Network NodeState)
    → SpellsArea M E t content generation form base s groups now → SpeltArea M E t content generation form base s groups now
spelt_area M E t content generation form base s groups now S = record {
  gate = S.gate;
  rest = S.rest;
  shut = S.shut;
  spelled = S.spelled;
  generation_fits = S.generation_fits;
  cut = cut_back E t base s S.cut;
  each = S.each;
  of_form = S.of_form;
  numbers = S.numbers;
  last = S.last;
  leads = S.leads;
}

pub stands_opens : (M : Machine NodeState) (E : EndsSeen NodeState) (bytes : List ℕ) (o : Opened) → DeviceSpells M E bytes o → opening M E bytes ≡ Ok o
stands_opens M E bytes o S =
    let t = o.head.topology in
    let areas = o.head.areas in
    let content = content_of areas o.second bytes in
    let L = has_shape t S.topology in
    let A = spelt_area M E t content o.generation o.form o.base o.cut S.groups o.now S.spells in
    let age : age_in areas bytes o.second ≡ o.generation = front_generation E t L o.generation o.form o.base o.cut A.cut content _ A.spelled A.generation_fits in
    let chosen : chosen_area areas bytes ≡ Ok o.second = elim (cases_Bool (open_in areas bytes (not o.second))) [
      | inr closed ↦ chosen_alone areas bytes o.second S.gate closed
      | inl opened ↦ chosen_higher areas bytes o.second S.gate opened (elim S.first [
        | inl closed ↦ absurd (let both = opened in cc)
        | inr lower ↦ omega (arith, age, lower)
      ])
    ] in
    let kept = S.kept in
    let end = sym S.end in
    opening_from M E bytes o.head o.second o (head_of-head_bytes o.head.version t areas bytes S.topology S.limits S.room S.starts S.area_fits S.head) chosen
    (area_spelt M E o.head o.second L content o.generation o.form o.base o.cut S.groups o.now A
    ∙ (λ i. Ok (record { head = o.head; second = o.second; generation = o.generation; form = o.form; base = o.base; cut = o.cut; kept = kept i; now = o.now; end = end i })))

pub stands_for_verdict : (bytes : List ℕ) (o : Opened) → DeviceSpells t414 t414_ends bytes o → verdict bytes ≡ Ok o
unfolding verdict
stands_for_verdict bytes o S = stands_opens t414 t414_ends bytes o S

pub verdict_stands : (bytes : List ℕ) (o : Opened) → AreBytes bytes → verdict bytes ≡ Ok o → DeviceSpells t414 t414_ends bytes o
unfolding verdict
verdict_stands bytes o h is = opens_stand t414 t414_ends bytes o h is
