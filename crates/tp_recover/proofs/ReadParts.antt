-- The parts of a cut that were read: what the tests of each record say.
use Rattle.std.proofs.Common.{◌≡◌, ℕ, ◌+◌, ◌<◌, ◌≤◌, List, [], ◌∷◌, ◌++◌, length, take, get_or, sym, ap, subst, ◌∙◌, arith, true, Some, Ok}
use Rattle.std.specs.Prelude.{◌==◌, ◌&&◌, bytes_eq}
use Rattle.tp_recover.proofs.Lower.{AllByRecursion, and_parts, eqb-true, map_push, take_more, take_all, Token, PORT_BYTES, NUMBER_LIMIT, is_port_of, node_with, port_at, port_bytes, port_with, flights_in, page_count, node_of, IsNode, image_length, Port, NodeState, EndsSeen, are_lines, IsCut, Topology, line_count, flights_found, tested, AreBytes, are_bytes-take, IsNodeOfBytes, node_of_bytes}
use Rattle.tp_recover.specs.Cuts.{wired}
use Rattle.tp_recover.specs.Nodes.{HasImage, HaveImages}
use Rattle.tp_recover.specs.Ports.{ArePorts}

-- one more
all_pushed : {A : Type 0} (P : A → Type 0) (xs : List A) (x : A) → AllByRecursion P xs → P x → AllByRecursion P (xs ++ x ∷ [])
all_pushed P [] x all here = (here, tt)
all_pushed P (y ∷ ys) x all here = (all.0, all_pushed P ys x all.1 here)

-- ## Nodes

-- A node that was read has an image, and the number of pages that it should have.
pub node_imaged : (pages : ℕ) (bytes : List ℕ) (node : NodeState) → AreBytes bytes → node_with pages bytes ≡ Some node → HasImage pages node
node_imaged pages bytes node are is =
    let part = take (image_length pages) bytes in
    let found = tested (λ n. page_count n.memory == pages) (node_of part) node is in
    record {
      image = node_of_bytes part node (are_bytes-take (image_length pages) bytes are) found.0;
      count = eqb-true (page_count node.memory) pages found.1;
    }

pub imaged_more : (i : ℕ) (pages : List ℕ) (nodes new : List NodeState) (node : NodeState) → i < length pages → HaveImages (take i pages) nodes → HasImage (get_or pages i 0) node
    → new ≡ nodes ++ node ∷ [] → HaveImages (take (i + 1) pages) new
imaged_more i pages nodes new node lt are is push =
    subst (HaveImages (take (i + 1) pages)) (sym push) (record {
      images = all_pushed IsNodeOfBytes nodes node are.images is.image;
      counts = map_push (λ n. page_count n.memory) nodes node ∙ ap (λ ps. ps ++ page_count node.memory ∷ []) are.counts
          ∙ ap (λ p. take i pages ++ p ∷ []) is.count ∙ sym (take_more pages i 0 lt);
    })

pub imaged_all : (i : ℕ) (pages : List ℕ) (nodes : List NodeState) → length pages ≤ i → HaveImages (take i pages) nodes → HaveImages pages nodes
imaged_all i pages nodes le are = subst (λ ps. HaveImages ps nodes) (take_all i pages le) are

-- ## Ports

-- A port that was read is one of a cut of `base` entries.
pub port_reached : (base : ℕ) (bytes : List ℕ) (port : Port) → port_with base bytes ≡ Some port → is_port_of base port ≡ true
port_reached base bytes port is =
    let found = tested (λ p. bytes_eq (take PORT_BYTES bytes) (port_bytes p) && is_port_of base p) (Some (port_at bytes)) port is in
    (and_parts (bytes_eq (take PORT_BYTES bytes) (port_bytes port)) (is_port_of base port) found.1).1

pub reached_more : (base : ℕ) (ports new : List Port) (port : Port) → ArePorts base ports → is_port_of base port ≡ true → new ≡ ports ++ port ∷ [] → ArePorts base new
reached_more base ports new port are is push = subst (ArePorts base) (sym push) (all_pushed (λ p. is_port_of base p ≡ true) ports port are is)

-- ## The cut

have_images : (nodes : List NodeState) → AllByRecursion IsNodeOfBytes nodes → AllByRecursion IsNode nodes
have_images [] all = tt
have_images (node ∷ nodes) all = (all.0.image, have_images nodes all.1)

-- Parts that passed the tests are a cut.
pub parts_cut : (E : EndsSeen NodeState) (t : Topology) (base at : ℕ) (nodes : List NodeState) (lines : List (List Token)) (ports : List Port) → HaveImages t.pages nodes → are_lines t.wires lines ≡ true
    → length ports ≡ t.ports → ArePorts base ports → flights_in E (wired t.wires nodes lines ports) at 0 (line_count t) ≡ Ok tt → base < NUMBER_LIMIT
    → IsCut E t base (wired t.wires nodes lines ports)
parts_cut E t base at nodes lines ports imaged tokens count reached flights few = record {
  wires = λ i. t.wires;
  nodes = have_images nodes imaged.images;
  pages = imaged.counts;
  lines = tokens;
  count = count;
  ports = reached;
  flights = λ line low. flights_found E (wired t.wires nodes lines ports) at 0 (line_count t) flights line (omega arith) (omega (arith, low));
  base_fits = few;
}
