-- The small format in use: contents from which each of its functions answers something, and a run that stores an entry.
use Rattle.std.specs.Prelude.{◌≡◌, ℕ, List, [], ◌∷◌, ◌++◌, replicate, Some, None}
use Rattle.tp_law_network.specs.Lower.{HostIn, GATE_OPEN, GATE_CLOSED, Machine, Network, Journal, Write, Sync, gate_open, Resting, Body, Ready, Gate, World, Event, Acts, Copies, Does, Raises, Run, fresh}
use Rattle.tp_law_network.specs.Small.{small_areas}

-- the first area as it is made: generation 1, no entry in its cut, image 0, no group
abbrev pub first_area : List ℕ
first_area = GATE_OPEN ∷ 1 ∷ 0 ∷ 0 ∷ replicate 5 0

-- three devices: one as it is made, one whose other area holds a cut of three entries with image 7 after a closed gate, and that one with
-- the gate opened
abbrev pub formatted : List ℕ
formatted = first_area ++ replicate 9 0

abbrev pub small_copy : List ℕ
small_copy = first_area ++ GATE_CLOSED ∷ 2 ∷ 3 ∷ 7 ∷ replicate 5 0

abbrev pub switched_over : List ℕ
switched_over = first_area ++ GATE_OPEN ∷ 2 ∷ 3 ∷ 7 ∷ replicate 5 0

pub record EachAnswers {Node : Type 0} (M : Machine Node) (image : ℕ → Network Node) : Type 0 where
  pub verdict : (small_areas M image).verdict formatted ≡ Some (record { network = image 0; entries = []; base = 0 })
  pub spare : (small_areas M image).spare formatted ≡ (10, 8)
  pub group : (x : ℕ) → (small_areas M image).group formatted (HostIn 0 x ∷ []) ≡ Some (4, x ∷ GATE_CLOSED ∷ [])
  pub other : (small_areas M image).other small_copy ≡ Some (9, record { network = image 7; entries = []; base = 3 })
  pub open_other : (small_areas M image).open_other switched_over ≡ Some 0

-- a network of one port that no wire is at
abbrev pub one_port : {Node : Type 0} → Network Node
one_port = record {
  wires = None ∷ [];
  nodes = [];
  ports = record { pending = []; in_base = 0; outputs = []; out_base = 0 } ∷ [];
  lines = [] ∷ [];
}

-- the world with a device as it is made
abbrev pub made_world : {Node : Type 0} → (ℕ → Network Node) → World Node
made_world image = record {
  net = fresh (image 0);
  base = 0;
  journal = [];
  disk = record { bytes = formatted; unsynced = [] };
  at = Resting;
  backlog = [];
  stored = 0;
  mark = 0;
  seen = [];
}

-- a byte is handed in, copied, put into a group, and the mark is raised
abbrev pub storing : {Node : Type 0} → ℕ → List (Event Node)
storing x =
    Acts (Journal (HostIn 0 x)) ∷ Copies ∷ Does (Write 5 (x ∷ GATE_CLOSED ∷ [])) (Body 4 (HostIn 0 x ∷ [])) ∷ Does Sync (Ready 4 (HostIn 0 x ∷ []))
    ∷ Does (Write 4 gate_open) (Gate 4 (HostIn 0 x ∷ [])) ∷ Does Sync Resting ∷ Raises ∷ []

-- the run leads to a world whose mark is above the entry
pub record Stores {Node : Type 0} (M : Machine Node) (image : ℕ → Network Node) (x : ℕ) : Type 0 where
  pub last : World Node
  pub run : Run M (small_areas M image) (made_world image) (storing x) last
  pub mark : last.mark ≡ 1
