-- What all the waiting adds up to: the waits that nobody in the network can end, said once more.
use Rattle.std.specs.Prelude.{ℕ, ◌+◌, if◌then◌else◌, List, [], ◌∷◌, ◌++◌, length, Option, Some, None, codes}
use Rattle.tp_views.specs.Lower.{decimal, WireEnd, Link, AtPort}
use Rattle.tp_views.specs.Scene.{Seen}
use Rattle.tp_views.specs.Waiting.{is_told, links_of}
use Rattle.tp_views.specs.declared.waits.scene.NodeSeen.{NodeSeen}
use Rattle.tp_views.specs.declared.waits.waiting.LinkWaits.{LinkWaits}
use Rattle.tp_views.specs.declared.waits.waiting.Wait.{Wait}
use Rattle.tp_views.specs.declared.waits.why.Reason.{Reason}
use Rattle.tp_views.specs.declared.waits.why.Reason.TheVariants.{UnderWay, Halted, Runs, BothSend, BothInput, Elsewhere, Full, NoInput, NoWire}

-- the words for why a process still waits
abbrev pub why_name : Reason → List ℕ
why_name UnderWay = codes "under way"
why_name Halted = codes "halted"
why_name Runs = codes "runs"
why_name BothSend = codes "both send"
why_name BothInput = codes "both input"
why_name Elsewhere = codes "waits elsewhere"
why_name Full = codes "full"
why_name NoInput = codes "no input"
why_name NoWire = codes "no wire"

-- the other end of a wire, after words that lead there
abbrev pub other_part : List ℕ → Option WireEnd → List ℕ
other_part words None = words ++ codes "nobody"
other_part words (Some (Link j k)) = words ++ (codes "node " ++ (decimal j ++ (codes " link " ++ decimal k)))
other_part words (Some (AtPort p)) = words ++ (codes "port " ++ decimal p)

-- that a process waits for another one, and why
abbrev pub sum_line : Wait → List ℕ
sum_line wait =
    (why_name wait.why ++ (codes ": node " ++ (decimal wait.node ++ (codes " link " ++ decimal wait.link))))
    ++ (other_part (codes " waits for ") wait.other ++ codes "\n")

-- of N nodes
abbrev pub sum_part : ℕ → Option Wait → List ℕ
sum_part N None = []
sum_part N (Some wait) = if is_told N wait then sum_line wait else []

abbrev pub sums_at : ℕ → LinkWaits → List ℕ
sums_at N link = sum_part N link.output ++ sum_part N link.input

abbrev pub sums_of : ℕ → List LinkWaits → List ℕ
sums_of N [] = []
sums_of N (link ∷ links) = sums_at N link ++ sums_of N links

-- of node i
abbrev pub node_sums : Seen → ℕ → NodeSeen → List ℕ
node_sums s i own = sums_of (length s.nodes) (links_of s i own)

abbrev pub sums_lines : Seen → ℕ → List NodeSeen → List ℕ
sums_lines s i [] = []
sums_lines s i (own ∷ nodes) = node_sums s i own ++ sums_lines s (i + 1) nodes
