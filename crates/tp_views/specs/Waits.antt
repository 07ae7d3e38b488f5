-- What `waits` prints: for each node what it does, and for each of its processes that waits at a link why; and what that adds up to.
use Rattle.std.specs.Prelude.{ℕ, ◌+◌, ◌-◌, ◌==◌, Bool, if◌then◌else◌, List, [], ◌∷◌, ◌++◌, length, Option, Some, None, codes}
use Rattle.tp_views.specs.Lower.{decimal, process, halt_byte, Entry, Fault, WireEnd, Deed, Sends, Chooses, hex_word, fault_name, Inputs}
use Rattle.tp_views.specs.Cycles.{cycles_text}
use Rattle.tp_views.specs.Maps.{Maps, Row, rows_of, spot_text}
use Rattle.tp_views.specs.Scene.{Seen}
use Rattle.tp_views.specs.Since.{known_since}
use Rattle.tp_views.specs.Sums.{other_part, sums_lines, why_name}
use Rattle.tp_views.specs.Waiting.{links_of}
use Rattle.tp_views.specs.declared.waits.scene.Doing.{Doing}
use Rattle.tp_views.specs.declared.waits.scene.Doing.TheVariants.{Halted, Runs, Rests}
use Rattle.tp_views.specs.declared.waits.scene.NodeSeen.{NodeSeen}
use Rattle.tp_views.specs.declared.waits.since.Since.{Since}
use Rattle.tp_views.specs.declared.waits.since.Since.TheVariants.{By, Before}
use Rattle.tp_views.specs.declared.waits.waiting.LinkWaits.{LinkWaits}
use Rattle.tp_views.specs.declared.waits.waiting.Wait.{Wait}

-- ## Words

-- what a process does that waits
abbrev pub deed_name : Deed → List ℕ
deed_name Sends = codes "sends"
deed_name Inputs = codes "inputs"
deed_name Chooses = codes "chooses"

-- ## A node

-- what it does; the map's rows name the address
abbrev pub halted_part : List Row → Fault → ℕ → List ℕ
halted_part rows fault at =
    (codes " halted " ++ (decimal (halt_byte (Some fault)) ++ (codes " " ++ (fault_name fault ++ (codes " at " ++ hex_word at))))) ++ spot_text [] rows at

abbrev pub doing_part : List Row → Doing → List ℕ
doing_part rows (Halted fault at) = halted_part rows fault at
doing_part rows Runs = codes " runs"
doing_part rows Rests = codes " rests"

abbrev pub last_part : Option ℕ → List ℕ
last_part None = codes " last none\n"
last_part (Some number) = codes " last " ++ (decimal number ++ codes "\n")

-- ## A process that waits

-- which end of a link it is
abbrev pub side_name : Bool → List ℕ
side_name sends = if sends then codes " out " else codes " in "

-- the node, the end, what the process does there, and how many bytes are left
abbrev pub deed_part : Wait → List ℕ
deed_part wait =
    codes "node " ++ (decimal wait.node ++ (side_name wait.sends ++ (decimal wait.link ++ (codes " " ++ (deed_name wait.waiter.deed
    ++ (codes " left " ++ decimal wait.waiter.left))))))

-- since which entry, or since before the first one after the checkpoint
abbrev pub since_part : Since → List ℕ
since_part (By number) = codes " since " ++ decimal number
since_part (Before number) = codes " since before " ++ decimal number

-- these, and its descriptor
abbrev pub waiter_part : Wait → List ℕ
waiter_part wait = deed_part wait ++ (since_part wait.since ++ (codes " process " ++ hex_word wait.waiter.process))

-- where it goes on; the map's rows name the instruction before that, in which it waits
abbrev pub resumes_part : List Row → Option ℕ → List ℕ
resumes_part rows None = codes " at nowhere"
resumes_part rows (Some at) = (codes " at " ++ hex_word at) ++ spot_text (codes " after") rows (at - 1)

abbrev pub toward : Bool → List ℕ
toward sends = if sends then codes " to " else codes " from "

-- its line
abbrev pub wait_line : List Row → Wait → List ℕ
wait_line rows wait =
    waiter_part wait ++ (resumes_part rows wait.waiter.resumes ++ (other_part (toward wait.sends) wait.other
    ++ (codes ": " ++ (why_name wait.why ++ codes "\n"))))

abbrev pub end_part : List Row → Option Wait → List ℕ
end_part rows None = []
end_part rows (Some wait) = wait_line rows wait

abbrev pub link_part : List Row → LinkWaits → List ℕ
link_part rows link = end_part rows link.output ++ end_part rows link.input

abbrev pub links_part : List Row → List LinkWaits → List ℕ
links_part rows [] = []
links_part rows (link ∷ links) = link_part rows link ++ links_part rows links

abbrev pub name_part : ℕ → List ℕ
name_part i = codes "node " ++ decimal i

-- the lines of node i, whose map has these rows
abbrev pub node_lines : Seen → List Row → ℕ → NodeSeen → List ℕ
node_lines s rows i own =
    name_part i ++ (doing_part rows own.doing ++ (last_part (known_since s.since i).last ++ links_part rows (links_of s i own)))

abbrev pub nodes_lines : Seen → Maps → ℕ → List NodeSeen → List ℕ
nodes_lines s maps i [] = []
nodes_lines s maps i (own ∷ nodes) = node_lines s (rows_of maps i) i own ++ nodes_lines s maps (i + 1) nodes

-- ## All

-- All that is printed of a network, and of what maps say of addresses.
abbrev pub waits_text : Seen → Maps → List ℕ
waits_text s maps = nodes_lines s maps 0 s.nodes ++ (sums_lines s 0 s.nodes ++ cycles_text s)
