-- What `waits --json` prints.
use Rattle.std.specs.Prelude.{ℕ, ◌+◌, ◌-◌, Bool, true, false, if◌then◌else◌, List, [], ◌∷◌, ◌++◌, get_or, length, Option, Some, None, codes}
use Rattle.tp_views.specs.Lower.{decimal, Entry, Fault, WireEnd, Link, AtPort, Waiter, fault_name}
use Rattle.tp_views.specs.Cycles.{first_of, reached}
use Rattle.tp_views.specs.Json.{comma}
use Rattle.tp_views.specs.JsonMaps.{spot_fields}
use Rattle.tp_views.specs.Maps.{Maps, Row, rows_of}
use Rattle.tp_views.specs.Scene.{Seen}
use Rattle.tp_views.specs.Since.{known_since}
use Rattle.tp_views.specs.Sums.{why_name}
use Rattle.tp_views.specs.Waiting.{links_of, side_of}
use Rattle.tp_views.specs.Waits.{deed_name}
use Rattle.tp_views.specs.declared.waits.scene.Doing.{Doing}
use Rattle.tp_views.specs.declared.waits.scene.Doing.TheVariants.{Halted, Runs, Rests}
use Rattle.tp_views.specs.declared.waits.scene.NodeSeen.{NodeSeen}
use Rattle.tp_views.specs.declared.waits.since.Since.{Since}
use Rattle.tp_views.specs.declared.waits.since.Since.TheVariants.{By, Before}
use Rattle.tp_views.specs.declared.waits.waiting.LinkWaits.{LinkWaits}
use Rattle.tp_views.specs.declared.waits.waiting.Wait.{Wait}
use Rattle.tp_views.specs.declared.waits.why.Reason.{Reason}

-- ## Fields

-- a field whose value may be none
abbrev pub number_or_null : List ℕ → Option ℕ → List ℕ
number_or_null name None = name ++ codes "null"
number_or_null name (Some number) = name ++ decimal number

-- that a node halted, why, and at which address, which the map's rows name
abbrev pub halted_field : List Row → Fault → ℕ → List ℕ
halted_field rows fault at =
    codes ",\"does\":\"halted\",\"fault\":\"" ++ (fault_name fault ++ ((codes "\",\"at\":" ++ decimal at) ++ spot_fields rows at))

-- what a node does
abbrev pub does_field : List Row → Doing → List ℕ
does_field rows (Halted fault at) = halted_field rows fault at
does_field rows Runs = codes ",\"does\":\"runs\""
does_field rows Rests = codes ",\"does\":\"rests\""

-- the other end of a wire
abbrev pub other_value : Option WireEnd → List ℕ
other_value None = codes "null"
other_value (Some (Link j k)) = codes "{\"node\":" ++ (decimal j ++ (codes ",\"link\":" ++ (decimal k ++ codes "}")))
other_value (Some (AtPort p)) = codes "{\"port\":" ++ (decimal p ++ codes "}")

-- ## A process that waits at an end of a link

-- what it does there, how many bytes are left, and its descriptor
abbrev pub deed_fields : Waiter → List ℕ
deed_fields waiter =
    codes "{\"does\":\"" ++ (deed_name waiter.deed ++ (codes "\",\"left\":" ++ (decimal waiter.left ++ (codes ",\"process\":" ++ decimal waiter.process))))

-- since which entry it waits; null if since before the first one after the checkpoint
abbrev pub since_field : Since → List ℕ
since_field (By number) = codes ",\"since\":" ++ decimal number
since_field (Before number) = codes ",\"since\":null"

abbrev pub begun_fields : Wait → List ℕ
begun_fields wait = deed_fields wait.waiter ++ since_field wait.since

-- where it goes on; the map's rows name the instruction before that, in which it waits
abbrev pub resumes_fields : List Row → Option ℕ → List ℕ
resumes_fields rows None = codes ",\"at\":null"
resumes_fields rows (Some at) = (codes ",\"at\":" ++ decimal at) ++ spot_fields rows (at - 1)

abbrev pub other_field : Option WireEnd → List ℕ
other_field other = codes ",\"other\":" ++ other_value other

abbrev pub why_field : Reason → List ℕ
why_field why = codes ",\"why\":\"" ++ (why_name why ++ codes "\"}")

abbrev pub wait_item : List Row → Wait → List ℕ
wait_item rows wait = begun_fields wait ++ (resumes_fields rows wait.waiter.resumes ++ (other_field wait.other ++ why_field wait.why))

abbrev pub end_item : List Row → Option Wait → List ℕ
end_item rows None = codes "null"
end_item rows (Some wait) = wait_item rows wait

-- an item that has that many before it
abbrev pub item_after : List Row → ℕ → Option Wait → List ℕ
item_after rows before end = comma before ++ end_item rows end

-- those of the output ends, or of the input ends, of some links
abbrev pub items_from : List Row → Bool → ℕ → List LinkWaits → List ℕ
items_from rows sends before [] = []
items_from rows sends before (link ∷ links) = item_after rows before (side_of sends link) ++ items_from rows sends (before + 1) links

abbrev pub ends_name : Bool → List ℕ
ends_name sends = if sends then codes ",\"out\":[" else codes ",\"in\":["

abbrev pub ends_list : List Row → Bool → List LinkWaits → List ℕ
ends_list rows sends links = ends_name sends ++ (items_from rows sends 0 links ++ codes "]")

-- ## A node

-- the first one of those that wait for one another with node i, by those that each waits for
abbrev pub cycle_field : ℕ → List ℕ → List ℕ
cycle_field i rows = number_or_null (codes ",\"cycle\":") (first_of (get_or rows i 0) i 0 rows)

-- which node it is, after i others
abbrev pub number_field : ℕ → List ℕ
number_field i = comma i ++ (codes "{\"node\":" ++ decimal i)

-- the last entry that it made
abbrev pub last_field : Seen → ℕ → List ℕ
last_field s i = number_or_null (codes ",\"last\":") (known_since s.since i).last

-- those that it waits for
abbrev pub link_fields : List Row → List ℕ → ℕ → List LinkWaits → List ℕ
link_fields rows reached i links = cycle_field i reached ++ (ends_list rows true links ++ (ends_list rows false links ++ codes "}"))

abbrev pub node_item : Seen → List ℕ → List Row → ℕ → NodeSeen → List ℕ
node_item s reached rows i own =
    number_field i ++ (does_field rows own.doing ++ (last_field s i ++ link_fields rows reached i (links_of s i own)))

abbrev pub nodes_items : Seen → List ℕ → Maps → ℕ → List NodeSeen → List ℕ
nodes_items s reached maps i [] = []
nodes_items s reached maps i (own ∷ nodes) = node_item s reached (rows_of maps i) i own ++ nodes_items s reached maps (i + 1) nodes

-- ## All

-- All that is printed of a network, and of what maps say of addresses.
abbrev pub waits_json : Seen → Maps → List ℕ
waits_json s maps = codes "{\"nodes\":[" ++ (nodes_items s (reached s) maps 0 s.nodes ++ codes "]}\n")
