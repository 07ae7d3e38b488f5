-- What `node` prints of what a node has done since the checkpoint.
use Rattle.std.specs.Prelude.{ℕ, Bool, List, [], ◌∷◌, ◌++◌, Option, Some, codes}
use Rattle.tp_views.specs.Lower.{Entry, WireEnd}
use Rattle.tp_views.specs.Done.{total}
use Rattle.tp_views.specs.Fields.{Field, Named, After, Words, Item, Number, fields_text}
use Rattle.tp_views.specs.declared.text.done.Count.TheVariants.{Entries, Steps, BytesIn, BytesOut}

-- how many entries and steps the node has made since the checkpoint, which holds `base` entries
abbrev pub counts_fields : ℕ → ℕ → ℕ → List Field
counts_fields base entries steps =
    After (codes "since ") (codes ",\"since\":") (Number base) ∷ Named (codes "entries") (Number entries) ∷ Named (codes "steps") (Number steps)
    ∷ Words (codes "\n") (codes ",\"bytes\":[") ∷ []

-- how many bytes came in at a link, and how many went out
abbrev pub bytes_fields : ℕ → ℕ → ℕ → List Field
bytes_fields link came went =
    Item (codes "bytes") link ∷ After (codes " in ") (codes "{\"in\":") (Number came) ∷ Named (codes "out") (Number went) ∷ Words (codes "\n") (codes "}") ∷ []

abbrev pub link_text : Bool → ℕ → ℕ → List (Option WireEnd) → ℕ → List (Entry × ℕ) → List ℕ
link_text json node link wires N kept =
    fields_text json (bytes_fields link (total (BytesIn link) (Some node) wires N kept) (total (BytesOut link) (Some node) wires N kept))

abbrev pub links_text : Bool → ℕ → List (Option WireEnd) → ℕ → List (Entry × ℕ) → List ℕ
links_text json node wires N kept =
    link_text json node 0 wires N kept ++ (link_text json node 1 wires N kept ++ (link_text json node 2 wires N kept ++ link_text json node 3 wires N kept))

-- All that is shown of what a node has done, as JSON or not, by the entries after a checkpoint, which holds `base` entries, in a network of these
-- wires and N nodes.
abbrev pub done_shown : Bool → ℕ → ℕ → List (Option WireEnd) → ℕ → List (Entry × ℕ) → List ℕ
done_shown json node base wires N kept =
    fields_text json (counts_fields base (total Entries (Some node) wires N kept) (total Steps (Some node) wires N kept))
    ++ (links_text json node wires N kept ++ fields_text json (Words [] (codes "]}\n") ∷ []))
