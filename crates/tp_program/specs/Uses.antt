-- What commands print, and do with files other than the devices that they write.
use Rattle.std.specs.Prelude.{◌≡◌, ◌⊎◌, ◌≤◌, ◌++◌, ◌∷◌, ◌==◌, if◌then◌else◌, option_map, unwrap_or, ℕ, Bool, true, List, [], codes, map, length, string_bytes, Option, Some, None, All, IsErr, IsSome, Ok}
use Rattle.tp_program.specs.Lower.{AreTrue, Reading, Appends, Global, String, Formatted, IsOldOrNew, LeavesOnly, State, start_of, node_of, areas_of_length, version_for, Opened, verdict, Topology, read_text, node_names, PortFile, LeavesNothingNew, fresh_image, PrintsTrial, wanted_area, topology_said, device_text, device_traced, AppendsFront, PrintsFront, StatusTells, Maps, Row, no_maps, read_map, rows_of, Prints, look_text, Traces, node_traced, place_of, range_of, HasNone, LacksShown, PrintsShown, PrintsView, view_text, Seen, Stops, NewDevice, ImageTrace, TracePart, View}
use Rattle.tp_program.specs.Backups.{IsBackup, copied_line}
use Rattle.tp_program.specs.Devices.{DeviceCall, Begins, Leaves, Links, Looks, Reads, Requests, WasRefused}
use Rattle.tp_program.specs.Formats.{formatted_text}
use Rattle.tp_program.specs.Stops.{request_path}

-- Only the file at this path was read, and `P` is true of its bytes.
pub record ReadsOne (path : List ℕ) (old new : List DeviceCall) (P : List ℕ → Type 0) : Type 0 where
  pub bytes : List ℕ
  pub uses : new ≡ old ++ Reads path bytes ∷ []
  pub read : P bytes

-- Only the device at this path was opened to be read, and it was given back. `P` is true of its states when it was opened and when it was given back.
pub record LooksAtOne (path : List ℕ) (old new : List DeviceCall) (P : State → State → List Reading → Type 0) : Type 0 where
  pub opened : State
  pub closed : State
  pub read : List Reading
  pub uses : new ≡ old ++ Looks path opened ∷ Leaves closed read ∷ []
  pub between : P opened closed read

-- What `try_on` promises of an image.
pub record Tried (turns : ℕ) (was now : Option (List ℕ)) (status : ℕ) (image : List ℕ) : Type 0 where
  pub done : status ≡ 0 → PrintsTrial image turns was now
  pub refused : fresh_image image ≡ None → (status ≡ 1) × (now ≡ was)

-- What `trace_on` promises of one, with the rows of a map, stops, a number of steps, and what comes in at each link.
pub record Traced (rows : List Row) (stops : Stops) (steps : ℕ) (others : List (Option (List ℕ))) (was now : Option (List ℕ)) (status : ℕ) (image : List ℕ) : Type 0 where
  pub done : status ≡ 0 → Traces (node_traced rows stops steps others) image was now
  pub refused : node_of image ≡ None → (status ≡ 1) × (now ≡ was)

-- What `show_on` and `recover_on` promise of a device, between the state in which it was opened and the one in which it was given back.
pub record Shows (text : Opened → List ℕ) (was now : Option (List ℕ)) (status : ℕ) (opened closed : State) (read : List Reading) : Type 0 where
  pub done : AreTrue read → status ≡ 0 → Prints text opened.now.bytes was now
  pub front : AreTrue read → PrintsFront text opened.now.bytes was now
  pub left : LeavesNothingNew opened closed
  pub unopened : AreTrue read → IsErr (verdict opened.now.bytes) → (status ≡ 1) × (now ≡ was)

-- What `view_on` promises, if maps say this of addresses.
pub record Viewed (view : View) (maps : Maps) (was now : Option (List ℕ)) (status : ℕ) (opened closed : State) (read : List Reading) : Type 0 where
  pub done : AreTrue read → status ≡ 0 → PrintsView view maps opened.now.bytes was now
  pub absent : AreTrue read → status ≡ 2 → HasNone view maps opened.now.bytes was now
  pub front : AreTrue read → PrintsFront (view_text view maps) opened.now.bytes was now
  pub left : LeavesNothingNew opened closed
  pub unopened : AreTrue read → IsErr (verdict opened.now.bytes) → (status ≡ 1) × (now ≡ was)

-- That is so with the maps of a folder. If no folder is named, no map says anything.
pub record ViewedBy (view : View) (folder : Option (String Global)) (was now : Option (List ℕ)) (status : ℕ) (opened closed : State) (read : List Reading) : Type 0 where
  pub maps : Maps
  pub unnamed : folder ≡ None → maps ≡ no_maps
  pub viewed : Viewed view maps was now status opened closed read

-- What `trace_device_on` promises, if maps say this of addresses.
pub record TracedDevice (part : TracePart) (maps : Maps) (was now : Option (List ℕ)) (status : ℕ) (opened closed : State) (read : List Reading) : Type 0 where
  pub done : AreTrue read → status ≡ 0 → PrintsShown (device_traced (rows_of maps part.node) part) opened.now.bytes was now
  pub absent : AreTrue read → status ≡ 2 → LacksShown (device_traced (rows_of maps part.node) part) opened.now.bytes was now
  pub front : AreTrue read → PrintsFront (device_text (rows_of maps part.node) part) opened.now.bytes was now
  pub left : LeavesNothingNew opened closed
  pub unopened : AreTrue read → IsErr (verdict opened.now.bytes) → (status ≡ 1) × (now ≡ was)

-- That is so with the maps of a folder. If no folder is named, no map says anything.
pub record TracedBy (part : TracePart) (folder : Option (String Global)) (was now : Option (List ℕ)) (status : ℕ) (opened closed : State) (read : List Reading) : Type 0 where
  pub maps : Maps
  pub unnamed : folder ≡ None → maps ≡ no_maps
  pub traced : TracedDevice part maps was now status opened closed read

-- Why not all of a command's files were used: it was refused before, with nothing printed.
pub record WasUnbegun (was now : Option (List ℕ)) (status : ℕ) : Type 0 where
  pub refused : 1 ≤ status
  pub silent : now ≡ was

-- If there is a path, the file there was read, and no other one; without a path none was.
abbrev pub IsRead : (path bytes : Option (List ℕ)) → (old new : List DeviceCall) → Type 0
IsRead (Some path) (Some bytes) old new = new ≡ old ++ Reads path bytes ∷ []
IsRead None None old new = new ≡ old
IsRead path bytes old new = ⊥

-- the path of the first of these files that is for a link
abbrev pub path_at : List PortFile → ℕ → Option (List ℕ)
path_at [] link = None
path_at (file ∷ files) link = if file.port == link then Some (string_bytes file.path) else path_at files link

-- The files of a trace were read, one after the other: the image, the map if one is named, and what comes in at each link that has a file.
pub record ReadsTrace (trace : ImageTrace) (old new : List DeviceCall) (image : List ℕ) (text in_0 in_1 in_2 in_3 : Option (List ℕ)) : Type 0 where
  pub behind : List DeviceCall
  pub behind_0 : List DeviceCall
  pub behind_1 : List DeviceCall
  pub behind_2 : List DeviceCall
  pub read : IsRead (option_map string_bytes trace.map) text (old ++ Reads (string_bytes trace.image) image ∷ []) behind
  pub link_0 : IsRead (path_at trace.inputs.items 0) in_0 behind behind_0
  pub link_1 : IsRead (path_at trace.inputs.items 1) in_1 behind_0 behind_1
  pub link_2 : IsRead (path_at trace.inputs.items 2) in_2 behind_1 behind_2
  pub link_3 : IsRead (path_at trace.inputs.items 3) in_3 behind_2 new

-- Its image was traced, with what came in at links, what the map says, the stops that were typed, and the lines that are to be printed.
pub record TracedImage (trace : ImageTrace) (image : List ℕ) (text in_0 in_1 in_2 in_3 : Option (List ℕ)) (was now : Option (List ℕ)) (status : ℕ) : Type 0 where
  pub rows : List Row
  pub stops : Stops
  pub map : read_map (unwrap_or text []) ≡ Ok rows
  pub lines : stops.lines ≡ trace.lines
  pub until : stops.until ≡ place_of rows (option_map string_bytes trace.until)
  pub watch : stops.watch ≡ range_of trace.bytes (place_of rows (option_map string_bytes trace.watch))
  pub traced : Traced rows stops trace.steps (in_0 ∷ in_1 ∷ in_2 ∷ in_3 ∷ []) was now status image

-- So it is of the files that are named.
pub record TracedFiles (trace : ImageTrace) (old new : List DeviceCall) (was now : Option (List ℕ)) (status : ℕ) : Type 0 where
  pub image : List ℕ
  pub text : Option (List ℕ)
  pub in_0 : Option (List ℕ)
  pub in_1 : Option (List ℕ)
  pub in_2 : Option (List ℕ)
  pub in_3 : Option (List ℕ)
  pub read : ReadsTrace trace old new image text in_0 in_1 in_2 in_3
  pub traced : TracedImage trace image text in_0 in_1 in_2 in_3 was now status

-- the path of the image of a node
abbrev pub image_of : (folder name : List ℕ) → List ℕ
image_of folder name = folder ++ (codes "/" ++ (name ++ codes ".img"))

abbrev pub images_read : (folder : List ℕ) → (names images : List (List ℕ)) → List DeviceCall
images_read folder (name ∷ names) (image ∷ images) = Reads (image_of folder name) image ∷ images_read folder names images
images_read folder names images = []

-- The text of a topology says this topology, and the image of each node that it names was read.
pub record ReadsImages (text folder : List ℕ) (old new : List DeviceCall) (found : Topology) (images : List (List ℕ)) : Type 0 where
  pub is : read_text text ≡ Ok found
  pub all : length images ≡ length (node_names text)
  pub uses : new ≡ old ++ images_read folder (node_names text) images

-- The images for a text were read and fit its topology, and exactly the line about that was printed.
pub record CheckedText (json : Bool) (text folder : List ℕ) (old new : List DeviceCall) (was now : Option (List ℕ)) : Type 0 where
  pub found : Topology
  pub images : List (List ℕ)
  pub read : ReadsImages text folder old new found images
  pub fit : IsSome (start_of found images)
  pub printed : Appends was now (topology_said json found)

-- That is so for the text in a file.
pub record Checked (json : Bool) (topology folder : List ℕ) (old new : List DeviceCall) (was now : Option (List ℕ)) : Type 0 where
  pub text : List ℕ
  pub checked : CheckedText json text folder (old ++ Reads topology text ∷ []) new was now

-- What `format_on` promises of a device, between the state in which it was begun and the one in which it was given back.
pub record FormattedBetween (found : Topology) (images : List (List ℕ)) (area : Option ℕ) (was now : Option (List ℕ)) (status : ℕ) (begun left : State) : Type 0 where
  pub formatted : status ≡ 0 → Formatted found images (areas_of_length (version_for found) (wanted_area found area)) begun left
  pub printed : status ≡ 0 → Appends was now formatted_text
  pub front : AppendsFront was now formatted_text
  pub said : (now ≡ was) ⊎ Formatted found images (areas_of_length (version_for found) (wanted_area found area)) begun left
  pub leaves : LeavesOnly begun left (IsOldOrNew found images (areas_of_length (version_for found) (wanted_area found area)) begun)

-- Only one device was begun, in the file at this path, and it was given back. `P` is true of its states when it was begun and when it was given back.
pub record BeginsOne (path : List ℕ) (old new : List DeviceCall) (P : State → State → Type 0) : Type 0 where
  pub begun : State
  pub left : State
  pub read : List Reading
  pub uses : new ≡ old ++ Begins path begun ∷ Leaves left read ∷ []
  pub between : P begun left

-- Either the command was refused before it began a device, or it began one and formatted it for this topology and these images.
abbrev pub FormattedNetwork : (device : List ℕ) → (area : Option ℕ) → Topology → (images : List (List ℕ)) → (old new : List DeviceCall) → (was now : Option (List ℕ)) → ℕ → Type 0
FormattedNetwork device area found images old new was now status =
    WasUnbegun was now status ⊎ BeginsOne device old new (FormattedBetween found images area was now status)

-- the paths of the files that a device is made from: that of its topology, and that of each node's image
abbrev pub sources_of : (topology folder : List ℕ) → (names : List (List ℕ)) → List (List ℕ)
sources_of topology folder names = topology ∷ map (image_of folder) names

-- A device's path is none of these.
abbrev pub IsApart : (device : List ℕ) → (paths : List (List ℕ)) → Type 0
IsApart device paths = All (λ path. device ≡ path → ⊥) paths

-- A device was begun at none of these paths, and formatted.
pub record FormattedApart (sources : List (List ℕ)) (device : List ℕ) (area : Option ℕ) (found : Topology) (images : List (List ℕ)) (old new : List DeviceCall) (was now : Option (List ℕ)) (status : ℕ) : Type 0 where
  pub apart : IsApart device sources
  pub made : BeginsOne device old new (FormattedBetween found images area was now status)

-- Either the command was refused before it began a device, or it began one at none of these paths, and formatted it.
abbrev pub FormattedNamed : (sources : List (List ℕ)) → (device : List ℕ) → (area : Option ℕ) → Topology → (images : List (List ℕ)) → (old new : List DeviceCall) → (was now : Option (List ℕ)) → ℕ → Type 0
FormattedNamed sources device area found images old new was now status =
    WasUnbegun was now status ⊎ FormattedApart sources device area found images old new was now status

-- The images for a text were read, and a device was begun and formatted for them. It isn't at the path of the text's file, or of an image's.
pub record FormattedFor (text topology folder device : List ℕ) (area : Option ℕ) (old new : List DeviceCall) (was now : Option (List ℕ)) (status : ℕ) : Type 0 where
  pub found : Topology
  pub images : List (List ℕ)
  pub mid : List DeviceCall
  pub read : ReadsImages text folder old mid found images
  pub made : FormattedApart (sources_of topology folder (node_names text)) device area found images mid new was now status

abbrev pub FormattedText : (text topology folder device : List ℕ) → (area : Option ℕ) → (old new : List DeviceCall) → (was now : Option (List ℕ)) → ℕ → Type 0
FormattedText text topology folder device area old new was now status =
    WasUnbegun was now status ⊎ FormattedFor text topology folder device area old new was now status

-- That is so for the text in a file.
pub record FormattedFrom (topology folder device : List ℕ) (area : Option ℕ) (old new : List DeviceCall) (was now : Option (List ℕ)) (status : ℕ) : Type 0 where
  pub text : List ℕ
  pub made : FormattedFor text topology folder device area (old ++ Reads topology text ∷ []) new was now status

abbrev pub FormattedFile : NewDevice → (old new : List DeviceCall) → (was now : Option (List ℕ)) → ℕ → Type 0
FormattedFile device old new was now status =
    WasUnbegun was now status
    ⊎ FormattedFrom (string_bytes device.topology) (string_bytes device.images) (string_bytes device.device) device.area old new was now status

-- What one check of `status` promises if it was told, whether or not a check came before it.
pub record Told (json : Bool) (before : Option Seen) (was now : Option (List ℕ)) (seen : Seen) (opened closed : State) (read : List Reading) : Type 0 where
  pub held : Bool
  pub at : ℕ
  pub clock : Option ℕ
  pub tells : AreTrue read → StatusTells json held at clock before opened.now.bytes was now seen
  pub left : LeavesNothingNew opened closed

-- What one check of `status` promises if it was refused.
pub record Untold (json : Bool) (before : Option Seen) (was now : Option (List ℕ)) (opened closed : State) (read : List Reading) : Type 0 where
  pub held : Bool
  pub at : ℕ
  pub clock : Option ℕ
  pub front : AreTrue read → PrintsFront (look_text json held at clock before) opened.now.bytes was now
  pub left : LeavesNothingNew opened closed
  pub unopened : AreTrue read → IsErr (verdict opened.now.bytes) → now ≡ was

-- Checks, one after the other. Each was told, and knows what the one before it saw.
pub data HaveLooked (json : Bool) (path : List ℕ) (old : List DeviceCall) (was : Option (List ℕ)) : (new : List DeviceCall) → (now : Option (List ℕ)) → (seen : Option Seen) → Type 0 where
  None_yet : HaveLooked json path old was old was None
  Then : (mid new : List DeviceCall) → (between now : Option (List ℕ)) → (before : Option Seen) → (seen : Seen)
      → HaveLooked json path old was mid between before → LooksAtOne path mid new (Told json before between now seen)
      → HaveLooked json path old was new now (Some seen)

-- Either the last check was told, and its line is the last thing printed; or one more check was refused.
abbrev pub EndsLooks : Bool → (path : List ℕ) → (before : Option Seen) → (mid new : List DeviceCall) → (between now : Option (List ℕ)) → ℕ → Type 0
EndsLooks json path before mid new between now status =
    (status ≡ 0) × IsSome before × (new ≡ mid) × (now ≡ between)
    ⊎ (WasRefused mid new between now status ⊎ (status ≡ 1) × LooksAtOne path mid new (Untold json before between now))

-- What `status` promises.
pub record HasStatus (json : Bool) (path : List ℕ) (old new : List DeviceCall) (was now : Option (List ℕ)) (status : ℕ) : Type 0 where
  pub mid : List DeviceCall
  pub between : Option (List ℕ)
  pub before : Option Seen
  pub looks : HaveLooked json path old was mid between before
  pub ends : EndsLooks json path before mid new between now status

-- the path at which a copy is made
abbrev pub part_of : List ℕ → List ℕ
part_of copy = copy ++ codes ".part"

-- The device `begun` got all of `source` that counts, and was given back. The text is the line of this copy.
pub record IsFilled (source : State) (read : List Reading) (begun : State) (old new : List DeviceCall) (text : List ℕ) : Type 0 where
  pub next : ℕ
  pub left : State
  pub copied : List Reading
  pub uses : new ≡ old ++ Leaves left copied ∷ []
  pub is : AreTrue read → AreTrue copied → IsBackup source.now.bytes begun.now.bytes left.now next
  pub line : text ≡ copied_line next

-- After that the copy got its name.
pub record IsLinked (part copy : List ℕ) (source : State) (read : List Reading) (begun : State) (old new : List DeviceCall) (text : List ℕ) : Type 0 where
  pub next : ℕ
  pub left : State
  pub copied : List Reading
  pub uses : new ≡ old ++ Leaves left copied ∷ Links part copy ∷ []
  pub is : AreTrue read → AreTrue copied → IsBackup source.now.bytes begun.now.bytes left.now next
  pub line : text ≡ copied_line next

-- Before that the copy was begun in a file of its own.
pub record IsCopyOf (part copy : List ℕ) (source : State) (read : List Reading) (old new : List DeviceCall) (text : List ℕ) : Type 0 where
  pub next : ℕ
  pub begun : State
  pub left : State
  pub copied : List Reading
  pub uses : new ≡ old ++ Begins part begun ∷ Leaves left copied ∷ Links part copy ∷ []
  pub is : AreTrue read → AreTrue copied → IsBackup source.now.bytes begun.now.bytes left.now next
  pub line : text ≡ copied_line next

-- A device was opened to be only read, and nothing was written to it. A copy of it was begun at `part`, filled, given back, and got its name. Then
-- the device was given back. The text is the line of this copy.
pub record IsBackedUp (device part copy : List ℕ) (old new : List DeviceCall) (text : List ℕ) : Type 0 where
  pub next : ℕ
  pub opened : State
  pub begun : State
  pub left : State
  pub copied : List Reading
  pub closed : State
  pub read : List Reading
  pub uses : new ≡ old ++ Looks device opened ∷ Begins part begun ∷ Leaves left copied ∷ Links part copy ∷ Leaves closed read ∷ []
  pub is : AreTrue read → AreTrue copied → IsBackup opened.now.bytes begun.now.bytes left.now next
  pub unwritten : LeavesNothingNew opened closed
  pub line : text ≡ copied_line next

-- There is such a copy, and exactly its line was printed.
pub record HasBackup (device part copy : List ℕ) (old new : List DeviceCall) (was now : Option (List ℕ)) : Type 0 where
  pub text : List ℕ
  pub made : IsBackedUp device part copy old new text
  pub printed : Appends was now text

-- A request to stop was to be made again for a device, any number of times, and each time it was made or not.
pub record AsksAgain (device : List ℕ) (old new : List DeviceCall) : Type 0 where
  pub made : List Bool
  pub uses : new ≡ old ++ map (Requests (request_path device)) made

-- A request to stop was made for a device, and maybe made again.
pub record HasRequested (device : List ℕ) (old new : List DeviceCall) : Type 0 where
  pub again : AsksAgain device (old ++ Requests (request_path device) true ∷ []) new
