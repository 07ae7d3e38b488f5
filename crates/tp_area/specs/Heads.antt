-- A device's head by its first bytes, and by how many bytes the device has.
use Rattle.std.specs.Prelude.{ℕ, Bool, not, ◌&&◌, if◌then◌else◌, List, take, Option, Some, None, Result, Ok, Err, bytes_eq}
use Rattle.tp_area.specs.Lower.{HeadVersion, OpenFault, NotFormatted, BadVersion, u8_at, or_damaged, fits_device, Head, head_at, head_bytes, keeps_limits, magic, version_of, Topology, is_topology}

-- the version that the bytes say, or why they are no head
abbrev pub version_given : Option HeadVersion → Result HeadVersion OpenFault
version_given None = Err BadVersion
version_given (Some version) = Ok version

abbrev pub version_in : List ℕ → Result HeadVersion OpenFault
version_in bytes =
    if not (bytes_eq (take 7 bytes) magic) then Err NotFormatted else version_given (version_of (u8_at bytes 7))

-- the topology keeps its rules and the limits of the version
abbrev pub can_be_said : HeadVersion → Topology → Bool
can_be_said version t = is_topology t && keeps_limits version t

-- the topology that the bytes say, if it does
abbrev pub topology_at : HeadVersion → List ℕ → Option Topology
topology_at version bytes =
    if can_be_said version (head_at version bytes).topology then Some (head_at version bytes).topology else None

-- the bytes are that head's, and `len` bytes have room for what it says
abbrev pub is_whole : ℕ → List ℕ → Head → Bool
is_whole len bytes head =
    can_be_said head.version head.topology
    && (bytes_eq bytes (head_bytes head.version head.topology head.areas) && fits_device len head.topology head.areas)

abbrev pub fields_in : HeadVersion → ℕ → List ℕ → Option Head
fields_in version len bytes = if is_whole len bytes (head_at version bytes) then Some (head_at version bytes) else None

-- the head of that version
abbrev pub head_in : HeadVersion → ℕ → List ℕ → Result Head OpenFault
head_in version len bytes = or_damaged 0 (fields_in version len bytes)
