-- What `backup` makes and prints.
use Rattle.std.specs.Prelude.{◌≡◌, ℕ, List, [], ◌∷◌, ◌++◌, codes, Ok, Option}
use Rattle.tp_program.specs.Lower.{decimal, Appends, AreaAsked, AskedLast, IsCopy, area_kept, CopyFault, NotRead, NotWritten, NoMemory, Refusal, ReadFailed, DeviceFailed, Memory, Moment, Opened, State, verdict}

-- the line that is printed of a copy: the number of its next entry
abbrev pub copied_line : ℕ → List ℕ
copied_line next = codes "copied next " ++ (decimal next ++ 10 ∷ [])

-- A device with the bytes `source` opens, and the copy, over the bytes `before`, is synced and has all of it that counts. The copy opens to the
-- device's areas, open area, generation, end of the groups and next number.
pub record IsBackup (source before : List ℕ) (copy : Moment) (next : ℕ) : Type 0 where
  pub opened : Opened
  pub is : verdict source ≡ Ok opened
  pub copied : IsCopy (area_kept opened) source before copy next

-- The device's last call asked for the gate and the generation of the area to which the device was opened, and the gate was open, with its
-- generation. The device is in the state `left` after that. Under the premise on its reads the opening is that of the bytes `source`.
pub record FoundAsOpened (premise : Type 0) (source : List ℕ) (left : State) (asked : AreaAsked) : Type 0 where
  pub opened : Opened
  pub is : premise → verdict source ≡ Ok opened
  pub last : AskedLast (area_kept opened) left asked

-- The text is the line of a copy.
pub record IsCopiedLine (text : List ℕ) : Type 0 where
  pub next : ℕ
  pub is : text ≡ copied_line next

-- Exactly the line of a copy was printed.
pub record PrintsCopied (was now : Option (List ℕ)) : Type 0 where
  pub next : ℕ
  pub printed : Appends was now (copied_line next)

-- the refusal that tells why an opened device wasn't copied
abbrev pub copy_refusal : CopyFault → Refusal
copy_refusal NotRead = ReadFailed
copy_refusal NotWritten = DeviceFailed
copy_refusal NoMemory = Memory
