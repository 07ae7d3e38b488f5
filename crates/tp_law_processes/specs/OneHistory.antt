-- What processes, one after the other, leave and have shown: parts of one history.
use Rattle.std.specs.Prelude.{◌≡◌, ◌<◌, ◌≤◌, ℕ, List, length, take, drop, Some, Ok, slice_get}
use Rattle.tp_law_processes.specs.Lower.{AllByRecursion, Entry, Confirm, HostIn, NodeState, t414, Network, after, moment, Opened, next_of, verdict, World, Began}
use Rattle.tp_law_processes.specs.Inputs.{all_in}
use Rattle.tp_law_processes.specs.Outputs.{bytes_out}
use Rattle.tp_law_processes.specs.Processes.{HasMaker, MayConfirm, MayHand, Process, Showing, answered, journal_of, last_left, showings}

-- Bytes open to the network where all entries of a journal lead, which are as many as its next number says.
pub record OpensAfter (start : Network NodeState) (journal : List Entry) (bytes : List ℕ) : Type 0 where
  pub opened : Opened
  pub reads : verdict bytes ≡ Ok opened
  pub count : length journal ≡ next_of opened
  pub leads : after t414 start journal ≡ Some opened.now

-- What was shown is the part, from its position on, of all that a journal puts out at that port.
abbrev pub IsPartOf : Network NodeState → List Entry → Showing → Type 0
IsPartOf start journal x = x.bytes ≡ take (length x.bytes) (drop x.from (bytes_out start.wires x.port journal))

-- A process in a journal.
-- - The device that it began with stands for the journal's first `number` entries. What it left stands for the first `upto`. Those between are its own,
--   and the next process finds them.
-- - Whatever it had shown when it was stopped is part of what the whole journal puts out.
-- - If it ended, each entry below the number that it answered is there, from those that it found on.
-- - Each byte that one of its own entries hands to a port is one that the process may hand in at the position that the port has come to: after all
--   bytes that came before.
-- - An entry of its own confirms no more of a port's outputs than the process showed.
-- - If it ended, its host or a turn made each entry of its own.
pub record HasPlace (start : Network NodeState) (journal : List Entry) (p : Process start) : Type 0 where
  pub number : ℕ
  pub upto : ℕ
  pub onward : number ≤ upto
  pub few : upto ≤ length journal
  pub found : OpensAfter start (take number journal) p.old.now.bytes
  pub left : OpensAfter start (take upto journal) p.left
  pub shown : AllByRecursion (λ x. x.there ≤ p.at → IsPartOf start journal x) (showings start p.old p.new p.did)
  pub acknowledged :
      moment p.new ≤ p.at → (k : ℕ) → number ≤ k → k < answered p.did → slice_get journal k ≡ slice_get (journal_of p.did) k
  pub handed :
      (k port byte : ℕ) → number ≤ k → k < upto → slice_get journal k ≡ Some (HostIn port byte)
      → MayHand p.did port (length (all_in start port (take k journal))) byte
  pub confirmed :
      (k port to : ℕ) → number ≤ k → k < upto → slice_get journal k ≡ Some (Confirm port to) → MayConfirm p.did found.opened port to
  pub made :
      moment p.new ≤ p.at → (k : ℕ) (e : Entry) → number ≤ k → k < answered p.did → slice_get journal k ≡ Some e → HasMaker p.did found.opened k e

-- One journal for all processes, in which each has its place. What the last one left stands for all of it, and a next process may begin with that. So
-- whatever two of them showed of one position of a port is one byte: the one that the one-thread network puts out there.
pub record OneHistory (start : Network NodeState) (was : List ℕ) (processes : List (Process start)) : Type 0 where
  pub journal : List Entry
  pub each : AllByRecursion (HasPlace start journal) processes
  pub left : OpensAfter start journal (last_left start was processes)
  pub world : World NodeState
  pub begins : Began start world (last_left start was processes)
