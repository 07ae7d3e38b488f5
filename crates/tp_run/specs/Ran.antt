-- What a run leaves, even if a crash ends it early. "A network to which entries lead" is the network that they make of the one at the start.
use Rattle.std.specs.Prelude.{◌≡◌, ◌≤◌, ◌⊎◌, ℕ, ◌+◌, List, ◌++◌, length, Option, Result, Ok, IfOk}
use Rattle.tp_run.specs.Lower.{enumerate_from, Appends, Entry, NodeState, t414, Network, MayBe, State, LeavesOnly, moment, device_areas, Opened, next_of, verdict, RecoversTo, AreBelow, Follows}
pub use Rattle.tp_flush.specs.History.{History}
use Rattle.tp_flush.specs.Settled.{RecoversWith, SlipsStand}
use Rattle.tp_run.specs.Accounted.{Accounted}
use Rattle.tp_run.specs.declared.fault.RunFault.{RunFault}
use Rattle.tp_run.specs.declared.job.Job.{Job}
use Rattle.tp_run.specs.declared.outset.Outset.{Outset}
use Rattle.tp_run.specs.HandedOver.{HandedOver}
use Rattle.tp_run.specs.Input.{input_slips}
use Rattle.tp_run.specs.Outlet.{OutletValue, WasCalled}
use Rattle.tp_run.specs.Outset.{outset_in}
use Rattle.tp_run.specs.Output.{confirms}
use Rattle.tp_run.specs.Prints.{MayBeSilent, PrintsSo}
use Rattle.tp_run.specs.Shown.{IsUpTo, LeadsToOutputs}

-- the slip of the entry that confirms what a run printed, under this number; none if nothing was printed
abbrev pub output_slips : Outset → ℕ → List ℕ → List (ℕ × Entry)
output_slips outset number printed = enumerate_from number (confirms outset.port outset.confirmed printed)

-- What the flusher's journal has of a finished run.
-- - Some bytes were printed. They are all outputs of the port that weren't confirmed, in the network to which the first `number` entries lead.
-- - The entry with that number confirms them. If nothing was printed, there is no such entry.
-- - This entry and those of `handed` have numbers below `next`, and each is in the flusher's journal at its number.
-- - They and the entries that the workers' turns made are all that was journalled since the opening.
pub record Settled (start network : Network NodeState) (job : Job) (outset : Outset) (handed : List (ℕ × Entry)) (was now : Option (List ℕ)) (journal : List Entry) (next : ℕ) : Type 0 where
  pub printed : List ℕ
  pub appended : Appends was now printed
  pub number : ℕ
  pub last : next ≡ number + length (confirms outset.port outset.confirmed printed)
  pub below : AreBelow next (handed ++ output_slips outset number printed)
  pub stand : SlipsStand journal (handed ++ output_slips outset number printed)
  pub shows : LeadsToOutputs start journal number outset.port outset.confirmed printed
  pub accounted : Accounted network job journal outset.next next (handed ++ output_slips outset number printed)

-- What is in the journal after a finished run.
-- - The device opened. Of the input, the port got the bytes after those that it had accepted, as many as it had room for. Their entries follow what
--   the device had.
-- - Some bytes were printed. They are all outputs of the port that weren't confirmed, in the network to which the first `number` entries lead.
-- - The entry with that number confirms them. If nothing was printed, there is no such entry.
-- - All these entries have numbers below `next`. Whatever a crash leaves opens to the network that a prefix of the journal leads to, and that prefix
--   has each of them at its number.
-- - They and the entries that the workers' turns made are all that the journal has from the opening up to `next`, each once.
pub record Carried (start : Network NodeState) (journal : List Entry) (job : Job) (input : List ℕ) (was now : Option (List ℕ)) (next : ℕ) (old new : State) : Type 0 where
  pub opened : Opened
  pub reads : verdict old.now.bytes ≡ Ok opened
  pub printed : List ℕ
  pub appended : Appends was now printed
  pub number : ℕ
  pub last : next ≡ number + length (confirms job.port (outset_in opened job.port).confirmed printed)
  pub below : AreBelow next (input_slips (outset_in opened job.port) input ++ output_slips (outset_in opened job.port) number printed)
  pub stored :
      (left : List ℕ) → MayBe new.now left
      → RecoversWith start journal next (input_slips (outset_in opened job.port) input ++ output_slips (outset_in opened job.port) number printed) left
  pub shows : LeadsToOutputs start journal number job.port (outset_in opened job.port).confirmed printed
  pub accounted :
      Accounted opened.cut job journal (next_of opened) next
      (input_slips (outset_in opened job.port) input ++ output_slips (outset_in opened job.port) number printed)

-- What was printed, however the run ended.
-- - The device opened. In the network to which the first `number` entries lead, the port has `outputs` after those that were confirmed at the
--   opening. These entries include all that the device had at the opening.
-- - The first of these outputs were printed: fewer than all if the output can't be written, else all.
-- - They were printed while the device was in the state `there`. Whatever a crash leaves from then on has each of these entries.
-- - Whatever a crash leaves up to then has none of the later entries, so none that confirms these outputs. Or a crash just before the run might have
--   left it, too.
pub record IsPrinted (start : Network NodeState) (journal : List Entry) (port : ℕ) (was now : Option (List ℕ)) (result : Result ℕ RunFault) (old new : State) : Type 0 where
  pub opened : Opened
  pub reads : verdict old.now.bytes ≡ Ok opened
  pub number : ℕ
  pub behind : next_of opened ≤ number
  pub outputs : List ℕ
  pub shows : LeadsToOutputs start journal number port (outset_in opened port).confirmed outputs
  pub printed : PrintsSo result was now outputs
  pub there : State
  pub later : moment old ≤ moment there
  pub before : LeavesOnly old there (λ left. MayBe old.now left ⊎ IsUpTo start journal number left)
  pub since : LeavesOnly there new (RecoversTo t414 device_areas start journal number)

-- What a run leaves, however it ended.
-- - A crash at any moment leaves one of two things. Either a crash just before the run might have left it, too; or it opens to the network that a
--   prefix of the journal leads to. That prefix begins with the journal that the device had at the opening, and has all of it.
-- - After a finished run that prefix also has each entry below the answered number. Among them are those of the input and the one that confirms what
--   was printed. All others since the opening were made by the workers' turns.
-- - Perhaps nothing was printed, and the answer allows that. Otherwise as many outputs of the port were printed as the answer says. Whatever a crash
--   leaves after that has the entries that lead to them, and whatever it leaves before that has none of the later ones.
-- - The host handed in nothing but the input and, after the outlet had taken all outputs, the entry that confirms them. The journal has a first part of
--   that.
pub record Ran (start : Network NodeState) (job : Job) (input : List ℕ) (was now : Option (List ℕ)) (result : Result ℕ RunFault) (old new : State) : Type 0 where
  pub journal : List Entry
  pub leaves : LeavesOnly old new (λ left. MayBe old.now left ⊎ Follows start journal 0 old.now.bytes left)
  pub stored : IfOk result (λ next. (left : List ℕ) → MayBe new.now left → Follows start journal next old.now.bytes left)
  pub carried : IfOk result (λ next. Carried start journal job input was now next old new)
  pub printed : ((now ≡ was) × MayBeSilent result) ⊎ IsPrinted start journal job.port was now result old new
  pub handed : (opened : Opened) → verdict old.now.bytes ≡ Ok opened → HandedOver start journal (outset_in opened job.port) input was now

-- What an outlet was called for, however the run ended. It took what was printed. Whatever a crash leaves after such a call has each entry that leads
-- to that output.
pub record IsCalled (start : Network NodeState) (journal : List Entry) (port : ℕ) (was now : OutletValue) (result : Result ℕ RunFault) (old new : State) : Type 0 where
  pub printed : IsPrinted start journal port was.taken now.taken result old new
  pub called : WasCalled printed.there printed.outputs was now

-- What a run leaves, and what its outlet was called for, by one journal. Perhaps it wasn't called.
pub record RanInto (start : Network NodeState) (job : Job) (input : List ℕ) (was now : OutletValue) (result : Result ℕ RunFault) (old new : State) : Type 0 where
  pub ran : Ran start job input was.taken now.taken result old new
  pub called : (now ≡ was) ⊎ IsCalled start ran.journal job.port was now result old new
