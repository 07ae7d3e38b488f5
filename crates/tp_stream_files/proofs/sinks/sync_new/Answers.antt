use Rattle.std.proofs.Common.{arith}
use Rattle.tp_stream_files.proofs.Keeping.{keeps_folder, keeps_none}
use Rattle.tp_stream_files.proofs.SyncedFolders.{folder_left, folder_synced}
use Rattle.tp_stream_files.proofs.sinks.sync_new.Goals as goal

pub returns-then-size-ne0 : goal.returns-then-size-ne0
returns-then-size-ne0 g c = record { kept = keeps_none _; synced = folder_left _ _ _ (let some = c.if-size-ne0.true in omega (arith, some)) }

pub returns : goal.returns
returns g c = record {
  kept = keeps_folder _ _ _ _ c.sync_folder_of.ensures;
  synced = folder_synced c.sync_folder_of.result _ _ _ _ c.if-size-ne0.false c.sync_folder_of.ensures;
}
