use Rattle.tp_disk.specs.History.{with_call, SyncsData}
use Rattle.tp_disk.proofs.history.History.has_synced_data.Given as goal

abbrev pub ghost-of : goal.ghost-of
ghost-of a = with_call a._value.now.0.now.told (SyncsData a._value.now.1)
