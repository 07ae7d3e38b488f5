use Rattle.std.proofs.Common.{◌∙◌}
use Rattle.tp_program.proofs.NoMaps.{unread}
use Rattle.tp_program.proofs.files.trace_device_file.Goals as goal

pub trace_mapped-requires : goal.trace_mapped-requires
trace_mapped-requires g c = record {
  unnamed = λ none.
      unread _ _ _ _ c.in-Ok-read_maps.ensures.maps (c.as_slice.ensures.value ∙ c.in-Ok.ensures.own none) (c.as_slice-2.ensures.value ∙ c.in-Ok.ensures.all none);
}
