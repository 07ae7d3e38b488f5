use Rattle.tp_program.specs.Media.{medium_at}
use Rattle.tp_program.proofs.media.Media.device_in.Given as goal

abbrev pub ghost-device_of : goal.ghost-device_of
ghost-device_of g a = medium_at a._media.now.told a._noted.now.told a._used.now.told
