use Rattle.tp_law_machine.proofs.LinkLaws.{has_four_links, keeps_flight}
use Rattle.tp_law_network.proofs.Sound.{sound_kept, sound_small}
use Rattle.tp_law_network.proofs.Room.{line_room}
use Rattle.tp_law_network.proofs.entries_keep_soundness.Goals as goal

pub returns : goal.returns
returns c = record {
  kept = sound_kept has_four_links keeps_flight;
  single = λ s sound. sound_small sound;
  room = λ s sound. line_room sound;
}
