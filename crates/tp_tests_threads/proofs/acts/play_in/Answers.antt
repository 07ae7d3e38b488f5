use Rattle.std.proofs.Common.{refl}
use Rattle.tp_tests_threads.proofs.acts.play_in.Goals as goal

pub play-requires-clause-names : goal.play-requires-clause-names
play-requires-clause-names g c =
    record { roll_is = refl; first_is = refl; wires_are = refl; count_is = refl; ports_are = refl; nodes_are = λ i. refl; mark_is = refl; flusher_is = refl; host_is = refl; sights_is = refl; room_is = refl; accepted_is = λ p. refl }
