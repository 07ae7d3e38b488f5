use Rattle.std.proofs.Common.{length, arith}
use Rattle.tp_replay.proofs.Lower.{t414_ends, flights_found, sound_in_place}
use Rattle.tp_replay.proofs.laws.cuts_are_sound.Goals as goal

pub returns : goal.returns
returns c = λ s at wired as_long shaped empty passed.
    sound_in_place t414_ends s wired as_long shaped empty (λ x below. flights_found t414_ends s at 0 (length s.lines) passed x (omega arith) (omega (arith, below, as_long)))
