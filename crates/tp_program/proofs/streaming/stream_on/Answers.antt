use Rattle.tp_program.proofs.streaming.stream_on.Goals as goal

pub stream_files-disk-requires : goal.stream_files-disk-requires
stream_files-disk-requires g c κs within =
    (within.0, (within.1.0, (within.1.1.0, (within.1.1.1.0, (within.1.1.1.1.0, (within.1.1.1.1.1.0, (within.1.1.1.1.1.1.0, (within.1.1.1.1.1.1.1, c.requires.1.1.1.1.1.1.1.1))))))))
