use Rattle.tp_disk.proofs.file.RawFile.new.Given as goal

abbrev pub ghost-of_file : goal.ghost-of_file
ghost-of_file g a = g.medium
