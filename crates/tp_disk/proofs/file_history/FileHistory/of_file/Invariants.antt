use Rattle.tp_disk.proofs.file_history.FileHistory.of_file.Given as goal

abbrev pub ghost-of_file : goal.ghost-of_file
ghost-of_file t a = t.medium
