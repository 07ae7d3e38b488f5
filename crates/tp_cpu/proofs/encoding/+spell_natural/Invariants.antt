use Rattle.tp_cpu.proofs.encoding.+spell_natural.Given as goal

abbrev pub decreases-spell_natural : goal.decreases-spell_natural
decreases-spell_natural l = l.more
