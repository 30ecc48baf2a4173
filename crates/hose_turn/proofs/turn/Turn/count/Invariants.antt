use Rattle.hose_turn.proofs.turn.Turn.count.Given as goal

abbrev pub ghosts-count_named : goal.ghosts-count_named
ghosts-count_named g a = record { entry = a.entry.value }
