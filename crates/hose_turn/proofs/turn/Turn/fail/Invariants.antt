use Rattle.hose_turn.proofs.turn.Turn.fail.Given as goal

abbrev pub ghosts-fail_named : goal.ghosts-fail_named
ghosts-fail_named g a = record { entry = a.entry.value }
