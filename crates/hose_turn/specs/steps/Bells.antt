-- The bells of a lock.
use Rattle.std.specs.Prelude.{◌≡◌}
use Rattle.atomic_table.specs.Seated.{TableId}
use Rattle.hose_turn.specs.declared.bells.TheConstants.{BELLS}

-- there is a word for each bell
abbrev pub HasBellWords : TableId → Type 0
HasBellWords row = row.words ≡ BELLS
