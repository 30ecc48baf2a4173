-- What an image of a disk stands for: entries, the journal of another topology, or damage at a
-- place: steps of proofs.
use Rattle.std.specs.Prelude.{ℕ, List, [], ◌∷◌, ◌++◌}
use Rattle.hose_journal.specs.steps.Layout.{closed_gate}
use Rattle.hose_journal.specs.Entries.{Item}
use Rattle.hose_journal.specs.Image.{front_of}

-- ---- the layout

-- the journal of these items
abbrev pub journal_bytes : ℕ → List ℕ → List Item → List ℕ
journal_bytes version digest items = front_of version digest items ++ closed_gate ∷ []
