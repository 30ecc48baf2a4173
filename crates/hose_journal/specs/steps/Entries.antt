-- The records of entries and of a seal, in both versions of the format: steps of proofs.
use Rattle.std.specs.Prelude.{ℕ, List, [], ◌∷◌, ◌++◌, ⊤}
use Rattle.hose_graph.specs.declared.entry.Entry.{Entry}
use Rattle.hose_journal.specs.steps.Layout.{closed_gate}
use Rattle.hose_journal.specs.Image.{Meaning, HasMeaning, listed}
use Rattle.hose_journal.specs.Entries.{Item, TakesAny, item_bytes}

-- ---- records

-- a record with a closed gate after it
abbrev pub closed_record : ℕ → List ℕ → List Item → Item → List ℕ
closed_record version digest before item = item_bytes version digest before item ++ closed_gate ∷ []

-- ---- lists of entries

-- what an image stands for
abbrev pub Means : List ℕ → List ℕ → Meaning Entry → Type 0
Means digest image meaning = HasMeaning TakesAny digest image meaning

-- the image stands for this list of entries
abbrev pub IsListOf : List ℕ → List Entry → List ℕ → Type 0
IsListOf digest entries image = Means digest image (listed entries)

-- ---- fewer entries

-- each of these entries is taken after those before it
abbrev pub AreAllowed : (List Entry → Entry → Type 0) → List Entry → List Entry → Type 0
AreAllowed Takes before [] = ⊤
AreAllowed Takes before (entry ∷ entries) =
    Takes before entry × AreAllowed Takes (before ++ entry ∷ []) entries
