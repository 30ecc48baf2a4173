-- What an image of a disk is recovered as: a list of entries that are sound, the journal of another
-- topology, or damage at a place.
use Rattle.std.specs.Prelude.{ℕ, List}
use Rattle.sha2.specs.Sha256.{sha256}
use Rattle.hose_graph.specs.Network.{Network}
use Rattle.hose_graph.specs.declared.entry.Entry.{Entry}
use Rattle.hose_law.specs.History.{book_of, IsSoundAt}
use Rattle.hose_topo.specs.Canonical.{canonical_text}
use Rattle.hose_journal.specs.Image.{Meaning, HasMeaning, listed}

-- the digest of a topology's canonical text
unfoldable pub digest_of : Network → List ℕ
digest_of network = sha256 (canonical_text network)

-- the entry is sound at the book of those before it
abbrev pub IsSoundAfter : Network → List Entry → Entry → Type 0
IsSoundAfter network before entry = IsSoundAt network (book_of 0 before) entry

-- What an image is recovered as. It is damaged at the lowest gate at which an entry stands that is
-- not sound.
abbrev pub IsRecoveredAs : Network → List ℕ → Meaning Entry → Type 0
IsRecoveredAs network image meaning =
    HasMeaning (IsSoundAfter network) (digest_of network) image meaning

-- the image stands for this history
abbrev pub IsHistoryOf : Network → List Entry → List ℕ → Type 0
IsHistoryOf network history image = IsRecoveredAs network image (listed history)
