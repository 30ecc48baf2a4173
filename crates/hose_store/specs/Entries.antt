-- Entries with which the journal on a disk begins.
use Rattle.std.specs.Prelude.{◌≡◌, ◌⊎◌, ℕ, ◌≤◌, List, [], ◌++◌, length, Option, IfSome}
use Rattle.hose_graph.specs.Network.{Network}
use Rattle.hose_graph.specs.declared.entry.Entry.{Entry}
use Rattle.hose_law.specs.History.{IsSound}
use Rattle.hose_journal.specs.Entries.{Item, TakesAny, entries_in}
use Rattle.hose_journal.specs.Image.{AreItems, IsDamaged, IsHeadless, IsUnmarked, IsVersion, front_of}
use Rattle.hose_store.specs.Recovery.{IsSoundAfter, digest_of}

-- A journal that begins with the records of these entries, and a gate after them.
pub record BeginsWith (digest : List ℕ) (entries : List Entry) (bytes : List ℕ) : Type 0 where
  pub version : ℕ
  pub is_version : IsVersion version
  pub items : List Item
  pub entries_are : entries_in items ≡ entries
  pub are : AreItems TakesAny version [] items
  pub rest : List ℕ
  pub some : 1 ≤ length rest
  pub is : bytes ≡ front_of version digest items ++ rest

-- What is read of a disk begins with these entries, of which each is sound at the book of those
-- before it; or they are none.
pub record HasEntries (network : Network) (content : Option (List ℕ)) (entries : List Entry) :
    Type 0 where
  pub sound : IsSound network 0 entries
  pub read : IfSome content (λ bytes. (entries ≡ [])
      ⊎ BeginsWith (digest_of network) entries bytes)

-- These entries are all that stand before damage at this place: an open gate follows them that
-- begins no record of an entry which is sound there; or the head is damaged, and they are none.
abbrev pub IsDamagedAfter : Network → List Entry → ℕ → List ℕ → Type 0
IsDamagedAfter network entries at bytes =
    ((entries ≡ []) × (IsHeadless bytes ⊎ IsUnmarked bytes))
    ⊎ IsDamaged (IsSoundAfter network) (digest_of network) at entries bytes
