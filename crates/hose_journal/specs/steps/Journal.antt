-- What a journal stands for while entries are added to it.
use Rattle.std.specs.Prelude.{◌≡◌, ◌⊎◌, ℕ, ◌+◌, ◌<◌, ◌≤◌, ◌^◌, List, [], ◌∷◌, ◌++◌, length, Option, Some, None, IfSome, is_some, MatchOption, vec_capacity}
use Rattle.hose_graph.specs.declared.entry.Entry.{Entry}
use Rattle.hose_codec.specs.Spelling.{IsEntry, spelling}
use Rattle.hose_disk.specs.declared.disk.Disk.{Ghosts}
use Rattle.hose_journal.specs.Chain.{chain}
use Rattle.hose_journal.specs.Entries.{Item, TakesAny, entered, entries_in, is_chained}
use Rattle.hose_journal.specs.steps.Entries.{IsListOf, closed_record}
use Rattle.hose_journal.specs.steps.Gates.{IsDoubtful}
use Rattle.hose_journal.specs.Image.{AreItems, IsClosed, IsVersion, front_of}
use Rattle.hose_journal.specs.Moments.{Images}
use Rattle.hose_journal.specs.declared.layout.TheConstants.{BUFFER_BYTES}
use Rattle.hose_journal.specs.Layout.{digest_bytes}
use Rattle.hose_journal.specs.declared.journal.Journal.{Journal}
use Rattle.hose_journal.specs.declared.prepared.Ready.{Ready}

-- What was told of a journal: the digest of its topology, the entries that were acknowledged, and
-- the one in doubt, which a stop may leave or not.
pub record Account : Type 0 where
  pub digest : List ℕ
  pub entries : List Entry
  pub doubt : Option Entry

-- the account with this entry in doubt, or with none
abbrev pub with_doubt : Account → Option Entry → Account
with_doubt account doubt = record account { doubt = doubt }

-- the account with one entry more, and none in doubt
abbrev pub account_with : Account → Entry → Account
account_with account entry =
    record account { entries = account.entries ++ entry ∷ []; doubt = None }

-- an image that a stop may leave, byte by byte: a closed gate after the items, or any gate and
-- after it the record in doubt
abbrev pub IsStopImage : ℕ → List Item → Account → List ℕ → Type 0
IsStopImage version items account image = MatchOption account.doubt
    (IsClosed (front_of version account.digest items) image)
    (λ entry. IsDoubtful (front_of version account.digest items)
    (closed_record version account.digest items (entered entry)) image)

-- The journal stands for the entries of the account, with that in doubt or without it. It is sealed
-- where the next record has a chain value.
pub record Stands {D : Type 0} (disk : Ghosts D) (journal : Journal D) (account : Account) :
    Type 0 where
  pub version : ℕ
  pub items : List Item
  pub is_version : IsVersion version
  pub entries : entries_in items ≡ account.entries
  pub size : length account.digest ≡ digest_bytes
  pub are : AreItems TakesAny version [] items
  pub doubt_is : IfSome account.doubt IsEntry
  pub place : length (front_of version account.digest items) ≡ journal.gate
  pub small : journal.gate + 1 < 2 ^ 62
  pub doubt : is_some account.doubt ≡ journal.doubt
  pub sealed : is_chained version items ≡ journal.sealed
  pub chain : journal.chain ≡ chain account.digest account.entries
  pub room : BUFFER_BYTES ≤ vec_capacity journal.buffer
  pub images : Images disk journal.disk (IsStopImage version items account)

-- the image stands for the entries and one more
abbrev pub IsListWith : Account → Option Entry → List ℕ → Type 0
IsListWith account None image = ⊥
IsListWith account (Some entry) image =
    IsListOf account.digest (account.entries ++ entry ∷ []) image

-- an image at some moment while an entry is revoked or written: it stands for the entries, or for
-- them and the one in doubt or the one that is written
abbrev pub IsListAmid : Account → Option Entry → List ℕ → Type 0
IsListAmid account writing image = IsListOf account.digest account.entries image
    ⊎ (IsListWith account account.doubt image ⊎ IsListWith account writing image)

-- the bytes that are ready are the spelling of this entry
pub record IsReady (entry : Entry) (ready : Ready) : Type 0 where
  pub is_entry : IsEntry entry
  pub bytes : ready.bytes.items ≡ spelling entry
