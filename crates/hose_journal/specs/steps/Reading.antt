-- What a reading has taken from a disk: steps of proofs.
use Rattle.std.specs.Prelude.{◌≡◌, ◌⊎◌, ℕ, ◌+◌, ◌-◌, ◌<◌, ◌≤◌, ◌^◌, List, [], ◌∷◌, ◌++◌, length, take, drop, Option, Some, None, Result, Ok, Err, IfSome, IsFalse, IsTrue, vec_capacity}
use Rattle.hose_io.specs.Frame.{Stays}
use Rattle.hose_graph.specs.declared.entry.Entry.{Entry}
use Rattle.hose_codec.specs.declared.limits.CodecFault.{CodecFault}
use Rattle.hose_codec.specs.declared.limits.CodecFault.TheVariants.{Bad, Memory as Wanting}
use Rattle.hose_disk.specs.Disk.{NoneNew, object_frame}
use Rattle.hose_disk.specs.declared.disk.Disk.{Ghosts}
use Rattle.hose_journal.specs.steps.AtGate.{BeginsSeal}
use Rattle.hose_journal.specs.Chain.{chain}
use Rattle.hose_journal.specs.Entries.{Item, TakesAny, entered, entries_in, entry_bytes, is_chained}
use Rattle.hose_journal.specs.Image.{AreItems, IsDamaged, IsClosed, IsVersion, front_of}
use Rattle.hose_journal.specs.Moments.{LeavesOnly}
use Rattle.hose_journal.specs.steps.Moments.{ReadsItsImages}
use Rattle.hose_journal.specs.declared.fault.JournalFault.{JournalFault}
use Rattle.hose_journal.specs.declared.fault.JournalFault.TheVariants.{Disk, Other, Damaged, Memory}
use Rattle.hose_journal.specs.declared.layout.TheConstants.{BUFFER_BYTES, MOST_PART, PIECE_BYTES}
use Rattle.hose_journal.specs.Layout.{digest_bytes}
use Rattle.hose_journal.specs.steps.Layout.{head_bytes}
use Rattle.hose_journal.specs.declared.opening.BegunJournal.{BegunJournal}
use Rattle.hose_journal.specs.declared.part.Found.{Found}
use Rattle.hose_journal.specs.declared.piece.Piece.{Piece}
use Rattle.hose_journal.specs.declared.reading.Reading.{Reading}
use Rattle.hose_journal.specs.Reading.{HasFailed}

-- A disk was only read: it holds what it held, and a stop leaves what it might have left before.
pub record OnlyRead {D : Type 0} (disk : Ghosts D) (old new : D) : Type 0 where
  pub same : disk.content new ≡ disk.content old
  pub images : NoneNew (disk.may_leave old) (disk.may_leave new)
  pub run : LeavesOnly disk old new (disk.may_leave old)
  pub stays : Stays (object_frame (disk.frame old)) (object_frame (disk.frame new))
  pub opened : (disk.frame new).opened ≡ (disk.frame old).opened

-- A piece of what a disk of this length holds.
pub record IsPiece (content : Option (List ℕ)) (end : ℕ) (piece : Piece) : Type 0 where
  pub size : length piece.bytes.items ≡ PIECE_BYTES
  pub fits : piece.len ≤ PIECE_BYTES
  pub within : piece.from + piece.len ≤ end
  pub read : IfSome content (λ bytes. length bytes ≡ end →
      take piece.len piece.bytes.items ≡ take PIECE_BYTES (drop piece.from bytes))

-- It has all that a record at this place needs, or all up to the disk's end.
pub record CoversRecord (piece : Piece) (at : ℕ) : Type 0 where
  pub from : piece.from ≤ at
  pub far : (piece.len < PIECE_BYTES) ⊎ (at - piece.from + MOST_PART ≤ PIECE_BYTES)

-- what a piece of a disk has from this place on
abbrev pub held_from : Piece → ℕ → List ℕ
held_from piece at = drop (at - piece.from) (take piece.len piece.bytes.items)

-- ---- entries

-- these items stand before the gate that is next, and the disk has this length
pub record IsReadUpTo (version : ℕ) (digest : List ℕ) (items : List Item) (end : ℕ)
    (bytes : List ℕ) : Type 0 where
  pub long : length bytes ≡ end
  pub rest : List ℕ
  pub is : bytes ≡ front_of version digest items ++ rest

-- The reading has given these entries, and what a stop may leave is what it reads.
pub record Reads {D : Type 0} (disk : Ghosts D) (reading : Reading D) (digest : List ℕ)
    (entries : List Entry) : Type 0 where
  pub version : ℕ
  pub items : List Item
  pub is_version : IsVersion version
  pub entries_are : entries_in items ≡ entries
  pub size : length digest ≡ digest_bytes
  pub are : AreItems TakesAny version [] items
  pub place : length (front_of version digest items) ≡ reading.gate
  pub within : reading.gate < reading.end
  pub small : reading.end < 2 ^ 62
  pub sealed : is_chained version items ≡ reading.sealed
  pub chain : reading.chain ≡ chain digest entries
  pub room : BUFFER_BYTES ≤ vec_capacity reading.buffer
  pub piece : IsPiece (disk.content reading.disk) reading.end reading.piece
  pub only : ReadsItsImages disk reading.disk
  pub told : IfSome (disk.content reading.disk) (IsReadUpTo version digest items reading.end)
  pub closed : IsTrue reading.closed →
      IfSome (disk.content reading.disk) (IsClosed (front_of version digest items))

-- An entry's record stands at this place, after items that say the entries before it.
pub record IsFoundAt (content : Option (List ℕ)) (digest : List ℕ) (entries : List Entry)
    (entry : Entry) (place end : ℕ) : Type 0 where
  pub version : ℕ
  pub before : List Item
  pub is_version : IsVersion version
  pub entries_are : entries_in before ≡ entries
  pub are : AreItems TakesAny version [] (before ++ entered entry ∷ [])
  pub here : length (front_of version digest before) ≡ place
  pub within : length (front_of version digest (before ++ entered entry ∷ [])) < end
  pub told : IfSome content (IsReadUpTo version digest (before ++ entered entry ∷ []) end)

-- an entry's record stands from the gate to the end of what was read, chained where the journal is
-- sealed
pub record IsAtEntry {D : Type 0} (disk : Ghosts D) (reading : Reading D) (digest : List ℕ)
    (entries : List Entry) (entry : Entry) : Type 0 where
  pub found : IsFoundAt (disk.content reading.disk) digest entries entry reading.gate reading.end
  pub sealed : is_chained found.version found.before ≡ reading.sealed

-- a gate that is not open is next
pub record IsAtClosedGate {D : Type 0} (disk : Ghosts D) (reading : Reading D) (digest : List ℕ)
    (entries : List Entry) : Type 0 where
  pub reads : Reads disk reading digest entries
  pub closed : IfSome (disk.content reading.disk)
      (IsClosed (front_of reads.version digest reads.items))

-- what stands at the gate
abbrev pub AtGate : {D : Type 0} → Ghosts D → Reading D → List ℕ → List Entry →
    Result (Option Found) CodecFault → Type 0
AtGate disk reading digest entries (Ok (Some found)) =
    IsAtEntry disk reading digest entries found.entry
    × (found.value ≡ chain digest (entries ++ found.entry ∷ []))
    × (found.distance ≡ length (entry_bytes reading.sealed digest entries found.entry) + 1)
AtGate disk reading digest entries (Ok None) = IsAtClosedGate disk reading digest entries
AtGate disk reading digest entries (Err Bad) = IfSome (disk.content reading.disk)
    (IsDamaged TakesAny digest reading.gate entries)
AtGate disk reading digest entries (Err Wanting) =
    (entry : Entry) × IsAtEntry disk reading digest entries entry

-- no seal stands at the gate where one might
abbrev pub IsAtNoSeal : {D : Type 0} → Reading D → Type 0
IsAtNoSeal reading = IsFalse reading.sealed →
    ¬ BeginsSeal reading.chain (held_from reading.piece reading.gate)

-- What a call that reads on answers, and what it leaves of the reading. It passes a seal over. A
-- fault of the disk has raised its count, and after want of memory, which comes only where an
-- entry's record is next, no entry was passed.
abbrev pub HasRead : {D : Type 0} → Ghosts D → Reading D → Reading D → List ℕ → List Entry →
    Result (Option Entry) JournalFault → Type 0
HasRead disk old new digest entries (Ok (Some entry)) =
    Reads disk new digest (entries ++ entry ∷ [])
    × IsFoundAt (disk.content new.disk) digest entries entry new.last new.end
HasRead disk old new digest entries (Ok None) =
    Reads disk new digest entries × (new.last ≡ new.gate) × IsTrue new.closed
HasRead disk old new digest entries (Err (Damaged at)) = (new.last ≡ at)
    × IfSome (disk.content old.disk) (IsDamaged TakesAny digest at entries)
HasRead disk old new digest entries (Err Disk) =
    HasFailed disk old.disk new.disk × (new.last ≡ old.last)
HasRead disk old new digest entries (Err Memory) =
    Reads disk new digest entries × (new.last ≡ old.last)
    × ((entry : Entry)
    × IsFoundAt (disk.content new.disk) digest entries entry new.gate new.end)
HasRead disk old new digest entries (Err (Other kept given)) = ⊥

-- a fault is told from then on, but for want of memory
abbrev pub KeepsJournalFault : {T : Type 0} → Result T JournalFault → Option JournalFault → Type 0
KeepsJournalFault (Ok value) fault = fault ≡ None
KeepsJournalFault (Err Disk) fault = fault ≡ Some Disk
KeepsJournalFault (Err (Damaged at)) fault = fault ≡ Some (Damaged at)
KeepsJournalFault (Err (Other kept given)) fault = fault ≡ Some (Other kept given)
KeepsJournalFault (Err Memory) fault = fault ≡ None

-- a journal whose head was read: the disk's length, and whether records have chain values
pub record IsOpen {D : Type 0} (disk : Ghosts D) (now : D) (piece : Piece) (begun : BegunJournal)
    (digest : List ℕ) : Type 0 where
  pub version : ℕ
  pub is_version : IsVersion version
  pub chained : is_chained version [] ≡ begun.chained
  pub size : length digest ≡ digest_bytes
  pub within : head_bytes < begun.end
  pub small : begun.end < 2 ^ 62
  pub is_piece : IsPiece (disk.content now) begun.end piece
  pub only : ReadsItsImages disk now
  pub told : IfSome (disk.content now) (IsReadUpTo version digest [] begun.end)
