-- What stands at a gate after these entries, where records have chain values or have none.
use Rattle.std.specs.Prelude.{◌≡◌, ◌≢◌, ◌⊎◌, ℕ, ◌+◌, ◌≤◌, Bool, List, [], ◌∷◌, ◌++◌, length, Option, Some, None, Result, Ok, Err}
use Rattle.byteorder.specs.Endian.{big_bytes}
use Rattle.hose_graph.specs.declared.entry.Entry.{Entry}
use Rattle.hose_codec.specs.Spelling.{IsEntry}
use Rattle.hose_codec.specs.Limits.{most_spelling}
use Rattle.hose_codec.specs.declared.limits.CodecFault.{CodecFault}
use Rattle.hose_codec.specs.declared.limits.CodecFault.TheVariants.{Bad, Memory}
use Rattle.hose_journal.specs.Layout.{open_gate, length_bytes}
use Rattle.hose_journal.specs.declared.part.Found.{Found}
use Rattle.hose_journal.specs.Chain.{chain}
use Rattle.hose_journal.specs.Entries.{entry_bytes, seal_bytes}

-- A length, so many bytes of a value, and a body of that length begin these bytes, and a gate
-- follows.
pub record HasFields (bytes value body : List ℕ) : Type 0 where
  pub gate : ℕ
  pub rest : List ℕ
  pub short : length body ≤ most_spelling
  pub is : bytes ≡ big_bytes length_bytes (length body) ++ (value ++ (body ++ gate ∷ rest))

-- no length, value of this length and body begin these bytes with a gate after them
abbrev pub HasNoFields : List ℕ → ℕ → Type 0
HasNoFields bytes width = (value body : List ℕ) → length value ≡ width →
    ¬ HasFields bytes value body

-- the record of an entry begins these bytes, and a gate follows it
pub record BeginsEntry (chained : Bool) (digest : List ℕ) (entries : List Entry)
    (bytes : List ℕ) (entry : Entry) : Type 0 where
  pub gate : ℕ
  pub rest : List ℕ
  pub is_entry : IsEntry entry
  pub is : bytes ≡ entry_bytes chained digest entries entry ++ gate ∷ rest

-- the record of no entry begins these bytes with a gate after it
abbrev pub BeginsNoEntry : Bool → List ℕ → List Entry → List ℕ → Type 0
BeginsNoEntry chained digest entries bytes = (entry : Entry) →
    ¬ BeginsEntry chained digest entries bytes entry

-- the record of a seal with this chain value, after an open gate, and a gate after it
pub record BeginsSeal (value bytes : List ℕ) : Type 0 where
  pub gate : ℕ
  pub rest : List ℕ
  pub is : bytes ≡ open_gate ∷ (seal_bytes value ++ gate ∷ rest)

-- the entry whose record begins these bytes, the chain value with it, and how far on the next gate
-- is from the one before
pub record IsFoundEntry (chained : Bool) (digest : List ℕ) (entries : List Entry) (bytes : List ℕ)
    (found : Found) : Type 0 where
  pub begins : BeginsEntry chained digest entries bytes found.entry
  pub value : found.value ≡ chain digest (entries ++ found.entry ∷ [])
  pub far : found.distance ≡ length (entry_bytes chained digest entries found.entry) + 1

-- What is read of these bytes. Memory is wanted only for an entry whose record begins them.
abbrev pub IsFoundIn : Bool → List ℕ → List Entry → List ℕ → Result Found CodecFault → Type 0
IsFoundIn chained digest entries bytes (Ok found) = IsFoundEntry chained digest entries bytes found
IsFoundIn chained digest entries bytes (Err Bad) = BeginsNoEntry chained digest entries bytes
IsFoundIn chained digest entries bytes (Err Memory) =
    (entry : Entry) × BeginsEntry chained digest entries bytes entry

-- an open gate, and these bytes after it
pub record IsOpenBefore (P : List ℕ → Type 0) (bytes : List ℕ) : Type 0 where
  pub rest : List ℕ
  pub is : bytes ≡ open_gate ∷ rest
  pub holds : P rest

-- a gate that is not open
pub record IsShut (bytes : List ℕ) : Type 0 where
  pub gate : ℕ
  pub rest : List ℕ
  pub shut : gate ≢ open_gate
  pub is : bytes ≡ gate ∷ rest

-- What is read of a gate and the bytes after it.
abbrev pub IsPart : Bool → List ℕ → List Entry → List ℕ → Result (Option Found) CodecFault →
    Type 0
IsPart chained digest entries bytes (Ok (Some found)) =
    IsOpenBefore (λ rest. IsFoundEntry chained digest entries rest found) bytes
IsPart chained digest entries bytes (Ok None) = IsShut bytes
IsPart chained digest entries bytes (Err Bad) =
    (bytes ≡ []) ⊎ IsOpenBefore (BeginsNoEntry chained digest entries) bytes
IsPart chained digest entries bytes (Err Memory) = (entry : Entry)
    × IsOpenBefore (λ rest. BeginsEntry chained digest entries rest entry) bytes
