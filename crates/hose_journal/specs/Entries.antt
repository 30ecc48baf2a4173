-- The records of entries and of a seal, in both versions of the format.
use Rattle.std.specs.Prelude.{◌≡◌, ℕ, ◌==◌, ◌||◌, Bool, true, false, List, [], ◌∷◌, ◌++◌, length, ⊤}
use Rattle.std.specs.List.{list_any}
use Rattle.byteorder.specs.Endian.{big_bytes}
use Rattle.hose_graph.specs.declared.entry.Entry.{Entry}
use Rattle.hose_codec.specs.Spelling.{spelling, IsEntry}
use Rattle.hose_journal.specs.Layout.{chained_version, length_bytes, seal_kind, seal_body_bytes}
use Rattle.hose_journal.specs.Chain.{chain}

-- ---- what stands in a journal

-- an entry, or a seal: from a seal on, records have chain values
pub data Item : Type 0 where
  entered : Entry → Item
  sealed : Item

-- the item is a seal
abbrev pub is_seal : Item → Bool
is_seal (entered entry) = false
is_seal sealed = true

-- the entries among items
abbrev pub entries_in : List Item → List Entry
entries_in [] = []
entries_in (entered entry ∷ items) = entry ∷ entries_in items
entries_in (sealed ∷ items) = entries_in items

-- whether a record after these items has a chain value: by a seal among them, or by the version
abbrev pub is_chained : ℕ → List Item → Bool
is_chained version items = list_any is_seal items || (version == chained_version)

-- ---- records

-- what a record has of the chain value: all of it, or nothing
abbrev pub value_in : Bool → List ℕ → List ℕ
value_in false value = []
value_in true value = value

-- the record of a body: its length, the chain value where there is one, and the body
abbrev pub record_bytes : Bool → List ℕ → List ℕ → List ℕ
record_bytes chained value body =
    big_bytes length_bytes (length body) ++ (value_in chained value ++ body)

-- The record of an entry after these entries, with or without a chain value. Its body is the
-- entry's spelling, and its value that of the list with the entry.
abbrev pub entry_bytes : Bool → List ℕ → List Entry → Entry → List ℕ
entry_bytes chained digest entries entry =
    record_bytes chained (chain digest (entries ++ entry ∷ [])) (spelling entry)

-- the record of a seal, by the chain value of the entries before it
abbrev pub seal_bytes : List ℕ → List ℕ
seal_bytes value = big_bytes length_bytes seal_body_bytes ++ seal_kind ∷ value

-- the record of an item after these items: that of an entry, with a chain value where records have
-- one, or that of a seal
abbrev pub item_bytes : ℕ → List ℕ → List Item → Item → List ℕ
item_bytes version digest before (entered entry) =
    entry_bytes (is_chained version before) digest (entries_in before) entry
item_bytes version digest before sealed = seal_bytes (chain digest (entries_in before))

-- ---- what may follow

-- any entry is taken after any others
abbrev pub TakesAny : List Entry → Entry → Type 0
TakesAny before entry = ⊤

-- an entry with a spelling that is taken after the entries before it, or a seal where records have
-- no chain values yet
abbrev pub MayFollowItems : (List Entry → Entry → Type 0) → ℕ → List Item → Item → Type 0
MayFollowItems Takes version before (entered entry) =
    IsEntry entry × Takes (entries_in before) entry
MayFollowItems Takes version before sealed = is_chained version before ≡ false
