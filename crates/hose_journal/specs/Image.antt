-- What an image of a disk stands for: entries, the journal of another topology, or damage at a
-- place. Which entries are taken after those before them is a parameter: for a book, those that are
-- sound there.
use Rattle.std.specs.Prelude.{◌≡◌, ◌≢◌, ◌⊎◌, ℕ, ◌<◌, ◌≤◌, List, [], ◌∷◌, ◌++◌, length, take, drop, slice_index, ⊤}
use Rattle.hose_graph.specs.declared.entry.Entry.{Entry}
use Rattle.hose_journal.specs.Entries.{Item, MayFollowItems, entries_in, item_bytes}
use Rattle.hose_journal.specs.Layout.{open_gate, head_mark, version_place, plain_version, chained_version, digest_bytes, empty_bytes}

-- ---- the layout

-- the versions that there are
abbrev pub IsVersion : ℕ → Type 0
IsVersion version = (version ≡ plain_version) ⊎ (version ≡ chained_version)

-- the records of these items, each after an open gate, where others stand before them
abbrev pub records : ℕ → List ℕ → List Item → List Item → List ℕ
records version digest before [] = []
records version digest before (item ∷ items) = open_gate
    ∷ (item_bytes version digest before item ++ records version digest (before ++ item ∷ []) items)

-- each of these items may come after those before it
abbrev pub AreItems : (List Entry → Entry → Type 0) → ℕ → List Item → List Item → Type 0
AreItems Takes version before [] = ⊤
AreItems Takes version before (item ∷ items) =
    MayFollowItems Takes version before item × AreItems Takes version (before ++ item ∷ []) items

-- the head of a journal: an open gate, the mark, the version and the digest of the topology
abbrev pub head : ℕ → List ℕ → List ℕ
head version digest = open_gate ∷ (head_mark ++ version ∷ digest)

-- what stands before the gate that follows these items
abbrev pub front_of : ℕ → List ℕ → List Item → List ℕ
front_of version digest items = head version digest ++ records version digest [] items

-- ---- reading an image

-- what an image stands for
pub data Meaning (X : Type 0) : Type 0 where
  listed : List X → Meaning X
  other : List ℕ → Meaning X
  damaged : ℕ → Meaning X

-- A journal that was not begun: it has too few bytes, or it has no record and its first gate is
-- not open.
abbrev pub IsUnbegun : List ℕ → Type 0
IsUnbegun image = (length image < empty_bytes)
    ⊎ ((length image ≡ empty_bytes) × (slice_index image 0 ≢ open_gate))

-- Records, but no open gate before them.
pub record IsHeadless (image : List ℕ) : Type 0 where
  pub long : empty_bytes < length image
  pub shut : slice_index image 0 ≢ open_gate

-- Its first gate is open, and another mark follows, or no version that there is.
pub record IsUnmarked (image : List ℕ) : Type 0 where
  pub long : empty_bytes ≤ length image
  pub begun : slice_index image 0 ≡ open_gate
  pub differs : (take (length head_mark) (drop 1 image) ≢ head_mark)
      ⊎ (¬ IsVersion (slice_index image version_place))

-- a head with another digest
pub record IsOther (digest kept image : List ℕ) : Type 0 where
  pub version : ℕ
  pub is_version : IsVersion version
  pub rest : List ℕ
  pub some : 1 ≤ length rest
  pub size : length kept ≡ digest_bytes
  pub is : image ≡ head version kept ++ rest
  pub differs : kept ≢ digest

-- A gate that is not open follows this. What stands after it means nothing.
pub record IsClosed (before image : List ℕ) : Type 0 where
  pub gate : ℕ
  pub rest : List ℕ
  pub shut : gate ≢ open_gate
  pub is : image ≡ before ++ gate ∷ rest

module _ (Takes : List Entry → Entry → Type 0) (digest : List ℕ) where
  -- No whole record begins these bytes. A record is whole where the next gate is there too.
  abbrev pub BeginsNoRecord : ℕ → List Item → List ℕ → Type 0
  BeginsNoRecord version before bytes = (item : Item) (gate : ℕ) (rest : List ℕ) →
      MayFollowItems Takes version before item →
      bytes ≢ item_bytes version digest before item ++ gate ∷ rest

  -- After items that say these entries, an open gate at this place, which begins no whole record.
  pub record IsDamaged (place : ℕ) (entries : List Entry) (image : List ℕ) : Type 0 where
    pub version : ℕ
    pub is_version : IsVersion version
    pub items : List Item
    pub view : entries_in items ≡ entries
    pub rest : List ℕ
    pub are : AreItems Takes version [] items
    pub here : place ≡ length (front_of version digest items)
    pub is : image ≡ front_of version digest items ++ open_gate ∷ rest
    pub none : BeginsNoRecord version items rest

  -- Items that say these entries, each after an open gate, and then a gate that is not open.
  pub record IsListed (entries : List Entry) (image : List ℕ) : Type 0 where
    pub version : ℕ
    pub is_version : IsVersion version
    pub items : List Item
    pub view : entries_in items ≡ entries
    pub are : AreItems Takes version [] items
    pub closed : IsClosed (front_of version digest items) image

  -- What an image stands for under the digest of a topology.
  abbrev pub HasMeaning : List ℕ → Meaning Entry → Type 0
  HasMeaning image (listed entries) =
      (IsUnbegun image × (entries ≡ [])) ⊎ IsListed entries image
  HasMeaning image (other kept) = IsOther digest kept image
  HasMeaning image (damaged place) =
      (IsHeadless image × (place ≡ 0))
      ⊎ ((IsUnmarked image × (place ≡ 1))
      ⊎ ((entries : List Entry) × IsDamaged place entries image))
