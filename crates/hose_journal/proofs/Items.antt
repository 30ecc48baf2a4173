-- Items of a journal: the entries among them, whether records have chain values, and their lengths.
use Rattle.std.proofs.Common.{◌≡◌, ℕ, ◌+◌, ◌-◌, ◌*◌, ◌≤◌, ◌==◌, ◌||◌, Bool, true, false, List, [], ◌∷◌, ◌++◌, length, refl, ◌∙◌, ap, arith, length-append}
use Rattle.std.specs.List.{list_any}
use Rattle.byteorder.specs.Endian.{big_bytes}
use Rattle.byteorder.specs.Numbers.{length-bytes_high_first}
use Rattle.std.proofs.Math.Bool.{or-true}
use Rattle.hose_graph.specs.declared.entry.Entry.{Entry}
use Rattle.hose_codec.specs.Spelling.{IsEntry, spelling}
use Rattle.hose_codec.proofs.Entries.{length-spelling}
use Rattle.hose_journal.specs.declared.layout.TheConstants.{BUFFER_BYTES, CHAINED, DIGEST_BYTES, MARK, SEAL, SEAL_BYTES}
use Rattle.hose_journal.specs.Chain.{chain}
use Rattle.hose_journal.specs.Entries.{Item, TakesAny, entered, entries_in, entry_bytes, is_chained, is_seal, item_bytes, seal_bytes, sealed, value_in}
use Rattle.hose_journal.specs.Image.{AreItems, head, records, front_of}
use Rattle.hose_journal.proofs.Chains.{length-chain}

-- ---- entries and seals

pub entries_push : (items : List Item) (entry : Entry) → entries_in (items ++ entered entry ∷ []) ≡ entries_in items ++ entry ∷ []
entries_push [] entry = refl
entries_push (entered first ∷ items) entry = ap (λ (l : List Entry). first ∷ l) (entries_push items entry)
entries_push (sealed ∷ items) entry = entries_push items entry

pub entries_seal : (items : List Item) → entries_in (items ++ sealed ∷ []) ≡ entries_in items
entries_seal [] = refl
entries_seal (entered first ∷ items) = ap (λ (l : List Entry). first ∷ l) (entries_seal items)
entries_seal (sealed ∷ items) = entries_seal items

-- ---- whether there are chain values

any_entry : (before : List Item) (entry : Entry) → list_any is_seal (before ++ entered entry ∷ []) ≡ list_any is_seal before
any_entry [] entry = refl
any_entry (x ∷ before) entry = ap (λ (b : Bool). is_seal x || b) (any_entry before entry)

any_seal : (before : List Item) → list_any is_seal (before ++ sealed ∷ []) ≡ true
any_seal [] = refl
any_seal (x ∷ before) = ap (λ (b : Bool). is_seal x || b) (any_seal before) ∙ or-true (is_seal x)

pub chained_entry : (version : ℕ) (before : List Item) (entry : Entry) → is_chained version (before ++ entered entry ∷ []) ≡ is_chained version before
chained_entry version before entry = ap (λ (b : Bool). b || (version == CHAINED)) (any_entry before entry)

pub chained_seal : (version : ℕ) (before : List Item) → is_chained version (before ++ sealed ∷ []) ≡ true
chained_seal version before = ap (λ (b : Bool). b || (version == CHAINED)) (any_seal before)

-- ---- lengths

length-value : (chained : Bool) (value : List ℕ) → length value ≡ DIGEST_BYTES → length (value_in chained value) ≤ DIGEST_BYTES
length-value false value size = omega arith
length-value true value size = omega (arith, size)

pub length-fields : (number value body : List ℕ) → length (number ++ (value ++ body)) ≡ length number + length value + length body
length-fields number value body = omega (arith, length-append number (value ++ body), length-append value body)

pub length-entry : (chained : Bool) (digest : List ℕ) (entries : List Entry) (entry : Entry) → length digest ≡ DIGEST_BYTES → IsEntry entry → length (entry_bytes chained digest entries entry) ≤ BUFFER_BYTES - 1
length-entry chained digest entries entry size is =
    let value = chain digest (entries ++ entry ∷ []) in
    let number = big_bytes 4 (length (spelling entry)) in
    omega (
      arith,
      length-fields number (value_in chained value) (spelling entry),
      length-bytes_high_first 4 (length (spelling entry)),
      length-value chained value (length-chain digest (entries ++ entry ∷ []) size),
      length-spelling entry is,
    )

pub length-seal : (value : List ℕ) → length value ≡ DIGEST_BYTES → length (seal_bytes value) ≡ 37
length-seal value size = omega (arith, size, length-append (big_bytes 4 SEAL_BYTES) (SEAL ∷ value), length-bytes_high_first 4 SEAL_BYTES)

-- what a seal may still take
abbrev left : Bool → ℕ
left true = 0
left false = 38

module _ (version : ℕ) (digest : List ℕ) (size : length digest ≡ DIGEST_BYTES) where
  pub length-item : (before : List Item) (entry : Entry) → IsEntry entry → length (item_bytes version digest before (entered entry)) ≤ BUFFER_BYTES - 1
  length-item before entry is = length-entry (is_chained version before) digest (entries_in before) entry size is

  length-records : (before items : List Item) → AreItems TakesAny version before items
      → length (records version digest before items) ≤ BUFFER_BYTES * length (entries_in items) + left (is_chained version before)
  length-records before [] are = omega arith
  length-records before (entered entry ∷ items) are =
      let rest = records version digest (before ++ entered entry ∷ []) items in
      let more = length-records (before ++ entered entry ∷ []) items are.1 in
      let same = ap left (chained_entry version before entry) in
      omega (arith, length-append (item_bytes version digest before (entered entry)) rest, length-item before entry are.0.0, more, same)
  length-records before (sealed ∷ items) are =
      let rest = records version digest (before ++ sealed ∷ []) items in
      let more = length-records (before ++ sealed ∷ []) items are.1 in
      let now : left (is_chained version (before ++ sealed ∷ [])) ≡ 0 = ap left (chained_seal version before) in
      let was : left (is_chained version before) ≡ 38 = ap left are.0 in
      let value = chain digest (entries_in before) in
      omega (arith, length-append (seal_bytes value) rest, length-seal value (length-chain digest (entries_in before) size), more, now, was)

  pub length-front : (items : List Item) → AreItems TakesAny version [] items → length (front_of version digest items) ≤ 76 + BUFFER_BYTES * length (entries_in items)
  length-front items are =
      omega (arith, size, length-append (head version digest) (records version digest [] items), length-append MARK (version ∷ digest), length-records [] items are, left_most (is_chained version []))
    where
      left_most : (b : Bool) → left b ≤ 38
      left_most true = (let h : 0 ≤ 38 = omega arith in h)
      left_most false = (let h : 38 ≤ 38 = omega arith in h)
