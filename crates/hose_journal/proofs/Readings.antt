-- What stands at a gate of a disk's content, by what a piece holds of it.
use Rattle.std.proofs.Common.{◌≡◌, ◌≢◌, ◌⊎◌, inl, inr, ℕ, ◌+◌, ◌-◌, ◌≤◌, ◌<◌, List, [], ◌∷◌, ◌++◌, length, take, drop, Bool, true, false, Option, None, Some, IfSome, IsTrue, IsFalse, refl, sym, ◌∙◌, ap, subst, arith, length-append, length-drop, append_assoc, append-nil, take-append-drop}
use Rattle.std.specs.Prelude.{Result, Ok, Err}
use Rattle.std.proofs.lemmas.Bool.{cases_lt}
use Rattle.std.proofs.lemmas.List.{take_all, drop_all, take_at, drop_at, drop-take, drop-drop, length-take, length-take-le, take-append-le}
use Rattle.hose_graph.specs.declared.entry.Entry.{Entry}
use Rattle.hose_codec.specs.declared.limits.CodecFault.{CodecFault}
use Rattle.hose_codec.specs.declared.limits.CodecFault.TheVariants.{Bad, Memory as Wanting}
use Rattle.hose_disk.specs.declared.disk.Disk.{Ghosts}
use Rattle.hose_journal.specs.declared.layout.TheConstants.{OPEN, DIGEST_BYTES, MOST_PART, PIECE_BYTES}
use Rattle.hose_journal.specs.declared.fault.JournalFault.{JournalFault}
use Rattle.hose_journal.specs.declared.fault.JournalFault.TheVariants.{Disk, Other, Damaged, Memory}
use Rattle.hose_journal.specs.declared.part.Found.{Found}
use Rattle.hose_journal.specs.declared.reading.Reading.{Reading}
use Rattle.hose_journal.specs.steps.AtGate.{BeginsEntry, BeginsNoEntry, BeginsSeal, IsOpenBefore, IsPart, IsShut}
use Rattle.hose_journal.specs.Chain.{chain}
use Rattle.hose_journal.specs.Entries.{Item, TakesAny, entered, entries_in, entry_bytes, item_bytes, seal_bytes, sealed}
use Rattle.hose_journal.specs.steps.Entries.{IsListOf}
use Rattle.hose_journal.specs.Image.{BeginsNoRecord, IsDamaged, IsClosed, front_of}
use Rattle.hose_journal.specs.steps.Journal.{Stands}
use Rattle.hose_journal.specs.steps.Reading.{AtGate, HasRead, IsAtNoSeal, IsAtClosedGate, IsAtEntry, IsReadUpTo, CoversRecord, Reads, held_from}
use Rattle.hose_journal.proofs.Chains.{length-chain}
use Rattle.hose_journal.proofs.Gates.{told_so}
use Rattle.hose_journal.proofs.Items.{chained_entry, chained_seal, entries_push, entries_seal, length-entry, length-seal}
use Rattle.hose_journal.proofs.Lists.{closed_is_list, front_more, items_more}

-- ---- lists

-- what is held begins what there is, and it is all, or enough for a record
record Sees (tail held : List ℕ) : Type 0 where
  pub after : List ℕ
  pub whole : tail ≡ held ++ after
  pub enough : (after ≡ []) ⊎ (MOST_PART ≤ length held)

sees : (bytes before tail items : List ℕ) (from gate len : ℕ) → bytes ≡ before ++ tail → length before ≡ gate → from ≤ gate → take len items ≡ take PIECE_BYTES (drop from bytes) → len ≤ length items
    → (len < PIECE_BYTES) ⊎ (gate - from + MOST_PART ≤ PIECE_BYTES) → Sees tail (drop (gate - from) (take len items))
sees bytes before tail items from gate len is at le held few far =
    let skip = gate - from in
    let sum : from + skip ≡ gate = omega arith in
    let rest : drop skip (drop from bytes) ≡ tail = drop-drop skip from bytes ∙ ap (λ (k : ℕ). drop k bytes) sum ∙ ap (λ (l : List ℕ). drop gate l) is ∙ drop_at before tail gate at in
    by_far skip rest far
  where
    by_far : (skip : ℕ) → drop skip (drop from bytes) ≡ tail → (len < PIECE_BYTES) ⊎ (skip + MOST_PART ≤ PIECE_BYTES) → Sees tail (drop skip (take len items))
    by_far skip rest (inl short) =
        let size : length (take PIECE_BYTES (drop from bytes)) ≡ len = sym (ap length held) ∙ length-take-le len items few in
        let all : take PIECE_BYTES (drop from bytes) ≡ drop from bytes = take_all PIECE_BYTES (drop from bytes) (omega (arith, short, size, length-take PIECE_BYTES (drop from bytes))) in
        let same : drop skip (take len items) ≡ tail = ap (λ (l : List ℕ). drop skip l) (held ∙ all) ∙ rest in
        record { after = []; whole = sym same ∙ sym (append-nil (drop skip (take len items))); enough = inl refl }
    by_far skip rest (inr long) =
        let room = PIECE_BYTES - skip in
        let sum : skip + room ≡ PIECE_BYTES = omega arith in
        let same : drop skip (take len items) ≡ take room tail =
        ap (λ (l : List ℕ). drop skip l) (held ∙ ap (λ (k : ℕ). take k (drop from bytes)) (sym sum)) ∙ drop-take skip room (drop from bytes) ∙ ap (λ (l : List ℕ). take room l) rest in
        let enough : (drop room tail ≡ []) ⊎ (MOST_PART ≤ length (take room tail)) = elim (cases_lt (length tail) room) [
          | inl less ↦ inl (drop_all room tail (omega arith))
          | inr more ↦ inr (omega (arith, length-take-le room tail (omega arith)))
        ] in
        record {
          after = drop room tail;
          whole = sym (take-append-drop room tail) ∙ ap (λ (l : List ℕ). l ++ drop room tail) (sym same);
          enough = subst (λ (l : List ℕ). (drop room tail ≡ []) ⊎ (MOST_PART ≤ length l)) (sym same) enough;
        }

-- bytes that are enough for a record begin with the one that begins more of them
short_record : (first bytes after more : List ℕ) (gate : ℕ) → length first + 1 ≤ length bytes → bytes ++ after ≡ first ++ gate ∷ more → bytes ≡ first ++ gate ∷ drop (length first + 1) bytes
short_record first bytes after more gate le same =
    let size = length first + 1 in
    let whole = first ++ gate ∷ [] in
    let size_is : length whole ≡ size = length-append first (gate ∷ []) in
    let short : take size (bytes ++ after) ≡ take size bytes = rw take-append-le refl in
    let begins : take size bytes ≡ whole =
    sym short ∙ ap (λ (l : List ℕ). take size l) (same ∙ sym (append_assoc first (gate ∷ []) more)) ∙ take_at whole more size size_is in
    sym (take-append-drop size bytes) ∙ ap (λ (l : List ℕ). l ++ drop size bytes) begins ∙ append_assoc first (gate ∷ []) (drop size bytes)

none_begins : (chained : Bool) (digest : List ℕ) (entries : List Entry) (rest after : List ℕ) → length digest ≡ DIGEST_BYTES → BeginsNoEntry chained digest entries rest → (after ≡ []) ⊎ (MOST_PART ≤ length rest + 1)
    → BeginsNoEntry chained digest entries (rest ++ after)
none_begins chained digest entries rest after size none (inl nothing) entry begins = none entry (record {
  gate = begins.gate;
  rest = begins.rest;
  is_entry = begins.is_entry;
  is = sym (append-nil rest) ∙ ap (λ (l : List ℕ). rest ++ l) (sym nothing) ∙ begins.is;
})
none_begins chained digest entries rest after size none (inr long) entry begins = none entry (record {
  gate = begins.gate;
  rest = drop (length (entry_bytes chained digest entries entry) + 1) rest;
  is_entry = begins.is_entry;
  is = short_record (entry_bytes chained digest entries entry) rest after begins.rest begins.gate (omega (arith, long, length-entry chained digest entries entry size begins.is_entry)) begins.is;
})

no_seal_begins : (value rest after : List ℕ) → length value ≡ DIGEST_BYTES → ¬ BeginsSeal value (OPEN ∷ rest) → (after ≡ []) ⊎ (MOST_PART ≤ length rest + 1)
    → (gate : ℕ) (more : List ℕ) → rest ++ after ≢ seal_bytes value ++ gate ∷ more
no_seal_begins value rest after size none (inl nothing) gate more same = none (record {
  gate = gate;
  rest = more;
  is = ap (λ (l : List ℕ). OPEN ∷ l) (sym (append-nil rest) ∙ ap (λ (l : List ℕ). rest ++ l) (sym nothing) ∙ same);
})
no_seal_begins value rest after size none (inr long) gate more same = none (record {
  gate = gate;
  rest = drop (length (seal_bytes value) + 1) rest;
  is = ap (λ (l : List ℕ). OPEN ∷ l) (short_record (seal_bytes value) rest after more gate (omega (arith, long, length-seal value size)) same);
})

-- ---- contents

pub both : (content : Option (List ℕ)) (P Q R : List ℕ → Type 0) → ((bytes : List ℕ) → P bytes → Q bytes → R bytes) → IfSome content P → IfSome content Q → IfSome content R
both None P Q R to p q = tt
both (Some bytes) P Q R to p q = to bytes p q

module _ {D : Type 0} (disk : Ghosts D) (reading : Reading D) (digest : List ℕ) (entries : List Entry) (reads : Reads disk reading digest entries) (reaches : CoversRecord reading.piece reading.gate) where
  abbrev held : List ℕ
  held = held_from reading.piece reading.gate

  abbrev content : Option (List ℕ)
  content = disk.content reading.disk

  abbrev here : List ℕ
  here = front_of reads.version digest reads.items

  told : (R : List ℕ → Type 0) → ((bytes : List ℕ) (upto : IsReadUpTo reads.version digest reads.items reading.end bytes) → Sees upto.rest held → R bytes) → IfSome content R
  told R to =
      both content (IsReadUpTo reads.version digest reads.items reading.end) _ R
      (λ bytes upto read. to bytes upto (sees bytes here upto.rest reading.piece.bytes.items reading.piece.from reading.gate reading.piece.len upto.is reads.place reaches.from (read upto.long)
      (omega (arith, reads.piece.size, reads.piece.fits)) reaches.far)) reads.told reads.piece.read

  length-held : length held ≡ reading.piece.len - (reading.gate - reading.piece.from)
  length-held = omega (arith, length-drop (reading.gate - reading.piece.from) (take reading.piece.len reading.piece.bytes.items), length-take-le reading.piece.len reading.piece.bytes.items (omega (arith, reads.piece.size, reads.piece.fits)))

  -- ---- an item's record at the gate

  module _ (item : Item) (gate : ℕ) (more : List ℕ) (is : held ≡ OPEN ∷ (item_bytes reads.version digest reads.items item ++ gate ∷ more)) where
    abbrev bytes_are : List ℕ
    bytes_are = item_bytes reads.version digest reads.items item

    next_front : front_of reads.version digest (reads.items ++ item ∷ []) ≡ here ++ OPEN ∷ bytes_are
    next_front = front_more reads.version digest reads.items item

    item_told : IfSome content (IsReadUpTo reads.version digest (reads.items ++ item ∷ []) reading.end)
    item_told = told (IsReadUpTo reads.version digest (reads.items ++ item ∷ []) reading.end) (λ bytes upto seen. record {
      long = upto.long;
      rest = gate ∷ (more ++ seen.after);
      is =
          let tail : upto.rest ≡ OPEN ∷ (bytes_are ++ gate ∷ (more ++ seen.after)) =
          seen.whole ∙ ap (λ (l : List ℕ). l ++ seen.after) is ∙ ap (λ (l : List ℕ). OPEN ∷ l) (append_assoc bytes_are (gate ∷ more) seen.after) in
          upto.is
          ∙ ap (λ (l : List ℕ). here ++ l) tail
          ∙ sym (append_assoc here (OPEN ∷ bytes_are) (gate ∷ (more ++ seen.after)))
          ∙ ap (λ (l : List ℕ). l ++ gate ∷ (more ++ seen.after)) (sym next_front);
    })

    next_place : length (front_of reads.version digest (reads.items ++ item ∷ [])) ≡ reading.gate + (length bytes_are + 1)
    next_place = omega (arith, reads.place, ap length next_front, length-append here (OPEN ∷ bytes_are))

    item_within : length (front_of reads.version digest (reads.items ++ item ∷ [])) < reading.end
    item_within = omega (arith, next_place, ap length is, length-append bytes_are (gate ∷ more), length-held, reads.piece.within, reaches.from)

  -- ---- an entry, or none

  -- the record of an entry is by what the reading knows
  record_is : (entry : Entry) → item_bytes reads.version digest reads.items (entered entry) ≡ entry_bytes reading.sealed digest entries entry
  record_is entry =
      ap (λ (b : Bool). entry_bytes b digest (entries_in reads.items) entry) reads.sealed ∙ ap (λ (l : List Entry). entry_bytes reading.sealed digest l entry) reads.entries_are

  next_at : (entry : Entry) → IsOpenBefore (λ rest. BeginsEntry reading.sealed digest entries rest entry) held → IsAtEntry disk reading digest entries entry
  next_at entry opened =
      let begins = opened.holds in
      let is : held ≡ OPEN ∷ (item_bytes reads.version digest reads.items (entered entry) ++ begins.gate ∷ begins.rest) =
      opened.is ∙ ap (λ (l : List ℕ). OPEN ∷ l) (begins.is ∙ ap (λ (l : List ℕ). l ++ begins.gate ∷ begins.rest) (sym (record_is entry))) in
      record {
        found = record {
          version = reads.version;
          before = reads.items;
          is_version = reads.is_version;
          entries_are = reads.entries_are;
          are = items_more TakesAny reads.version [] reads.items (entered entry) reads.are (begins.is_entry, tt);
          here = reads.place;
          within = item_within (entered entry) begins.gate begins.rest is;
          told = item_told (entered entry) begins.gate begins.rest is;
        };
        sealed = reads.sealed;
      }

  end_at : IsShut held → IsAtClosedGate disk reading digest entries
  end_at is = record {
    reads = reads;
    closed = told (IsClosed here) (λ bytes upto seen. record {
      gate = is.gate;
      rest = is.rest ++ seen.after;
      shut = is.shut;
      is = upto.is ∙ ap (λ (l : List ℕ). here ++ l) (seen.whole ∙ ap (λ (l : List ℕ). l ++ seen.after) is.is);
    });
  }

  broken : (rest : List ℕ) → BeginsNoRecord TakesAny digest reads.version reads.items rest → (bytes : List ℕ) → bytes ≡ here ++ OPEN ∷ rest → IsDamaged TakesAny digest reading.gate entries bytes
  broken rest none bytes is = record {
    version = reads.version;
    is_version = reads.is_version;
    items = reads.items;
    view = reads.entries_are;
    rest = rest;
    are = reads.are;
    here = sym reads.place;
    is = is;
    none = none;
  }

  -- no record where there is none of an entry, and none of a seal where one may be
  none_of_items : (rest : List ℕ) → BeginsNoEntry reading.sealed digest entries rest → (IsFalse reading.sealed → (gate : ℕ) (more : List ℕ) → rest ≢ seal_bytes reading.chain ++ gate ∷ more)
      → BeginsNoRecord TakesAny digest reads.version reads.items rest
  none_of_items rest none no_seal (entered entry) gate more is same = none entry (record {
    gate = gate;
    rest = more;
    is_entry = is.0;
    is = same ∙ ap (λ (l : List ℕ). l ++ gate ∷ more) (record_is entry);
  })
  none_of_items rest none no_seal sealed gate more plain same =
      let value : chain digest (entries_in reads.items) ≡ reading.chain = ap (λ (l : List Entry). chain digest l) reads.entries_are ∙ sym reads.chain in
      no_seal (sym reads.sealed ∙ plain) gate more (same ∙ ap (λ (l : List ℕ). seal_bytes l ++ gate ∷ more) value)

  bad_told : (held ≡ []) ⊎ IsOpenBefore (BeginsNoEntry reading.sealed digest entries) held → IsAtNoSeal reading → (bytes : List ℕ) (upto : IsReadUpTo reads.version digest reads.items reading.end bytes) → Sees upto.rest held
      → IsDamaged TakesAny digest reading.gate entries bytes
  bad_told (inl nothing) no_seal bytes upto seen =
      let size : length held ≡ 0 = ap length nothing in
      let some : 1 ≤ length upto.rest = omega (arith, reads.within, reads.place, upto.long, ap length upto.is, length-append here upto.rest) in
      let long : length upto.rest ≡ length held + length seen.after = ap length seen.whole ∙ length-append held seen.after in
      absurd (nothing_after seen.after seen.enough size (omega (arith, some, long, size)))
    where
      nothing_after : (after : List ℕ) → (after ≡ []) ⊎ (MOST_PART ≤ length held) → length held ≡ 0 → 1 ≤ length after → ⊥
      nothing_after after (inl none) size some = omega (arith, ap length none)
      nothing_after after (inr long) size some = omega (arith, long, size)
  bad_told (inr bad) no_seal bytes upto seen =
      let rest = bad.rest ++ seen.after in
      let tail : upto.rest ≡ OPEN ∷ rest = seen.whole ∙ ap (λ (l : List ℕ). l ++ seen.after) bad.is in
      let enough : (seen.after ≡ []) ⊎ (MOST_PART ≤ length bad.rest + 1) = elim (seen.enough) [ inl none ↦ inl none | inr long ↦ inr (omega (arith, long, ap length bad.is)) ] in
      let size : length reading.chain ≡ DIGEST_BYTES = ap length reads.chain ∙ length-chain digest entries reads.size in
      let no_entry = none_begins reading.sealed digest entries bad.rest seen.after reads.size bad.holds enough in
      let no_record = none_of_items rest no_entry
      (λ plain. no_seal_begins reading.chain bad.rest seen.after size (subst (λ (l : List ℕ). ¬ BeginsSeal reading.chain l) bad.is (no_seal plain)) enough) in
      broken rest no_record bytes (upto.is ∙ ap (λ (l : List ℕ). here ++ l) tail)

  pub at_gate : (result : Result (Option Found) CodecFault) → IsAtNoSeal reading → IsPart reading.sealed digest entries held result → AtGate disk reading digest entries result
  at_gate (Ok (Some found)) no_seal is =
      let it = is.holds in (next_at found.entry (record { rest = is.rest; is = is.is; holds = it.begins }), it.value, it.far)
  at_gate (Ok None) no_seal is = end_at is
  at_gate (Err Bad) no_seal is = told (IsDamaged TakesAny digest reading.gate entries) (bad_told is no_seal)
  at_gate (Err Wanting) no_seal is = (is.0, next_at is.0 is.1)

  -- ---- past a seal

  pub past_seal : IsFalse reading.closed → IsFalse reading.sealed → BeginsSeal reading.chain held → Reads disk (record reading { gate = reading.gate + 38; sealed = true }) digest entries
  past_seal going plain begins =
      let value : reading.chain ≡ chain digest (entries_in reads.items) = reads.chain ∙ ap (λ (l : List Entry). chain digest l) (sym reads.entries_are) in
      let is : held ≡ OPEN ∷ (item_bytes reads.version digest reads.items sealed ++ begins.gate ∷ begins.rest) =
      begins.is ∙ ap (λ (l : List ℕ). OPEN ∷ (seal_bytes l ++ begins.gate ∷ begins.rest)) value in
      let long : length (item_bytes reads.version digest reads.items sealed) ≡ 37 = length-seal (chain digest (entries_in reads.items)) (length-chain digest (entries_in reads.items) reads.size) in
      let next = next_place sealed begins.gate begins.rest is in
      record {
        version = reads.version;
        items = reads.items ++ sealed ∷ [];
        is_version = reads.is_version;
        entries_are = entries_seal reads.items ∙ reads.entries_are;
        size = reads.size;
        are = items_more TakesAny reads.version [] reads.items sealed reads.are (reads.sealed ∙ plain);
        place = omega (arith, next, long);
        within = omega (arith, next, long, item_within sealed begins.gate begins.rest is);
        small = reads.small;
        sealed = chained_seal reads.version reads.items;
        chain = reads.chain;
        room = reads.room;
        piece = reads.piece;
        only = reads.only;
        told = item_told sealed begins.gate begins.rest is;
        closed = λ closed. absurd (let clash : true ≡ false = sym closed ∙ going in cc);
      }

-- ---- the next entry

module _ {D : Type 0} (disk : Ghosts D) (reading : Reading D) (digest : List ℕ) (entries : List Entry) (reads : Reads disk reading digest entries) where
  -- whatever was read last and whatever fault is kept, where it is closed at a gate that is not open
  reads_with : (last : ℕ) (fault : Option JournalFault) (closed : Bool) → (IsTrue closed → IfSome (disk.content reading.disk) (IsClosed (front_of reads.version digest reads.items)))
      → Reads disk (record reading { last = last; fault = fault; closed = closed }) digest entries
  reads_with last fault closed is_closed = record {
    version = reads.version;
    items = reads.items;
    is_version = reads.is_version;
    entries_are = reads.entries_are;
    size = reads.size;
    are = reads.are;
    place = reads.place;
    within = reads.within;
    small = reads.small;
    sealed = reads.sealed;
    chain = reads.chain;
    room = reads.room;
    piece = reads.piece;
    only = reads.only;
    told = reads.told;
    closed = is_closed;
  }

  -- the gate at which was read last and the fault say nothing
  pub reads_told : (last : ℕ) (fault : Option JournalFault) → Reads disk (record reading { last = last; fault = fault }) digest entries
  reads_told last fault = reads_with last fault reading.closed reads.closed

  -- a gate that is not open ends it
  reads_shut : IfSome (disk.content reading.disk) (IsClosed (front_of reads.version digest reads.items)) → Reads disk (record reading { last = reading.gate; closed = true }) digest entries
  reads_shut closed = reads_with reading.gate reading.fault true (λ yes_closed. closed)

pub reads_next : {D : Type 0} (disk : Ghosts D) (reading : Reading D) (digest : List ℕ) (entries : List Entry) (found : Found) → Reads disk reading digest entries → IsFalse reading.closed → AtGate disk reading digest entries (Ok (Some found))
    → Reads disk (record reading { gate = reading.gate + found.distance; last = reading.gate; chain = found.value }) digest (entries ++ found.entry ∷ [])
reads_next disk reading digest entries found reads going at_it =
    let next = at_it.0 in
    let it = next.found in
    let version = it.version in
    let before = it.before in
    let item = entered found.entry in
    let bytes = item_bytes version digest before item in
    let is : bytes ≡ entry_bytes reading.sealed digest entries found.entry =
    ap (λ (b : Bool). entry_bytes b digest (entries_in before) found.entry) next.sealed ∙ ap (λ (l : List Entry). entry_bytes reading.sealed digest l found.entry) it.entries_are in
    let place : length (front_of version digest (before ++ item ∷ [])) ≡ reading.gate + found.distance =
    omega (arith, it.here, at_it.2, ap length is, ap length (front_more version digest before item), length-append (front_of version digest before) (OPEN ∷ bytes)) in
    record {
      version = version;
      items = before ++ item ∷ [];
      is_version = it.is_version;
      entries_are = entries_push before found.entry ∙ ap (λ (l : List Entry). l ++ found.entry ∷ []) it.entries_are;
      size = reads.size;
      are = it.are;
      place = place;
      within = omega (arith, place, it.within);
      small = reads.small;
      sealed = chained_entry version before found.entry ∙ next.sealed;
      chain = at_it.1;
      room = reads.room;
      piece = reads.piece;
      only = reads.only;
      told = it.told;
      closed = λ closed. absurd (let clash : true ≡ false = sym closed ∙ going in cc);
    }

-- ---- the end

pub reads_end : {D : Type 0} (disk : Ghosts D) (reading : Reading D) (digest : List ℕ) (entries : List Entry) → IsAtClosedGate disk reading digest entries → Reads disk (record reading { last = reading.gate; closed = true }) digest entries
reads_end disk reading digest entries is = reads_shut disk reading digest entries is.reads is.closed

pub closed_images : (found : Option (List ℕ)) (P : List ℕ → Type 0) (image : List ℕ) → IfSome found P → found ≡ Some image → P image
closed_images found P image told same = subst (λ (found : Option (List ℕ)). IfSome found P) same told

-- at a closed gate the disk holds the journal of the entries that were read
pub read_list : {D : Type 0} (disk : Ghosts D) (reading : Reading D) (digest : List ℕ) (entries : List Entry) → Reads disk reading digest entries → IsTrue reading.closed → IfSome (disk.content reading.disk) (IsListOf digest entries)
read_list disk reading digest entries reads closed =
    told_so (IsClosed (front_of reads.version digest reads.items)) (IsListOf digest entries)
    (λ bytes is. subst (λ (l : List Entry). IsListOf digest l bytes) reads.entries_are (closed_is_list TakesAny reads.version digest bytes reads.items reads.is_version reads.are is)) (disk.content reading.disk) (reads.closed closed)

-- at a closed gate the journal stands for the entries that were read
pub finished : {D : Type 0} (disk : Ghosts D) (reading : Reading D) (digest : List ℕ) (entries : List Entry) → Reads disk reading digest entries → IsTrue reading.closed
    → Stands disk (record { disk = reading.disk; gate = reading.gate; doubt = false; sealed = reading.sealed; chain = reading.chain; buffer = reading.buffer }) (record { digest = digest; entries = entries; doubt = None })
finished disk reading digest entries reads closed = record {
  version = reads.version;
  items = reads.items;
  is_version = reads.is_version;
  entries = reads.entries_are;
  size = reads.size;
  are = reads.are;
  doubt_is = tt;
  place = reads.place;
  small = omega (arith, reads.within, reads.small);
  doubt = refl;
  sealed = reads.sealed;
  chain = reads.chain;
  room = reads.room;
  images = λ image is_image. closed_images (disk.content reading.disk) (IsClosed (front_of reads.version digest reads.items)) image (reads.closed closed) (reads.only image is_image);
}

-- a fault that is kept beside it changes nothing of an answer
pub fault_kept : {D : Type 0} (disk : Ghosts D) (old new : Reading D) (digest : List ℕ) (entries : List Entry) (fault : JournalFault) (kept : Option JournalFault) → HasRead disk old new digest entries (Err fault)
    → HasRead disk old (record new { fault = kept }) digest entries (Err fault)
fault_kept disk old new digest entries Disk kept has = has
fault_kept disk old new digest entries (Damaged at) kept has = has
fault_kept disk old new digest entries (Other one given) kept has = has
fault_kept disk old new digest entries Memory kept has = (reads_told disk new digest entries has.0 new.last kept, has.1, has.2)
