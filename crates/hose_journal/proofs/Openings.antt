-- What is found at the front of a disk, and what an opening makes of it.
use Rattle.std.proofs.Common.{◌≡◌, ◌≢◌, inl, inr, ⊎_elim, ℕ, zero, suc, ◌-◌, ◌≤◌, ◌<◌, List, [], ◌∷◌, ◌++◌, length, get_or, take, drop, Bool, Option, None, Some, is_some, true, false, IfSome, refl, sym, ◌∙◌, ap, subst, arith, length-append, length-drop, append_assoc, append-nil, take-append-drop}
use Rattle.std.specs.Prelude.{Err}
use Rattle.std.proofs.lemmas.Bool.{cases_lt}
use Rattle.std.proofs.lemmas.List.{take_all, drop_more, length-take, take-append-le}
use Rattle.hose_disk.specs.Disk.{NoneNew}
use Rattle.hose_disk.specs.steps.Disk.{Elapses}
use Rattle.hose_disk.specs.declared.disk.Disk.{Ghosts}
use Rattle.hose_journal.specs.declared.fault.JournalFault.{JournalFault}
use Rattle.hose_journal.specs.declared.fault.JournalFault.TheVariants.{Disk, Other, Damaged, Memory}
use Rattle.hose_journal.specs.declared.layout.TheConstants.{OPEN, MARK, CHAINED, DIGEST_BYTES, EMPTY_BYTES, HEAD_BYTES, PIECE_BYTES}
use Rattle.hose_journal.specs.declared.piece.Piece.{Piece}
use Rattle.hose_journal.specs.Entries.{TakesAny}
use Rattle.hose_journal.specs.steps.Entries.{IsListOf}
use Rattle.hose_journal.specs.Image.{IsUnbegun, IsVersion, IsHeadless, IsUnmarked, IsOther, IsClosed, head, front_of}
use Rattle.hose_journal.specs.Moments.{Images, LeavesOnly}
use Rattle.hose_journal.specs.steps.Moments.{ReadsItsImages}
use Rattle.hose_journal.specs.Opening.{AddsNoRecord, HasNoRecord}
use Rattle.hose_journal.specs.steps.Opening.{HasHead, IsFront, IsHeadOf, IsOpened, IsRefusedJournal, KeepsList}
use Rattle.hose_journal.specs.steps.Reading.{IsOpen, IsReadUpTo, OnlyRead}
use Rattle.hose_journal.proofs.Lists.{closed_is_list}
use Rattle.hose_journal.proofs.Readings.{both, closed_images}
use Rattle.hose_journal.proofs.Runs.{started, goes_on, joined, weaker, now_too}

-- ---- heads

pub begun_long : (front : List ℕ) → ¬ IsUnbegun front → EMPTY_BYTES ≤ length front
begun_long front begun = elim (cases_lt (length front) EMPTY_BYTES) [ inl short ↦ absurd (begun (inl short)) | inr long ↦ omega arith ]

-- a head with this version and digest
pub head_of : (front kept : List ℕ) (version : ℕ) → EMPTY_BYTES ≤ length front → get_or front 0 0 ≡ OPEN → take 4 (drop 1 front) ≡ MARK → version ≡ get_or front 5 0 → kept ≡ take DIGEST_BYTES (drop 6 front)
    → (rest : List ℕ) × (1 ≤ length rest) × (front ≡ head version kept ++ rest)
head_of [] kept version long first mark at is = absurd (omega arith)
head_of (gate ∷ front) kept version long first mark at is =
    let tail = drop 4 front in
    let after = drop 5 front in
    let begins : tail ≡ version ∷ after = drop_more front 4 0 (omega (arith, long)) ∙ ap (λ (n : ℕ). n ∷ after) (sym at) in
    let digest : after ≡ kept ++ drop 32 after = sym (take-append-drop 32 after) ∙ ap (λ (l : List ℕ). l ++ drop 32 after) (sym is) in
    let rest : front ≡ MARK ++ version ∷ (kept ++ drop 32 after) =
    sym (take-append-drop 4 front) ∙ ap (λ (l : List ℕ). l ++ tail) mark ∙ ap (λ (l : List ℕ). MARK ++ l) (begins ∙ ap (λ (l : List ℕ). version ∷ l) digest) in (
      drop 32 after,
      omega (arith, long, length-drop 32 after, length-drop 5 front),
      (λ i. first i ∷ front) ∙ ap (λ (l : List ℕ). OPEN ∷ l) rest,
    )

-- ---- from the front to the whole

front_more : (held bytes : List ℕ) → held ≡ take PIECE_BYTES bytes → bytes ≡ held ++ drop PIECE_BYTES bytes
front_more held bytes is = sym (take-append-drop PIECE_BYTES bytes) ∙ ap (λ (l : List ℕ). l ++ drop PIECE_BYTES bytes) (sym is)

first_same : (held after : List ℕ) → 1 ≤ length held → get_or (held ++ after) 0 0 ≡ get_or held 0 0
first_same [] after some = absurd (omega arith)
first_same (first ∷ held) after some = refl

unbegun_whole : (held bytes : List ℕ) → held ≡ take PIECE_BYTES bytes → IsUnbegun held → IsUnbegun bytes
unbegun_whole held bytes is (inl short) = inl (omega (arith, short, ap length is, length-take PIECE_BYTES bytes))
unbegun_whole held bytes is (inr (long, shut)) =
    let size : length bytes ≡ EMPTY_BYTES = omega (arith, long, ap length is, length-take PIECE_BYTES bytes) in
    let all : held ≡ bytes = is ∙ take_all PIECE_BYTES bytes (omega (arith, size)) in
    inr (size, subst (λ (l : List ℕ). get_or l 0 0 ≢ OPEN) all shut)

headless_more : (held after : List ℕ) → IsHeadless held → IsHeadless (held ++ after)
headless_more held after is = record {
  long = omega (arith, is.long, length-append held after);
  shut = subst (λ (first : ℕ). first ≢ OPEN) (sym (first_same held after (omega (arith, is.long)))) is.shut;
}

nth_same : (held after : List ℕ) (at : ℕ) → at < length held → get_or (held ++ after) at 0 ≡ get_or held at 0
nth_same [] after at within = absurd (omega (arith, within))
nth_same (first ∷ held) after zero within = refl
nth_same (first ∷ held) after (suc at) within = nth_same held after at (omega (arith, within))

unmarked_more : (held after : List ℕ) → IsUnmarked held → IsUnmarked (held ++ after)
unmarked_more [] after is = absurd (omega (arith, is.long))
unmarked_more (first ∷ held) after is = record {
  long = omega (arith, is.long, length-append (first ∷ held) after);
  begun = is.begun;
  differs =
      let le : 4 ≤ length held = omega (arith, is.long) in
      let same : take 4 (held ++ after) ≡ take 4 held = rw take-append-le refl in
      ⊎_elim (λ mark. inl (subst (λ (l : List ℕ). l ≢ MARK) (sym same) mark))
      (λ none. inr (subst (λ (n : ℕ). ¬ IsVersion n) (sym (nth_same held after 4 (omega (arith, is.long)))) none)) is.differs;
}

other_more : (digest kept held after : List ℕ) → IsOther digest kept held → IsOther digest kept (held ++ after)
other_more digest kept held after is = record {
  version = is.version;
  is_version = is.is_version;
  rest = is.rest ++ after;
  some = omega (arith, is.some, length-append is.rest after);
  size = is.size;
  is = ap (λ (l : List ℕ). l ++ after) is.is ∙ append_assoc (head is.version kept) is.rest after;
  differs = is.differs;
}

module _ {D : Type 0} (disk : Ghosts D) where
  abbrev held : Piece → List ℕ
  held piece = drop (0 - piece.from) (take piece.len piece.bytes.items)

  front_told : (now : D) (piece : Piece) (end : ℕ) → IsFront disk now piece end → IfSome (disk.content now) (λ bytes. held piece ≡ take PIECE_BYTES bytes)
  front_told now piece end front =
      both (disk.content now) _ _ (λ bytes. held piece ≡ take PIECE_BYTES bytes)
      (λ bytes long read.
      ap (λ (k : ℕ). drop (0 - k) (take piece.len piece.bytes.items)) front.from ∙ read long ∙ ap (λ (k : ℕ). take PIECE_BYTES (drop k bytes)) front.from) front.told front.is_piece.read

  along : (a b : Option (List ℕ)) (P : List ℕ → Type 0) → b ≡ a → IfSome a P → IfSome b P
  along a b P same told = subst (λ (found : Option (List ℕ)). IfSome found P) (sym same) told

  each : (content : Option (List ℕ)) (P Q : List ℕ → Type 0) → ((bytes : List ℕ) → P bytes → Q bytes) → IfSome content P → IfSome content Q
  each None P Q to is = tt
  each (Some bytes) P Q to is = to bytes is

  pub unbegun_told : (now : D) (piece : Piece) (end : ℕ) → IsFront disk now piece end → IsUnbegun (held piece) → IfSome (disk.content now) IsUnbegun
  unbegun_told now piece end front unbegun = each (disk.content now) _ IsUnbegun (λ bytes is. unbegun_whole (held piece) bytes is unbegun) (front_told now piece end front)

  -- a head that is refused
  pub head_refused : (old now : D) (piece : Piece) (end : ℕ) (digest : List ℕ) (fault : JournalFault) → disk.content now ≡ disk.content old → IsFront disk now piece end → HasHead (held piece) digest (Err fault) → IsRefusedJournal disk old now digest fault
  head_refused old now piece end digest (Damaged at) same front (inl (headless, zero_at)) =
      along _ _ _ (sym same) (each (disk.content now) _ _ (λ bytes is. inl (subst IsHeadless (sym (front_more (held piece) bytes is)) (headless_more (held piece) (drop PIECE_BYTES bytes) headless), zero_at)) (front_told now piece end front))
  head_refused old now piece end digest (Damaged at) same front (inr (unmarked, one_at)) =
      along _ _ _ (sym same) (each (disk.content now) _ _ (λ bytes is. inr (subst IsUnmarked (sym (front_more (held piece) bytes is)) (unmarked_more (held piece) (drop PIECE_BYTES bytes) unmarked), one_at)) (front_told now piece end front))
  head_refused old now piece end digest (Other kept given) same front (other, given_is) = (
    given_is,
    along _ _ _ (sym same) (each (disk.content now) _ _ (λ bytes is. subst (IsOther digest kept) (sym (front_more (held piece) bytes is)) (other_more digest kept (held piece) (drop PIECE_BYTES bytes) other)) (front_told now piece end front)),
  )
  head_refused old now piece end digest Disk same front no_fault = absurd no_fault
  head_refused old now piece end digest Memory same front no_fault = absurd no_fault

  -- ---- images

  pub reads_kept : (old new : D) → OnlyRead disk old new → ReadsItsImages disk old → ReadsItsImages disk new
  reads_kept old new only reads image is_image = only.same ∙ reads image (only.images image is_image)

  pub unbegun_images : (now : D) → ReadsItsImages disk now → IfSome (disk.content now) IsUnbegun → Images disk now IsUnbegun
  unbegun_images now reads unbegun image is_image = closed_images (disk.content now) IsUnbegun image unbegun (reads image is_image)

  -- ---- a journal that was begun

  up_to : (version : ℕ) (digest : List ℕ) (end : ℕ) (bytes after rest : List ℕ) → length bytes ≡ end → bytes ≡ (head version digest ++ rest) ++ after → IsReadUpTo version digest [] end bytes
  up_to version digest end bytes after rest long is = record {
    long = long;
    rest = rest ++ after;
    is = is ∙ append_assoc (head version digest) rest after ∙ ap (λ (l : List ℕ). l ++ (rest ++ after)) (sym (append-nil (head version digest)));
  }

  pub open_begun : (now : D) (piece : Piece) (end : ℕ) (chained : Bool) (digest : List ℕ) → length digest ≡ DIGEST_BYTES → ReadsItsImages disk now → IsFront disk now piece end → IsHeadOf digest (held piece) chained
      → IsOpen disk now piece (record { end = end; chained = chained }) digest
  open_begun now piece end chained digest size reads front is_head = record {
    version = is_head.version;
    is_version = is_head.is_version;
    chained = is_head.chained_is;
    size = size;
    within =
        omega (
          arith,
          size,
          is_head.some,
          ap length is_head.is,
          length-append (head is_head.version digest) is_head.rest,
          length-append MARK (is_head.version ∷ digest),
          length-drop (0 - piece.from) (take piece.len piece.bytes.items),
          length-take piece.len piece.bytes.items,
          front.is_piece.within,
        );
    small = front.small;
    is_piece = front.is_piece;
    only = reads;
    told =
        both (disk.content now) _ _ (IsReadUpTo is_head.version digest [] end)
        (λ bytes long is. up_to is_head.version digest end bytes (drop PIECE_BYTES bytes) is_head.rest long (front_more (held piece) bytes is ∙ ap (λ (l : List ℕ). l ++ drop PIECE_BYTES bytes) is_head.is))
        front.told (front_told now piece end front);
  }

  -- ---- a journal that begins

  closed_up_to : (digest : List ℕ) (end : ℕ) (bytes : List ℕ) → length bytes ≡ end → IsClosed (front_of CHAINED digest []) bytes → IsReadUpTo CHAINED digest [] end bytes
  closed_up_to digest end bytes long closed = record { long = long; rest = closed.gate ∷ closed.rest; is = closed.is }

  pub begun_told : (now : D) (digest : List ℕ) → IfSome (disk.content now) (disk.may_leave now) → Images disk now (IsClosed (front_of CHAINED digest [])) → IfSome (disk.content now) (IsClosed (front_of CHAINED digest []))
  begun_told now digest is_image closed = each (disk.content now) _ _ closed is_image

  no_record_list : (digest image : List ℕ) → HasNoRecord digest image → IsListOf digest [] image
  no_record_list digest image (inl unbegun) = inl (unbegun, refl)
  no_record_list digest image (inr closed) = closed_is_list TakesAny CHAINED digest image [] (inr refl) tt closed

  -- what is read after the writes that begin a journal, which may have failed
  pub adds_none : (old loaded begun : D) (digest : List ℕ) → disk.content loaded ≡ disk.content old → IfSome (disk.content loaded) IsUnbegun → LeavesOnly disk loaded begun (HasNoRecord digest)
      → ((t : ℕ) (image : List ℕ) → t ≤ disk.moment begun → disk.may_leave begun image → disk.left_since begun t image) → IfSome (disk.content begun) (disk.may_leave begun)
      → AddsNoRecord (disk.content old) (disk.content begun) digest
  adds_none old loaded begun digest same unbegun run counts is_image =
      inr (along _ _ _ (sym same) unbegun, each (disk.content begun) _ _ (now_too disk loaded begun (HasNoRecord digest) counts run) is_image)

  pub adds_still : (old begun now : D) (digest : List ℕ) → OnlyRead disk begun now → AddsNoRecord (disk.content old) (disk.content begun) digest → AddsNoRecord (disk.content old) (disk.content now) digest
  adds_still old begun now digest only adds = subst (λ (content : Option (List ℕ)). AddsNoRecord (disk.content old) content digest) (sym only.same) adds

  pub open_new : (begun now : D) (piece : Piece) (end : ℕ) (digest : List ℕ) → length digest ≡ DIGEST_BYTES → HEAD_BYTES < end → ReadsItsImages disk begun → OnlyRead disk begun now → IsFront disk now piece end → IfSome (disk.content begun) (IsClosed (front_of CHAINED digest []))
      → IsOpen disk now piece (record { end = end; chained = true }) digest
  open_new begun now piece end digest size within reads only front closed = record {
    version = CHAINED;
    is_version = inr refl;
    chained = refl;
    size = size;
    within = within;
    small = front.small;
    is_piece = front.is_piece;
    only = reads_kept begun now only reads;
    told = both (disk.content now) _ _ (IsReadUpTo CHAINED digest [] end) (λ bytes long is. closed_up_to digest end bytes long is) front.told (along _ _ _ only.same closed);
  }

  pub list_new : (old loaded begun now : D) (digest : List ℕ) → disk.content loaded ≡ disk.content old → OnlyRead disk begun now → IfSome (disk.content loaded) IsUnbegun → IfSome (disk.content begun) (IsClosed (front_of CHAINED digest []))
      → KeepsList (disk.content old) (disk.content now) digest
  list_new old loaded begun now digest same only unbegun closed =
      inr (along _ _ _ (sym same) unbegun, along _ _ _ only.same (each (disk.content begun) _ _ (λ bytes is. closed_is_list TakesAny CHAINED digest bytes [] (inr refl) tt is) closed))

  -- a journal that was begun is not that short
  short_by : (a b : Option (List ℕ)) (digest : List ℕ) (end : ℕ) (P : List ℕ → Type 0) → length digest ≡ DIGEST_BYTES → end ≤ HEAD_BYTES → is_some b ≡ is_some a → IfSome b (λ bytes. length bytes ≡ end) → IfSome b (IsClosed (front_of CHAINED digest [])) → IfSome a P
  short_by None b digest end P size short tells long closed = tt
  short_by (Some was) None digest end P size short tells long closed = absurd (let clash : false ≡ true = tells in cc)
  short_by (Some was) (Some bytes) digest end P size short tells long closed =
      absurd (omega (arith, size, short, long, ap length closed.is, length-append (head CHAINED digest ++ []) (closed.gate ∷ closed.rest), length-append (head CHAINED digest) [], length-append MARK (CHAINED ∷ digest)))

  pub short_new : (old loaded begun now : D) (piece : Piece) (end : ℕ) (digest : List ℕ) (P : List ℕ → Type 0) → length digest ≡ DIGEST_BYTES → end ≤ HEAD_BYTES → disk.content loaded ≡ disk.content old → is_some (disk.content begun) ≡ is_some (disk.content loaded)
      → OnlyRead disk begun now → IsFront disk now piece end → IfSome (disk.content begun) (IsClosed (front_of CHAINED digest [])) → IfSome (disk.content old) P
  short_new old loaded begun now piece end digest P size short same tells only front closed =
      short_by (disk.content old) (disk.content now) digest end P size short (ap is_some only.same ∙ tells ∙ ap is_some same) front.told (along _ _ _ only.same closed)

  -- ---- moments

  loaded_run : (old synced loaded : D) → ((image : List ℕ) → disk.left_since old (disk.moment old) image → disk.may_leave old image)
      → Elapses (disk.moment old) (disk.moment synced) (disk.left_since old) (disk.left_since synced) (disk.may_leave synced) → NoneNew (disk.may_leave old) (disk.may_leave synced)
      → OnlyRead disk synced loaded → LeavesOnly disk old loaded (disk.may_leave old)
  loaded_run old synced loaded only_now time same only =
      let begin = started disk old (disk.may_leave old) only_now (λ image is. is) in
      let sync_run = goes_on disk old old synced (disk.may_leave old) begin time same in
      joined disk old synced loaded (disk.may_leave old) sync_run (weaker disk synced loaded _ (disk.may_leave old) same only.run)

  begun_run : (old loaded begun : D) (digest : List ℕ) → LeavesOnly disk old loaded (disk.may_leave old) → disk.content loaded ≡ disk.content old → IfSome (disk.content loaded) IsUnbegun → LeavesOnly disk loaded begun (HasNoRecord digest)
      → LeavesOnly disk old begun (IsOpened disk old digest)
  begun_run old loaded begun digest first same unbegun second =
      joined disk old loaded begun (IsOpened disk old digest) (weaker disk old loaded _ (IsOpened disk old digest) (λ image was. inl was) first)
      (weaker disk loaded begun _ (IsOpened disk old digest) (λ image none. inr (along _ _ _ (sym same) unbegun, no_record_list digest image none)) second)

  reloaded_run : (old loaded begun now : D) (digest : List ℕ) → ((t : ℕ) (image : List ℕ) → t ≤ disk.moment begun → disk.may_leave begun image → disk.left_since begun t image)
      → LeavesOnly disk old loaded (disk.may_leave old) → disk.content loaded ≡ disk.content old → IfSome (disk.content loaded) IsUnbegun → LeavesOnly disk loaded begun (HasNoRecord digest) → OnlyRead disk begun now
      → LeavesOnly disk old now (IsOpened disk old digest)
  reloaded_run old loaded begun now digest counts first same unbegun second only =
      let none = now_too disk loaded begun (HasNoRecord digest) counts second in
      joined disk old begun now (IsOpened disk old digest) (begun_run old loaded begun digest first same unbegun second)
      (weaker disk begun now _ (IsOpened disk old digest) (λ image is_image. inr (along _ _ _ (sym same) unbegun, no_record_list digest image (none image is_image))) only.run)

  -- from before the sync of an opening up to the writes that begin a journal, and to the read after them
  module _ (old synced loaded begun : D) (piece : Piece) (end : ℕ) (digest : List ℕ) (only_now : (image : List ℕ) → disk.left_since old (disk.moment old) image → disk.may_leave old image)
      (time : Elapses (disk.moment old) (disk.moment synced) (disk.left_since old) (disk.left_since synced) (disk.may_leave synced)) (none_new : NoneNew (disk.may_leave old) (disk.may_leave synced)) (same : disk.content synced ≡ disk.content old)
      (only : OnlyRead disk synced loaded) (front : IsFront disk loaded piece end) (unbegun : IsUnbegun (held piece)) (begin : LeavesOnly disk loaded begun (HasNoRecord digest)) where
    pub until_begun : LeavesOnly disk old begun (IsOpened disk old digest)
    until_begun = begun_run old loaded begun digest (loaded_run old synced loaded only_now time none_new only) (only.same ∙ same) (unbegun_told loaded piece end front unbegun) begin

    pub until_reloaded : (now : D) → ((t : ℕ) (image : List ℕ) → t ≤ disk.moment begun → disk.may_leave begun image → disk.left_since begun t image) → OnlyRead disk begun now → LeavesOnly disk old now (IsOpened disk old digest)
    until_reloaded now counts again =
        reloaded_run old loaded begun now digest counts (loaded_run old synced loaded only_now time none_new only) (only.same ∙ same) (unbegun_told loaded piece end front unbegun) begin again
