-- What the steps of a beginning leave.
use Rattle.std.proofs.Common.{◌≡◌, ◌≢◌, inl, inr, ℕ, ◌+◌, ◌≤◌, List, [], ◌∷◌, ◌++◌, length, get_or, take, drop, sym, ◌∙◌, ap, subst, arith, length-append, append-nil}
use Rattle.std.proofs.lemmas.Bool.{cases_eq, cases_lt}
use Rattle.std.proofs.lemmas.List.{take_all, drop_all, length-take}
use Rattle.hose_disk.specs.Disk.{NoneNew}
use Rattle.hose_disk.specs.steps.Disk.{Torn, IsCut, IsTruncated, StepsTo, Elapses}
use Rattle.hose_disk.specs.steps.Images.{overwritten}
use Rattle.hose_disk.specs.declared.disk.Disk.{Ghosts}
use Rattle.hose_journal.specs.declared.layout.TheConstants.{OPEN, CLOSED, MARK, CHAINED, DIGEST_BYTES, EMPTY_BYTES, HEAD_BYTES}
use Rattle.hose_journal.specs.Image.{IsUnbegun, head}
use Rattle.hose_journal.specs.Moments.{Images, LeavesOnly}
use Rattle.hose_journal.specs.steps.Moments.{IsTornFrom, Lands}
use Rattle.hose_journal.specs.Opening.{HasNoRecord}
use Rattle.hose_journal.proofs.Runs.{started, goes_on, joined, weaker}

-- a cut leaves what was not begun so
pub cut_unbegun : (len : ℕ) (was image : List ℕ) → IsCut len was image → IsUnbegun was → IsUnbegun image
cut_unbegun len was image cut (inl short) = inl (omega (arith, ap length cut.front, length-take (length image) was))
cut_unbegun len was image cut (inr (long, shut)) = elim (cases_lt (length image) EMPTY_BYTES) [
  | inl short ↦ inl short
  | inr rest ↦
      let same : was ≡ image = sym (take_all (length image) was (omega arith)) ∙ cut.front in
      inr (omega (arith, ap length same), subst (λ (l : List ℕ). get_or l 0 0 ≢ OPEN) same shut)
]

-- so does a write of one byte on nothing
pub first_unbegun : (was image : List ℕ) → was ≡ [] → Torn 0 1 was image → IsUnbegun image
first_unbegun was image same torn = inl (omega (arith, ap length same, torn.no_longer))

-- a write after the first gate, of a head at most
head_unbegun : (count : ℕ) (was image : List ℕ) → count ≤ HEAD_BYTES → was ≡ CLOSED ∷ [] → Torn 1 count was image → IsUnbegun image
head_unbegun count was [] few same torn = inl (omega arith)
head_unbegun count was (gate ∷ image) few same torn = elim (cases_lt (length (gate ∷ image)) EMPTY_BYTES) [
  | inl short ↦ inl short
  | inr long ↦
      let first : gate ≡ CLOSED = ap (λ (l : List ℕ). get_or l 0 0) (torn.front ∙ ap (λ (l : List ℕ). take 1 l) same) in
      inr (omega (arith, long, torn.no_longer, few, ap length same), λ opened. omega (arith, first, opened))
]

-- a whole head, after a gate that is open or not
begun_whole : (digest image tail : List ℕ) (gate : ℕ) → length digest ≡ DIGEST_BYTES → tail ≡ (MARK ++ CHAINED ∷ digest) ++ CLOSED ∷ [] → image ≡ gate ∷ tail → HasNoRecord digest image
begun_whole digest image tail gate size tail_is same = elim (cases_eq gate OPEN) [
  | inl opened ↦ inr (record {
    gate = CLOSED;
    rest = [];
    shut = omega arith;
    is =
        same
        ∙ ap (λ (g : ℕ). g ∷ tail) opened
        ∙ ap (λ (l : List ℕ). OPEN ∷ l) tail_is
        ∙ ap (λ (l : List ℕ). l ++ CLOSED ∷ []) (sym (append-nil (head CHAINED digest)));
  })
  | inr shut ↦
      inl (inr (
        omega (arith, size, ap length same, ap length tail_is, length-append (MARK ++ CHAINED ∷ digest) (CLOSED ∷ []), length-append MARK (CHAINED ∷ digest)),
        λ opened. shut (sym (ap (λ (l : List ℕ). get_or l 0 0) same) ∙ opened),
      ))
]

-- the first gate of a head may be written in part
gate_torn : (tail was image : List ℕ) → was ≡ CLOSED ∷ tail → Torn 0 1 was image → (gate : ℕ) × (image ≡ gate ∷ tail)
gate_torn tail was [] same torn = absurd (omega (arith, torn.no_shorter, ap length same))
gate_torn tail was (gate ∷ image) same torn = (gate, ap (λ (l : List ℕ). gate ∷ l) (torn.after ∙ ap (λ (l : List ℕ). drop 1 l) same))

head_landed : (tail was image : List ℕ) → was ≡ CLOSED ∷ [] → image ≡ overwritten 1 tail was → image ≡ CLOSED ∷ tail
head_landed tail was image same is =
    is ∙ ap (λ (l : List ℕ). overwritten 1 tail l) same
    ∙ ap (λ (l : List ℕ). (CLOSED ∷ tail) ++ l) (drop_all (1 + length tail) (CLOSED ∷ []) (omega arith)) ∙ append-nil (CLOSED ∷ tail)

-- from an empty disk with a closed gate: a head is written after the gate, and then the gate
module _ {D : Type 0} (disk : Ghosts D) (old mid : D) (digest tail : List ℕ) (size : length digest ≡ DIGEST_BYTES) (tail_is : tail ≡ (MARK ++ CHAINED ∷ digest) ++ CLOSED ∷ []) (closed : Images disk old (λ image. image ≡ CLOSED ∷ []))
    (first : LeavesOnly disk old mid (IsTornFrom disk old 1 (length tail))) where
  pub head_moments : LeavesOnly disk old mid (HasNoRecord digest)
  head_moments =
      let few : length tail ≤ HEAD_BYTES = omega (arith, size, ap length tail_is, length-append (MARK ++ CHAINED ∷ digest) (CLOSED ∷ []), length-append MARK (CHAINED ∷ digest)) in
      weaker disk old mid (IsTornFrom disk old 1 (length tail)) (HasNoRecord digest) (λ image (was, is_image, torn). inl (head_unbegun (length tail) was image few (closed was is_image) torn)) first

  pub gate_moments : (new : D) → Lands disk old mid 1 tail → LeavesOnly disk mid new (IsTornFrom disk mid 0 1) → LeavesOnly disk old new (HasNoRecord digest)
  gate_moments new lands second =
      joined disk old mid new (HasNoRecord digest) head_moments
      (weaker disk mid new (IsTornFrom disk mid 0 1) (HasNoRecord digest)
      (λ image (was, is_image, torn).
      let from = lands was is_image in
      let gate = gate_torn tail was image (head_landed tail from.0 was (closed from.0 from.1) from.2) torn in
      begun_whole digest image tail gate.0 size tail_is gate.1) second)

-- writes after a disk was cleared
pub cleared_then : {D : Type 0} (disk : Ghosts D) (old mid new : D) (digest : List ℕ) → LeavesOnly disk old mid IsUnbegun → LeavesOnly disk mid new (HasNoRecord digest) → LeavesOnly disk old new (HasNoRecord digest)
cleared_then disk old mid new digest clear run = joined disk old mid new (HasNoRecord digest) (weaker disk old mid IsUnbegun (HasNoRecord digest) (λ image unbegun. inl unbegun) clear) run

module _ {D : Type 0} (disk : Ghosts D) (old new : D) where
  pub cut_empties : ((image : List ℕ) → disk.may_leave new image → (was : List ℕ) × disk.may_leave old was × IsTruncated 0 was image) → Images disk new (λ image. image ≡ [])
  cut_empties step image is_image = (step image is_image).2

  first_keeps : Images disk old (λ image. image ≡ []) → (image : List ℕ) → IsTornFrom disk old 0 1 image → IsUnbegun image
  first_keeps empty image (was, is_image, torn) = first_unbegun was image (empty was is_image) torn

  -- a disk is cut to nothing and synced
  pub emptied_run : (mid : D) → Images disk old IsUnbegun → ((image : List ℕ) → disk.left_since old (disk.moment old) image → disk.may_leave old image)
      → Elapses (disk.moment old) (disk.moment mid) (disk.left_since old) (disk.left_since mid) (disk.may_leave mid) → StepsTo (IsCut 0) (disk.may_leave old) (disk.may_leave mid)
      → Elapses (disk.moment mid) (disk.moment new) (disk.left_since mid) (disk.left_since new) (disk.may_leave new) → NoneNew (disk.may_leave mid) (disk.may_leave new) → LeavesOnly disk old new IsUnbegun
  emptied_run mid unbegun only cut_time cut sync_time same =
      let cut_images : Images disk mid IsUnbegun = λ image is_image. let from = cut image is_image in cut_unbegun 0 from.0 image from.2 (unbegun from.0 from.1) in
      let cut_run = goes_on disk old old mid IsUnbegun (started disk old IsUnbegun only unbegun) cut_time cut_images in
      goes_on disk old mid new IsUnbegun cut_run sync_time (λ image is_image. cut_images image (same image is_image))

-- a disk that was emptied, and then a write of one byte
pub cleared_run : {D : Type 0} (disk : Ghosts D) (old mid new : D) → LeavesOnly disk old mid IsUnbegun → Images disk mid (λ image. image ≡ []) → LeavesOnly disk mid new (IsTornFrom disk mid 0 1) → LeavesOnly disk old new IsUnbegun
cleared_run disk old mid new run emptied write = joined disk old mid new IsUnbegun run (weaker disk mid new _ IsUnbegun (first_keeps disk mid new emptied) write)
