-- How runs of calls go on.
use Rattle.std.proofs.Common.{◌≡◌, inl, inr, ⊎_elim, ℕ, ◌≤◌, List, Option, None, Some, refl, sym, ◌∙◌, subst, arith, IfSome, ap}
use Rattle.std.specs.Prelude.{Result, Ok, Err, OnErr, OnOk}
use Rattle.hose_disk.specs.steps.Disk.{Only, ContentSteps, Elapses}
use Rattle.hose_journal.specs.Moments.{Images, LeavesOnly}
use Rattle.hose_journal.specs.steps.Moments.{IsTornFrom}
use Rattle.hose_disk.specs.declared.disk.Disk.{Ghosts}
use Rattle.hose_disk.proofs.Images.{torn_same}

module _ {D : Type 0} (disk : Ghosts D) where
  -- before the first call
  pub started : (old : D) (P : List ℕ → Type 0) → ((image : List ℕ) → disk.left_since old (disk.moment old) image → disk.may_leave old image) → Images disk old P → LeavesOnly disk old old P
  started old P only here = record { later = omega arith; each = λ image left. here image (only image left); before = λ t image le left. inl left; keeps = λ t image le left. left }

  -- one call more
  pub goes_on : (old mid new : D) (P : List ℕ → Type 0) → LeavesOnly disk old mid P
      → Elapses (disk.moment mid) (disk.moment new) (disk.left_since mid) (disk.left_since new) (disk.may_leave new) → Images disk new P → LeavesOnly disk old new P
  goes_on old mid new P so_far time here = record {
    later = omega (arith, so_far.later, time.later);
    each = λ image left. ⊎_elim (so_far.each image) (here image) (time.nothing_else (disk.moment old) image so_far.later left);
    before = λ t image le left. ⊎_elim (so_far.before t image le) (λ now. inr (here image now)) (time.nothing_else t image (omega (arith, le, so_far.later)) left);
    keeps = λ t image le left. time.keeps t image (omega (arith, le, so_far.later)) (so_far.keeps t image le left);
  }

  -- another run after it
  pub joined : (old mid new : D) (P : List ℕ → Type 0) → LeavesOnly disk old mid P → LeavesOnly disk mid new P → LeavesOnly disk old new P
  joined old mid new P first second = record {
    later = omega (arith, first.later, second.later);
    each = λ image left. ⊎_elim (first.each image) (λ p. p) (second.before (disk.moment old) image first.later left);
    before = λ t image le left. ⊎_elim (first.before t image le) (λ p. inr p) (second.before t image (omega (arith, le, first.later)) left);
    keeps = λ t image le left. second.keeps t image (omega (arith, le, first.later)) (first.keeps t image le left);
  }

  pub weaker : (old new : D) (P Q : List ℕ → Type 0) → ((image : List ℕ) → P image → Q image) → LeavesOnly disk old new P → LeavesOnly disk old new Q
  weaker old new P Q to run = record {
    later = run.later;
    each = λ image left. to image (run.each image left);
    before = λ t image le left. ⊎_elim (λ was. inl was) (λ p. inr (to image p)) (run.before t image le left);
    keeps = run.keeps;
  }

  -- what is so at each moment is so now
  pub now_too : (old new : D) (P : List ℕ → Type 0) → ((t : ℕ) (image : List ℕ) → t ≤ disk.moment new → disk.may_leave new image → disk.left_since new t image) → LeavesOnly disk old new P → Images disk new P
  now_too old new P counts run image is_image = run.each image (counts (disk.moment old) image run.later is_image)

  pub torn_before : (old : D) (at count : ℕ) → Images disk old (IsTornFrom disk old at count)
  torn_before old at count image is_image = (image, is_image, torn_same at count image)

  -- a write leaves an image of before with the write begun
  pub torn_run : (old new : D) (at count : ℕ) → ((image : List ℕ) → disk.left_since old (disk.moment old) image → disk.may_leave old image)
      → Elapses (disk.moment old) (disk.moment new) (disk.left_since old) (disk.left_since new) (disk.may_leave new) → Images disk new (IsTornFrom disk old at count) → LeavesOnly disk old new (IsTornFrom disk old at count)
  torn_run old new at count only time here = goes_on old old new (IsTornFrom disk old at count) (started old (IsTornFrom disk old at count) only (torn_before old at count)) time here

  -- a sync leaves what a step that was done made of one of the images of before
  synced_told : (step : List ℕ → List ℕ → Type 0) (was done : Option (List ℕ)) (old new : List ℕ → Type 0) → IfSome was old → ((image : List ℕ) → was ≡ None → new image → ⊥)
      → ContentSteps step was done → IfSome done (λ bytes. Only bytes new) → (image : List ℕ) → new image → (before : List ℕ) × old before × step before image
  synced_told step None None old new is_image untold told only image is = absurd (untold image refl is)
  synced_told step None (Some done) old new is_image untold told only image is = absurd told
  synced_told step (Some before) None old new is_image untold told only image is = absurd told
  synced_told step (Some before) (Some done) old new is_image untold told only image is =
      (before, is_image, subst (λ (bytes : List ℕ). step before bytes) (sym (only image is)) told)

  told_none : (step : List ℕ → List ℕ → Type 0) (was done : Option (List ℕ)) → ContentSteps step was done → was ≡ None → done ≡ None
  told_none step None None told none = refl
  told_none step None (Some done) told none = absurd told
  told_none step (Some before) None told none = absurd told
  told_none step (Some before) (Some done) told none = cc none

  pub synced_step : (step : List ℕ → List ℕ → Type 0) (old mid new : D) → IfSome (disk.content old) (disk.may_leave old)
      → ((t : ℕ) (image : List ℕ) → t ≤ disk.moment new → disk.may_leave new image → disk.left_since new t image)
      → ((t : ℕ) (image : List ℕ) → disk.content new ≡ None → disk.left_since new t image → ⊥)
      → ContentSteps step (disk.content old) (disk.content mid) → disk.content new ≡ disk.content mid → IfSome (disk.content mid) (λ bytes. Only bytes (disk.may_leave new))
      → (image : List ℕ) → disk.may_leave new image → (before : List ℕ) × disk.may_leave old before × step before image
  synced_step step old mid new is_image counts untold told same only =
      synced_told step (disk.content old) (disk.content mid) (disk.may_leave old) (disk.may_leave new) is_image
      (λ image none is. untold (disk.moment new) image (same ∙ told_none step (disk.content old) (disk.content mid) told none) (counts (disk.moment new) image (omega arith) is)) told only

  -- after a sync a stop leaves what is read
  only_told : (content : Option (List ℕ)) (images : List ℕ → Type 0) → ((image : List ℕ) → content ≡ None → images image → ⊥) → IfSome content (λ bytes. Only bytes images) → (image : List ℕ) → images image → content ≡ Some image
  only_told None images untold only image is = absurd (untold image refl is)
  only_told (Some bytes) images untold only image is = ap (λ (l : List ℕ). Some l) (sym (only image is))

  pub only_content : (mid new : D) → ((t : ℕ) (image : List ℕ) → t ≤ disk.moment new → disk.may_leave new image → disk.left_since new t image)
      → ((t : ℕ) (image : List ℕ) → disk.content new ≡ None → disk.left_since new t image → ⊥)
      → disk.content new ≡ disk.content mid → IfSome (disk.content mid) (λ bytes. Only bytes (disk.may_leave new)) → (image : List ℕ) → disk.may_leave new image → disk.content new ≡ Some image
  only_content mid new counts untold same only image is_image =
      only_told (disk.content new) (disk.may_leave new) (λ other none is. untold (disk.moment new) other none (counts (disk.moment new) other (omega arith) is))
      (subst (λ (told : Option (List ℕ)). IfSome told (λ bytes. Only bytes (disk.may_leave new))) (sym same) only) image is_image

pub on_err_of : {T E : Type 0} (result : Result T E) (P : Type 0) → P → OnErr result P
on_err_of (Ok value) P p = tt
on_err_of (Err fault) P p = p

-- what follows of a fact at a result follows there
pub on_ok_so : {T E P Q : Type 0} (result : Result T E) → OnOk result P → (P → Q) → OnOk result Q
on_ok_so (Ok value) p to = to p
on_ok_so (Err fault) p to = tt

pub on_err_so : {T E P Q : Type 0} (result : Result T E) → OnErr result P → (P → Q) → OnErr result Q
on_err_so (Ok value) p to = tt
on_err_so (Err fault) p to = to p
