-- What each call of a disk in memory does to what it tells.
use Rattle.std.proofs.Common.{◌≡◌, ◌⊎◌, ◌↔◌, inl, inr, ℕ, Bool, true, false, IsTrue, IsFalse, List, length, Contains, Some, refl, sym, ◌∙◌, ap, subst}
use Rattle.std.proofs.lemmas.Bool.{false≢true}
use Rattle.std.specs.Prelude.{Result, Ok, Err, OnOk, OnErr, is_err, ⊤}
use Rattle.hose_io.specs.steps.Faults.{one_fault, one_starved}
use Rattle.hose_io.specs.declared.Failed.{Failed}
use Rattle.hose_disk.specs.Disk.{NoneNew}
use Rattle.hose_disk.specs.steps.Disk.{StepsTo, Elapses}
use Rattle.hose_disk.specs.steps.Images.{DiskStep, IsImage, LeftSince}
use Rattle.hose_disk.specs.steps.Recording.{CallRecord, with_call, reads}
use Rattle.hose_disk.specs.steps.MemState.{EndsCall, IsMemCall, MemState, ToFail, after_kind, content_of, image_of, left_since_of, moment_of, of_kind}
use Rattle.hose_disk.specs.declared.call.DiskCall.{DiskCall}
use Rattle.hose_disk.proofs.Images.{elapses, elapses_same}

-- A call whose record was made, or found no memory, and that ended so.
pub mem_call : {E : Type 0} (kind : DiskCall) (done begun : DiskStep) (old new : MemState) (made : CallRecord) (failing : ToFail) (fails : Bool) (recorded : Result ⊤ E) (result : Result ⊤ Failed)
    → (IsTrue fails ↔ Contains (of_kind kind old.failing) 1) → failing ≡ after_kind kind old.failing
    → (IsFalse fails → OnOk recorded (made ≡ with_call old.made done)) → (IsTrue fails → OnOk recorded (made ≡ with_call old.made begun)) → OnErr recorded (made ≡ old.made)
    → EndsCall (is_err recorded) fails (record old { made = made; failing = failing }) new result → IsMemCall kind done begun old new result
mem_call kind done begun old new made failing fails (Err none) (Ok value) listed later is_done is_begun same ends = absurd (false≢true ends.0)
mem_call kind done begun old new made failing fails (Err none) (Err failed) listed later is_done is_begun same ends =
    inl (ends.1 ∙ (λ i. record old { made = same i; failing = later i; faults = one_starved old.faults; has_failed = true }))
mem_call kind done begun old new made failing true (Ok _) (Ok value) listed later is_done is_begun same ends = absurd (false≢true ends.0)
mem_call kind done begun old new made failing true (Ok _) (Err failed) listed later is_done is_begun same ends =
    inr (listed.0 refl, ends.1 ∙ (λ i. record old { made = is_begun refl i; failing = later i; faults = one_fault old.faults; has_failed = true }))
mem_call kind done begun old new made failing false (Ok _) (Ok value) listed later is_done is_begun same ends =
    (λ there. false≢true (listed.1 there), ends.1 ∙ (λ i. record old { made = is_done refl i; failing = later i; has_failed = false }))
mem_call kind done begun old new made failing false (Ok _) (Err failed) listed later is_done is_begun same ends = absurd (false≢true ends.0)

-- what the record is after a call: no call more, one that was done, or one that was begun
abbrev Made : CallRecord → DiskStep → DiskStep → CallRecord → Type 0
Made old done begun new = (new ≡ old) ⊎ ((new ≡ with_call old done) ⊎ (new ≡ with_call old begun))

made_is : {T : Type 0} (kind : DiskCall) (done begun : DiskStep) (old new : MemState) (result : Result T Failed) → IsMemCall kind done begun old new result → Made old.made done begun new.made
made_is kind done begun old new (Ok value) (listed, is) = inr (inl (ap (λ (disk : MemState). disk.made) is))
made_is kind done begun old new (Err failed) (inl is) = inl (ap (λ (disk : MemState). disk.made) is)
made_is kind done begun old new (Err failed) (inr (listed, is)) = inr (inr (ap (λ (disk : MemState). disk.made) is))

-- a fact of each record that there may be after a call
of_made : (P : CallRecord → Type 0) (old new : CallRecord) (done begun : DiskStep) → P old → P (with_call old done) → P (with_call old begun) → Made old done begun new → P new
of_made P old new done begun same ended tried (inl is) = subst P (sym is) same
of_made P old new done begun same ended tried (inr (inl is)) = subst P (sym is) ended
of_made P old new done begun same ended tried (inr (inr is)) = subst P (sym is) tried

abbrev Image : CallRecord → List ℕ → Type 0
Image made = IsImage made.first made.calls

module _ {T : Type 0} (kind : DiskCall) (old new : MemState) (result : Result T Failed) where
  -- each call takes time
  pub time_of : (done begun : DiskStep) → IsMemCall kind done begun old new result
      → Elapses (moment_of old) (moment_of new) (left_since_of old) (left_since_of new) (image_of new)
  time_of done begun is =
      of_made (λ (made : CallRecord). Elapses (moment_of old) (length made.calls) (left_since_of old) (LeftSince made.first made.calls) (Image made)) old.made new.made done begun
      (elapses_same old.made.first old.made.calls) (elapses old.made.first old.made.calls done) (elapses old.made.first old.made.calls begun)
      (made_is kind done begun old new result is)

  -- neither a call that is done nor one that is begun changes what is read
  pub same_content : (done begun : DiskStep) → reads (with_call old.made done) ≡ reads old.made → reads (with_call old.made begun) ≡ reads old.made
      → IsMemCall kind done begun old new result → content_of new ≡ content_of old
  same_content done begun ended tried is =
      of_made (λ (made : CallRecord). Some (reads made) ≡ content_of old) old.made new.made done begun refl (ap Some ended) (ap Some tried) (made_is kind done begun old new result is)

  -- neither leaves a new image
  pub no_new_image : (done begun : DiskStep) → NoneNew (image_of old) (Image (with_call old.made done)) → NoneNew (image_of old) (Image (with_call old.made begun))
      → IsMemCall kind done begun old new result → NoneNew (image_of old) (image_of new)
  no_new_image done begun ended tried is =
      of_made (λ (made : CallRecord). NoneNew (image_of old) (Image made)) old.made new.made done begun (λ image was. was) ended tried (made_is kind done begun old new result is)

  -- each image is one of before after a step
  pub step_of_images : (step : List ℕ → List ℕ → Type 0) (done begun : DiskStep) → ((image : List ℕ) → step image image)
      → StepsTo step (image_of old) (Image (with_call old.made done)) → StepsTo step (image_of old) (Image (with_call old.made begun))
      → IsMemCall kind done begun old new result → StepsTo step (image_of old) (image_of new)
  step_of_images step done begun none ended tried is =
      of_made (λ (made : CallRecord). StepsTo step (image_of old) (Image made)) old.made new.made done begun (λ image was. (image, was, none image)) ended tried (made_is kind done begun old new result is)

-- what a call that was done leaves, and what one that failed does
pub on_done : {T : Type 0} (kind : DiskCall) (done begun : DiskStep) (old new : MemState) (result : Result T Failed) (P : CallRecord → Type 0)
    → IsMemCall kind done begun old new result → P (with_call old.made done) → OnOk result (P new.made)
on_done kind done begun old new (Ok value) P (listed, is) p = subst (λ (disk : MemState). P disk.made) (sym is) p
on_done kind done begun old new (Err failed) P is p = tt

pub on_failed : {T : Type 0} (kind : DiskCall) (done begun : DiskStep) (old new : MemState) (result : Result T Failed) (P : CallRecord → Type 0)
    → IsMemCall kind done begun old new result → P old.made → P (with_call old.made begun) → OnErr result (P new.made)
on_failed kind done begun old new (Ok value) P is same p = tt
on_failed kind done begun old new (Err failed) P (inl is) same p = subst (λ (disk : MemState). P disk.made) (sym is) same
on_failed kind done begun old new (Err failed) P (inr (listed, is)) same p = subst (λ (disk : MemState). P disk.made) (sym is) p
