-- How the images of a disk in memory change at its calls.
use Rattle.std.proofs.Common.{◌≡◌, ◌⊎◌, inl, inr, ℕ, zero, suc, ◌-◌, ◌+◌, ◌≤◌, min, List, [], ◌∷◌, ◌++◌, length, take, drop, refl, sym, ◌∙◌, ap, subst, arith, length-append, length-drop, append_assoc}
use Rattle.std.proofs.lemmas.List.{take_at, drop_at, take_all, length-take, length-take-le}
use Rattle.hose_disk.specs.Disk.{NoneNew}
use Rattle.hose_disk.specs.steps.Disk.{Torn, IsCut, StepsTo, Only, Elapses}
use Rattle.hose_disk.specs.steps.Images.{DiskStep, idle, wrote, tried_write, cut_to, tried_cut, synced, overwritten, read_of, IsImage, LeftSince}

-- nothing of it was done
pub torn_same : (at count : ℕ) (old : List ℕ) → Torn at count old old
torn_same at count old = record { front = refl; after = refl; no_shorter = omega arith; no_longer = omega arith }

pub cut_same : (len : ℕ) (old : List ℕ) → IsCut len old old
cut_same len old = record { no_shorter = omega arith; front = take_all (length old) old (omega arith) }

-- all of it was done
take-min : (len : ℕ) (old : List ℕ) → take (min len (length old)) old ≡ take len old
take-min len [] = take_all _ [] (omega arith) ∙ sym (take_all len [] (omega arith))
take-min zero (x ∷ old) = let is : min zero (suc (length old)) ≡ zero = omega arith in ap (λ (k : ℕ). take k (x ∷ old)) is
take-min (suc len) (x ∷ old) =
    let is : min (suc len) (suc (length old)) ≡ suc (min len (length old)) = omega arith in
    ap (λ (k : ℕ). take k (x ∷ old)) is ∙ ap (λ (l : List ℕ). x ∷ l) (take-min len old)

pub cut_done : (len : ℕ) (old : List ℕ) → IsCut len old (take len old)
cut_done len old = record {
  no_shorter = omega (arith, length-take len old);
  front = ap (λ (k : ℕ). take k old) (length-take len old) ∙ take-min len old;
}

pub length-overwritten : (at : ℕ) (bytes old : List ℕ) → length (overwritten at bytes old) ≡ min at (length old) + length bytes + (length old - (at + length bytes))
length-overwritten at bytes old =
    omega (arith, length-take at old, length-append (take at old) bytes, length-append (take at old ++ bytes) (drop (at + length bytes) old), length-drop (at + length bytes) old)

pub torn_done : (at : ℕ) (bytes old : List ℕ) → at ≤ length old → Torn at (length bytes) old (overwritten at bytes old)
torn_done at bytes old within = record {
  front =
      ap (λ (l : List ℕ). take at l) (append_assoc (take at old) bytes (drop (at + length bytes) old))
      ∙ take_at (take at old) (bytes ++ drop (at + length bytes) old) at (length-take-le at old within);
  after =
      drop_at (take at old ++ bytes) (drop (at + length bytes) old) (at + length bytes) (omega (arith, within, length-take at old, length-append (take at old) bytes));
  no_shorter = omega (arith, length-overwritten at bytes old);
  no_longer = omega (arith, within, length-overwritten at bytes old);
}

module _ (first : List ℕ) (calls : List DiskStep) where
  -- one call more
  pub elapses : (call : DiskStep) → Elapses (length calls) (length (call ∷ calls)) (LeftSince first calls) (LeftSince first (call ∷ calls)) (IsImage first (call ∷ calls))
  elapses call = record { later = omega arith; nothing_else = else_; keeps = kept }
    where
      else_ : (t : ℕ) (image : List ℕ) → t ≤ length calls → LeftSince first (call ∷ calls) t image → LeftSince first calls t image ⊎ IsImage first (call ∷ calls) image
      else_ t image le (inl now) = inr now
      else_ t image le (inr (inl was)) = inl (inl was.1)
      else_ t image le (inr (inr before)) = inl (inr before)

      kept : (t : ℕ) (image : List ℕ) → t ≤ length calls → LeftSince first calls t image → LeftSince first (call ∷ calls) t image
      kept t image le (inl now) = inr (inl (le, now))
      kept t image le (inr was) = inr (inr was)

  -- no call more
  pub elapses_same : Elapses (length calls) (length calls) (LeftSince first calls) (LeftSince first calls) (IsImage first calls)
  elapses_same = record { later = omega arith; nothing_else = λ t image le left. inl left; keeps = λ t image le left. left }

  pub steps_write : (at : ℕ) (bytes : List ℕ) → at ≤ length (read_of first calls) → StepsTo (Torn at (length bytes)) (IsImage first calls) (IsImage first (wrote at bytes ∷ calls))
  steps_write at bytes within image (inl now) =
      (read_of first calls, inl refl, subst (λ (l : List ℕ). Torn at (length bytes) (read_of first calls) l) (sym now) (torn_done at bytes (read_of first calls) within))
  steps_write at bytes within image (inr torn) = (torn.0, inr torn.1, torn.2)

  pub steps_tried_write : (at count : ℕ) → StepsTo (Torn at count) (IsImage first calls) (IsImage first (tried_write at count ∷ calls))
  steps_tried_write at count image (inl now) = (image, inl now, torn_same at count image)
  steps_tried_write at count image (inr torn) = (torn.0, inr torn.1, torn.2)

  pub steps_cut : (len : ℕ) → StepsTo (IsCut len) (IsImage first calls) (IsImage first (cut_to len ∷ calls))
  steps_cut len image (inl now) =
      (read_of first calls, inl refl, subst (λ (l : List ℕ). IsCut len (read_of first calls) l) (sym now) (cut_done len (read_of first calls)))
  steps_cut len image (inr cut) = (cut.0, inr cut.1, cut.2)

  pub steps_tried_cut : (len : ℕ) → StepsTo (IsCut len) (IsImage first calls) (IsImage first (tried_cut len ∷ calls))
  steps_tried_cut len image (inl now) = (image, inl now, cut_same len image)
  steps_tried_cut len image (inr cut) = (cut.0, inr cut.1, cut.2)

  pub only_synced : Only (read_of first calls) (IsImage first (synced ∷ calls))
  only_synced image (inl now) = now
  only_synced image (inr now) = now

  pub none_new_synced : NoneNew (IsImage first calls) (IsImage first (synced ∷ calls))
  none_new_synced image is = inl (only_synced image is)

  pub none_new_idle : NoneNew (IsImage first calls) (IsImage first (idle ∷ calls))
  none_new_idle image is = is
