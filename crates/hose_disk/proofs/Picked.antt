-- Each picked image is one that a stop may leave.
use Rattle.std.proofs.Common.{◌≡◌, ◌⊎◌, inl, inr, ℕ, zero, suc, ◌+◌, ◌-◌, ◌<◌, ◌≤◌, ◌^◌, min, List, [], ◌∷◌, ◌++◌, length, take, drop, replicate, map, reverse, refl, sym, ◌∙◌, ap, subst, arith, length-append}
use Rattle.std.proofs.lemmas.List.{length-replicate, length-take, reverse-append, map-append, length-reverse, length-map, length-drop, take-append-drop, drop_at}
use Rattle.std.proofs.lemmas.Bool.{cases_lt}
use native.Mathlib.Nat.{le_trans}
use Rattle.hose_disk.specs.steps.Disk.{Torn}
use Rattle.hose_disk.specs.steps.Images.{DiskStep, idle, wrote, tried_write, cut_to, tried_cut, synced, read_after, read_of, AreInRange, CallsMake, IsImage, WasImage, LeftSince, calls_at}
use Rattle.hose_disk.specs.steps.Picks.{filled, picked}
use Rattle.hose_disk.specs.steps.Recording.{CallRecord, step_of, steps_of}
use Rattle.hose_disk.specs.declared.recording.Pick.{Pick}
use Rattle.hose_disk.specs.declared.recording.Pick.TheVariants.{Kept, Lost, Fill}
use Rattle.hose_disk.specs.declared.recording.Recorded.{Recorded}
use Rattle.hose_disk.proofs.Images.{torn_same, torn_done, cut_same, length-overwritten}

length-filled : (at n byte : ℕ) (old : List ℕ) → length (filled at n byte old) ≡ min at (length old) + n + (length old - (at + n))
length-filled at n byte old = omega (arith, length-take at old, length-replicate n byte, length-append (take at old) (replicate n byte), length-append (take at old ++ replicate n byte) (drop (at + n) old), length-drop (at + n) old)

-- a write of one value all over a range
torn_filled : (at n byte : ℕ) (old : List ℕ) → at ≤ length old → Torn at n old (filled at n byte old)
torn_filled at n byte old within =
    subst (λ (m : ℕ). Torn at m old (take at old ++ replicate n byte ++ drop (at + m) old)) (length-replicate n byte) (torn_done at (replicate n byte) old within)

-- the filled image is never shorter than what a read gives
no_shorter : (byte : ℕ) (first : List ℕ) (calls : List DiskStep) → AreInRange first calls → length (read_of first calls) ≤ length (picked (Fill byte) first calls)
no_shorter byte first [] fits = omega arith
no_shorter byte first (wrote at bytes ∷ earlier) (within, small, fits) =
    omega (arith, within, no_shorter byte first earlier fits, length-overwritten at bytes (read_of first earlier), length-filled at (length bytes) byte (picked (Fill byte) first earlier))
no_shorter byte first (tried_write at n ∷ earlier) (within, small, fits) =
    omega (arith, within, no_shorter byte first earlier fits, length-filled at n byte (picked (Fill byte) first earlier))
no_shorter byte first (cut_to n ∷ earlier) fits = omega (arith, no_shorter byte first earlier fits, length-take n (read_of first earlier))
no_shorter byte first (synced ∷ earlier) fits = omega arith
no_shorter byte first (other ∷ earlier) fits = no_shorter byte first earlier fits

-- what a read would have given
kept_is : (first : List ℕ) (calls : List DiskStep) → picked Kept first calls ≡ read_of first calls
kept_is first [] = refl
kept_is first (call ∷ earlier) = ap (λ (l : List ℕ). read_after call l) (kept_is first earlier)

-- nothing of the calls since the last sync was done
lost_reached : (first : List ℕ) (calls : List DiskStep) → CallsMake first calls (picked Lost first calls)
lost_reached first [] = refl
lost_reached first (idle ∷ earlier) = lost_reached first earlier
lost_reached first (wrote at bytes ∷ earlier) = (picked Lost first earlier, lost_reached first earlier, torn_same at (length bytes) (picked Lost first earlier))
lost_reached first (tried_write at n ∷ earlier) = (picked Lost first earlier, lost_reached first earlier, torn_same at n (picked Lost first earlier))
lost_reached first (cut_to n ∷ earlier) = (picked Lost first earlier, lost_reached first earlier, cut_same n (picked Lost first earlier))
lost_reached first (tried_cut n ∷ earlier) = (picked Lost first earlier, lost_reached first earlier, cut_same n (picked Lost first earlier))
lost_reached first (synced ∷ earlier) = refl

-- each write was begun, and no cut
fill_reached : (byte : ℕ) (first : List ℕ) (calls : List DiskStep) → AreInRange first calls → CallsMake first calls (picked (Fill byte) first calls)
fill_reached byte first [] fits = refl
fill_reached byte first (idle ∷ earlier) fits = fill_reached byte first earlier fits
fill_reached byte first (wrote at bytes ∷ earlier) (within, small, fits) = (picked (Fill byte) first earlier, fill_reached byte first earlier fits, torn_filled at (length bytes) byte (picked (Fill byte) first earlier) (le_trans within (no_shorter byte first earlier fits)))
fill_reached byte first (tried_write at n ∷ earlier) (within, small, fits) = (picked (Fill byte) first earlier, fill_reached byte first earlier fits, torn_filled at n byte (picked (Fill byte) first earlier) (le_trans within (no_shorter byte first earlier fits)))
fill_reached byte first (cut_to n ∷ earlier) fits = (picked (Fill byte) first earlier, fill_reached byte first earlier fits, cut_same n (picked (Fill byte) first earlier))
fill_reached byte first (tried_cut n ∷ earlier) fits = (picked (Fill byte) first earlier, fill_reached byte first earlier fits, cut_same n (picked (Fill byte) first earlier))
fill_reached byte first (synced ∷ earlier) fits = refl

pub picked_image : (pick : Pick) (first : List ℕ) (calls : List DiskStep) → AreInRange first calls → IsImage first calls (picked pick first calls)
picked_image Kept first calls fits = inl (kept_is first calls)
picked_image Lost first calls fits = inr (lost_reached first calls)
picked_image (Fill byte) first calls fits = inr (fill_reached byte first calls fits)

-- one recorded call more
pub steps_push : (calls : List Recorded) (call : Recorded) → steps_of (calls ++ call ∷ []) ≡ step_of call ∷ steps_of calls
steps_push calls call = ap reverse (map-append step_of calls (call ∷ [])) ∙ reverse-append (map step_of calls) (step_of call ∷ [])

-- the first recorded calls are those that were done at a moment
pub steps_at : (calls : List Recorded) (k : ℕ) → k ≤ length calls → steps_of (take k calls) ≡ calls_at (steps_of calls) k
steps_at calls k le =
    let parts : steps_of calls ≡ steps_of (drop k calls) ++ steps_of (take k calls) =
    ap steps_of (sym (take-append-drop k calls)) ∙ ap reverse (map-append step_of (take k calls) (drop k calls)) ∙ reverse-append (map step_of (take k calls)) (map step_of (drop k calls)) in
    let size : length (steps_of (drop k calls)) ≡ length (steps_of calls) - k =
    length-reverse (map step_of (drop k calls)) ∙ length-map (drop k calls) step_of ∙ length-drop k calls ∙ ap (λ (n : ℕ). n - k) (sym (length-reverse (map step_of calls) ∙ length-map calls step_of)) in
    sym (ap (λ (l : List DiskStep). drop (length (steps_of calls) - k) l) parts ∙ drop_at (steps_of (drop k calls)) (steps_of (take k calls)) (length (steps_of calls) - k) size)

-- what was an image at a moment might have been left since each earlier one
pub was_at : (first : List ℕ) (calls : List DiskStep) (k t : ℕ) (c : List ℕ) → k ≤ length calls → t ≤ k → IsImage first (calls_at calls k) c → LeftSince first calls t c
was_at first [] k t c le from image =
    let none : 0 - k ≡ zero = omega arith in
    inl (subst (λ (n : ℕ). IsImage first (drop {A = DiskStep} n []) c) none image)
was_at first (call ∷ earlier) k t c le from image = elim (cases_lt (length earlier) k) [
  | inl last ↦
      let none : suc (length earlier) - k ≡ zero = omega (arith, last) in
      inl (subst (λ (n : ℕ). IsImage first (drop n (call ∷ earlier)) c) none image)
  | inr before ↦
      let more : suc (length earlier) - k ≡ suc (length earlier - k) = omega (arith, before) in
      inr (behind before (was_at first earlier k t c before from (subst (λ (n : ℕ). IsImage first (drop n (call ∷ earlier)) c) more image)))
]
  where
    behind : k ≤ length earlier → LeftSince first earlier t c → ((t ≤ length earlier) × IsImage first earlier c) ⊎ WasImage first earlier t c
    behind within (inl now) = inl (omega (arith, within, from), now)
    behind within (inr was) = inr was

-- so is the image of a record, as contracts see it
pub picked_from : (pick : Pick) (first image : List ℕ) (calls : List Recorded) (value : CallRecord) (k : ℕ) → record { first = first; calls = steps_of calls } ≡ value → k ≤ length value.calls
    → image ≡ picked pick first (steps_of (take k calls)) → image ≡ picked pick value.first (calls_at value.calls k)
picked_from pick first image calls value k view le is =
    let here : length value.calls ≡ length calls = ap (λ (v : CallRecord). length v.calls) (sym view) ∙ length-reverse (map step_of calls) ∙ length-map calls step_of in
    is ∙ ap (picked pick first) (steps_at calls k (omega (arith, le, here))) ∙ ap (λ (v : CallRecord). picked pick v.first (calls_at v.calls k)) view

-- what holds after a call held before it
fits_earlier : (first : List ℕ) (call : DiskStep) (earlier : List DiskStep) → AreInRange first (call ∷ earlier) → AreInRange first earlier
fits_earlier first (wrote at bytes) earlier fits = fits.2
fits_earlier first (tried_write at n) earlier fits = fits.2
fits_earlier first other earlier fits = fits

pub fits_drop : (first : List ℕ) (n : ℕ) (calls : List DiskStep) → AreInRange first calls → AreInRange first (drop n calls)
fits_drop first zero calls fits = fits
fits_drop first (suc n) [] fits = fits
fits_drop first (suc n) (call ∷ earlier) fits = fits_drop first n earlier (fits_earlier first call earlier fits)

pub fits_from : (first : List ℕ) (calls : List Recorded) (value : CallRecord) (k : ℕ) → record { first = first; calls = steps_of calls } ≡ value → AreInRange first (steps_of calls) → AreInRange value.first (calls_at value.calls k)
fits_from first calls value k view fits =
    subst (λ (v : CallRecord). AreInRange v.first (calls_at v.calls k)) view (fits_drop first (length (steps_of calls) - k) (steps_of calls) fits)

-- a disk stays below the greatest length
read_small : (first : List ℕ) (calls : List DiskStep) → AreInRange first calls → length (read_of first calls) < 2 ^ 62
read_small first [] fits = fits
read_small first (wrote at bytes ∷ earlier) (within, small, fits) = omega (arith, within, small, read_small first earlier fits, length-overwritten at bytes (read_of first earlier))
read_small first (tried_write at n ∷ earlier) (within, small, fits) = read_small first earlier fits
read_small first (cut_to n ∷ earlier) fits = omega (arith, read_small first earlier fits, length-take n (read_of first earlier))
read_small first (other ∷ earlier) fits = read_small first earlier fits

lost_small : (first : List ℕ) (calls : List DiskStep) → AreInRange first calls → length (picked Lost first calls) < 2 ^ 62
lost_small first [] fits = fits
lost_small first (wrote at bytes ∷ earlier) (within, small, fits) = lost_small first earlier fits
lost_small first (tried_write at n ∷ earlier) (within, small, fits) = lost_small first earlier fits
lost_small first (synced ∷ earlier) fits = read_small first earlier fits
lost_small first (other ∷ earlier) fits = lost_small first earlier fits

fill_small : (byte : ℕ) (first : List ℕ) (calls : List DiskStep) → AreInRange first calls → length (picked (Fill byte) first calls) < 2 ^ 62
fill_small byte first [] fits = fits
fill_small byte first (wrote at bytes ∷ earlier) (within, small, fits) = omega (arith, small, fill_small byte first earlier fits, length-filled at (length bytes) byte (picked (Fill byte) first earlier))
fill_small byte first (tried_write at n ∷ earlier) (within, small, fits) = omega (arith, small, fill_small byte first earlier fits, length-filled at n byte (picked (Fill byte) first earlier))
fill_small byte first (synced ∷ earlier) fits = read_small first earlier fits
fill_small byte first (other ∷ earlier) fits = fill_small byte first earlier fits

pub picked_small : (pick : Pick) (first : List ℕ) (calls : List DiskStep) → AreInRange first calls → length (picked pick first calls) < 2 ^ 62
picked_small Kept first calls fits = omega (arith, read_small first calls fits, ap length (kept_is first calls))
picked_small Lost first calls fits = lost_small first calls fits
picked_small (Fill byte) first calls fits = fill_small byte first calls fits
