-- What a disk holds after a row of calls, and the images that a stop may leave at each moment. In a
-- list of calls the newest stands first; the moment is how many there are.
use Rattle.std.specs.Prelude.{◌≡◌, ◌⊎◌, ℕ, ◌+◌, ◌-◌, ◌^◌, ◌<◌, ◌≤◌, List, [], ◌∷◌, ◌++◌, length, take, drop}
use mathlib.Core.Logic.{inl, inr}
use native.Mathlib.Nat.{le_refl, le_of_lt, not-le_of_lt}
use Rattle.hose_disk.specs.steps.Disk.{Torn, IsCut}

-- a call, as far as it changes what a read gives or what a stop may leave
pub data DiskStep : Type 0 where
  idle : DiskStep
  wrote : ℕ → List ℕ → DiskStep
  tried_write : ℕ → ℕ → DiskStep
  cut_to : ℕ → DiskStep
  tried_cut : ℕ → DiskStep
  synced : DiskStep

-- these bytes at a place
abbrev pub overwritten : ℕ → List ℕ → List ℕ → List ℕ
overwritten at bytes old = take at old ++ bytes ++ drop (at + length bytes) old

-- what a read gives after a call
abbrev pub read_after : DiskStep → List ℕ → List ℕ
read_after idle old = old
read_after (wrote at bytes) old = overwritten at bytes old
read_after (tried_write at count) old = old
read_after (cut_to len) old = take len old
read_after (tried_cut len) old = old
read_after synced old = old

-- what a read gives after these calls
abbrev pub read_of : List ℕ → List DiskStep → List ℕ
read_of first [] = first
read_of first (call ∷ earlier) = read_after call (read_of first earlier)

-- Each write began within what a read gave, and ended below the greatest length.
abbrev pub AreInRange : List ℕ → List DiskStep → Type 0
AreInRange first [] = length first < 2 ^ 62
AreInRange first (idle ∷ earlier) = AreInRange first earlier
AreInRange first (wrote at bytes ∷ earlier) =
    (at ≤ length (read_of first earlier)) × (at + length bytes < 2 ^ 62) × AreInRange first earlier
AreInRange first (tried_write at count ∷ earlier) =
    (at ≤ length (read_of first earlier)) × (at + count < 2 ^ 62) × AreInRange first earlier
AreInRange first (cut_to len ∷ earlier) = AreInRange first earlier
AreInRange first (tried_cut len ∷ earlier) = AreInRange first earlier
AreInRange first (synced ∷ earlier) = AreInRange first earlier

-- what a stop may leave after a call, by what a read gave and what a stop might have left before it
abbrev pub Leaves : DiskStep → List ℕ → (List ℕ → Type 0) → List ℕ → Type 0
Leaves idle reads was image = was image
Leaves (wrote at bytes) reads was image =
    (old : List ℕ) × was old × Torn at (length bytes) old image
Leaves (tried_write at count) reads was image = (old : List ℕ) × was old × Torn at count old image
Leaves (cut_to len) reads was image = (old : List ℕ) × was old × IsCut len old image
Leaves (tried_cut len) reads was image = (old : List ℕ) × was old × IsCut len old image
Leaves synced reads was image = image ≡ reads

-- what the calls make of the first content, each begun or done
abbrev pub CallsMake : List ℕ → List DiskStep → List ℕ → Type 0
CallsMake first [] image = image ≡ first
CallsMake first (call ∷ earlier) image =
    Leaves call (read_of first earlier) (CallsMake first earlier) image

-- the images now: what a read gives, and what the calls reach
abbrev pub IsImage : List ℕ → List DiskStep → List ℕ → Type 0
IsImage first calls image = (image ≡ read_of first calls) ⊎ CallsMake first calls image

-- an image at a moment before the last call, and from t on
abbrev pub WasImage : List ℕ → List DiskStep → ℕ → List ℕ → Type 0
WasImage first [] t image = ⊥
WasImage first (call ∷ earlier) t image =
    ((t ≤ length earlier) × IsImage first earlier image) ⊎ WasImage first earlier t image

-- an image at some moment from t on
abbrev pub LeftSince : List ℕ → List DiskStep → ℕ → List ℕ → Type 0
LeftSince first calls t image = IsImage first calls image ⊎ WasImage first calls t image

-- the calls that were done at a moment
abbrev pub calls_at : List DiskStep → ℕ → List DiskStep
calls_at calls moment = drop (length calls - moment) calls

-- no call is later than the last
none_later : (first : List ℕ) (calls : List DiskStep) (t : ℕ) (image : List ℕ) → length calls ≤ t →
    ¬ WasImage first calls t image
none_later first [] t image le was = was
none_later first (call ∷ earlier) t image le (inl here) = not-le_of_lt le here.0
none_later first (call ∷ earlier) t image le (inr before) =
    none_later first earlier t image (le_of_lt le) before

-- since this moment there is what there is now
pub only_now : (first : List ℕ) (calls : List DiskStep) (image : List ℕ) →
    LeftSince first calls (length calls) image → IsImage first calls image
only_now first calls image (inl now) = now
only_now first calls image (inr was) =
    absurd (none_later first calls (length calls) image (le_refl _) was)
