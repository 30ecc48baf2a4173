-- Which image is picked after a row of calls.
use Rattle.std.specs.Prelude.{ℕ, ◌+◌, List, [], ◌∷◌, ◌++◌, length, take, drop, replicate}
use Rattle.hose_disk.specs.steps.Images.{DiskStep, idle, wrote, tried_write, cut_to, tried_cut, synced, read_after, read_of}
use Rattle.hose_disk.specs.declared.recording.Pick.{Pick}
use Rattle.hose_disk.specs.declared.recording.Pick.TheVariants.{Kept, Lost, Fill}

-- one byte all over a range
abbrev pub filled : ℕ → ℕ → ℕ → List ℕ → List ℕ
filled at count byte old = take at old ++ replicate count byte ++ drop (at + count) old

-- the picked image after a call, by what a read gave and the image that was picked before it
abbrev pub pick_after : Pick → DiskStep → List ℕ → List ℕ → List ℕ
pick_after Kept call reads image = read_after call image
pick_after Lost synced reads image = reads
pick_after Lost idle reads image = image
pick_after Lost (wrote at bytes) reads image = image
pick_after Lost (tried_write at count) reads image = image
pick_after Lost (cut_to len) reads image = image
pick_after Lost (tried_cut len) reads image = image
pick_after (Fill byte) synced reads image = reads
pick_after (Fill byte) idle reads image = image
pick_after (Fill byte) (wrote at bytes) reads image = filled at (length bytes) byte image
pick_after (Fill byte) (tried_write at count) reads image = filled at count byte image
pick_after (Fill byte) (cut_to len) reads image = image
pick_after (Fill byte) (tried_cut len) reads image = image

-- the picked image after these calls
abbrev pub picked : Pick → List ℕ → List DiskStep → List ℕ
picked pick first [] = first
picked pick first (call ∷ earlier) =
    pick_after pick call (read_of first earlier) (picked pick first earlier)
