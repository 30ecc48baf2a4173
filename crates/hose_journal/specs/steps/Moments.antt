-- What a run of calls on a disk leaves at each of its moments: steps of proofs.
use Rattle.std.specs.Prelude.{◌≡◌, ℕ, List, Some}
use Rattle.hose_disk.specs.steps.Disk.{Torn}
use Rattle.hose_disk.specs.steps.Images.{overwritten}
use Rattle.hose_disk.specs.declared.disk.Disk.{Ghosts}
use Rattle.hose_journal.specs.Moments.{Images}

-- an image of before, with a write begun
abbrev pub IsTornFrom : {D : Type 0} → Ghosts D → D → ℕ → ℕ → List ℕ → Type 0
IsTornFrom disk old at count image =
    (was : List ℕ) × disk.may_leave old was × Torn at count was image

-- each image now is one of before with these bytes at this place
abbrev pub Lands : {D : Type 0} → Ghosts D → D → D → ℕ → List ℕ → Type 0
Lands disk old new at bytes = (image : List ℕ) → disk.may_leave new image →
    (was : List ℕ) × disk.may_leave old was × (image ≡ overwritten at bytes was)

-- a stop leaves what is read and nothing else
abbrev pub ReadsItsImages : {D : Type 0} → Ghosts D → D → Type 0
ReadsItsImages disk now = Images disk now (λ image. disk.content now ≡ Some image)
