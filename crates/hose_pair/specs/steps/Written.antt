-- Answers of a follower, as they are written.
use Rattle.std.specs.Prelude.{◌≡◌, ℕ, ◌<◌, ◌^◌, List, length, All, ⊤}
use Rattle.hose_follow.specs.Layout.{value_bytes}
use Rattle.hose_follow.specs.declared.answers.Offered.{Offered}
use Rattle.hose_follow.specs.declared.answers.Offered.TheVariants.{Have, Want, Differs, Memory, Unsound, Disk}

-- as many bytes as a chain value has
abbrev pub IsValue : List ℕ → Type 0
IsValue value = (length value ≡ value_bytes) × All (λ byte. byte < 256) value

-- the numbers and chain values of an answer are those that their types have
abbrev pub IsWritten : Offered → Type 0
IsWritten (Have n) = n < 2 ^ 64
IsWritten (Want n) = n < 2 ^ 64
IsWritten (Differs at own given) = (at < 2 ^ 64) × IsValue own × IsValue given
IsWritten Memory = ⊤
IsWritten (Unsound epoch) = epoch < 2 ^ 64
IsWritten (Disk at) = at < 2 ^ 64
