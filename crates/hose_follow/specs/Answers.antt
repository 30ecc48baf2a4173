-- The texts of a follower's answers.
use Rattle.std.specs.Prelude.{◌≡◌, ◌⊎◌, ℕ, ◌+◌, ◌-◌, ◌^◌, ◌<◌, ◌≤◌, List, [], ◌∷◌, ◌++◌, codes, decimal, length, take, Option}
use Rattle.std.specs.List.{flat_map}
use Rattle.hex.specs.Hex.{encode_lower}
use Rattle.hose_io.specs.Stream.{Grows}
use Rattle.hose_follow.specs.declared.answers.Offered.{Offered}
use Rattle.hose_follow.specs.declared.answers.Offered.TheVariants.{Have, Want, Differs, Memory, Unsound, Disk}

-- the words of an answer
abbrev pub offered_text : Offered → List ℕ
offered_text (Have n) = codes "have " ++ decimal n
offered_text (Want n) = codes "want " ++ decimal n
offered_text (Differs at own given) = codes "differs at " ++ decimal at
    ++ codes " " ++ encode_lower own ++ codes " " ++ encode_lower given
offered_text Memory = codes "memory"
offered_text (Unsound epoch) = codes "unsound " ++ decimal epoch
offered_text (Disk at) = codes "disk at " ++ decimal at

-- the line of an answer
abbrev pub answer_line : Offered → List ℕ
answer_line answer = offered_text answer ++ 10 ∷ []

-- answers, a line each
abbrev pub offered_texts : List Offered → List ℕ
offered_texts answers = flat_map answer_line answers

-- the answers are out, but for a part of the last
abbrev pub CutsLastAnswer : Option (List ℕ) → Option (List ℕ) → List Offered → Type 0
CutsLastAnswer before after answers = (whole : List Offered) × (last : Offered) × (count : ℕ)
    × (answers ≡ whole ++ last ∷ []) × (count < length (answer_line last))
    × Grows before after (offered_texts whole ++ take count (answer_line last))

-- 1 for an answer that tells a failure of the disk
abbrev pub one_if_disk_failed : Offered → ℕ
one_if_disk_failed (Have n) = 0
one_if_disk_failed (Want n) = 0
one_if_disk_failed (Differs at own given) = 0
one_if_disk_failed Memory = 0
one_if_disk_failed (Unsound epoch) = 0
one_if_disk_failed (Disk at) = 1

-- how many answers tell a failure of the disk
abbrev pub disk_answers_in : List Offered → ℕ
disk_answers_in [] = 0
disk_answers_in (answer ∷ answers) = disk_answers_in answers + one_if_disk_failed answer

-- Failures of a disk were told at most as often as a count rose, or it stands at its type's end.
abbrev pub TellsDiskAnswers : ℕ → List Offered → ℕ → Type 0
TellsDiskAnswers before answers after =
    (before + disk_answers_in answers ≤ after) ⊎ (2 ^ 64 - 1 ≤ after)
