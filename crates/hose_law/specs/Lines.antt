-- Lines and their replies, one after the other.
use Rattle.std.specs.Prelude.{◌≡◌, List, [], ◌∷◌}

-- Lines and their replies lead from a first state to a last one: each line with its reply is a step
-- from the state to which those before it lead.
abbrev pub AreSteps : {L R S : Type 0} → (L → R → S → S → Type 0) → List L → List R → S → S
    → Type 0
AreSteps Step [] [] first last = last ≡ first
AreSteps {L} {R} {S} Step (line ∷ lines) (reply ∷ replies) first last =
    (next : S) × Step line reply first next × AreSteps Step lines replies next last
AreSteps Step [] (reply ∷ replies) first last = ⊥
AreSteps Step (line ∷ lines) [] first last = ⊥
