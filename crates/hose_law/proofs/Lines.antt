-- Lines and their replies that are steps: one more, and what all of them come to.
use Rattle.std.proofs.Common.{◌≡◌, List, [], ◌∷◌, ◌++◌, length, refl, sym, ap, subst, append-nil, append_assoc, suc}
use Rattle.hose_law.specs.Lines.{AreSteps}

module _ {L R S : Type 0} (Step : L → R → S → S → Type 0) where
  -- one step more
  pub steps_push : (lines : List L) (replies : List R) (first middle last : S) (line : L) (reply : R) → AreSteps Step lines replies first middle → Step line reply middle last → AreSteps Step (lines ++ line ∷ []) (replies ++ reply ∷ []) first last
  steps_push [] [] first middle last line reply steps step = (last, subst (λ (state : S). Step line reply state last) steps step, refl)
  steps_push (one ∷ lines) (answer ∷ replies) first middle last line reply steps step = (steps.0, steps.1, steps_push lines replies steps.0 middle last line reply steps.2 step)
  steps_push [] (answer ∷ replies) first middle last line reply steps step = absurd steps
  steps_push (one ∷ lines) [] first middle last line reply steps step = absurd steps

  -- each line has its reply
  pub steps_many : (lines : List L) (replies : List R) (first last : S) → AreSteps Step lines replies first last → length lines ≡ length replies
  steps_many [] [] first last steps = refl
  steps_many (line ∷ lines) (reply ∷ replies) first last steps = ap suc (steps_many lines replies steps.0 last steps.2)
  steps_many [] (reply ∷ replies) first last steps = absurd steps
  steps_many (line ∷ lines) [] first last steps = absurd steps

  -- what follows from each step makes steps of its own
  pub steps_weaker : (Other : L → R → S → S → Type 0) → ((line : L) (reply : R) (old new : S) → Step line reply old new → Other line reply old new) → (lines : List L) (replies : List R) (first last : S) → AreSteps Step lines replies first last → AreSteps Other lines replies first last
  steps_weaker Other follows [] [] first last steps = steps
  steps_weaker Other follows (line ∷ lines) (reply ∷ replies) first last steps = (steps.0, follows line reply first steps.0 steps.1, steps_weaker Other follows lines replies steps.0 last steps.2)
  steps_weaker Other follows [] (reply ∷ replies) first last steps = absurd steps
  steps_weaker Other follows (line ∷ lines) [] first last steps = absurd steps

  -- what holds of the lines so far and is kept by each step holds of all of them
  module _ (Holds : List L → S → Type 0) (keeps : (lines : List L) (line : L) (reply : R) (old new : S) → Step line reply old new → Holds lines old → Holds (lines ++ line ∷ []) new) where
    keep_on : (done lines : List L) (replies : List R) (first last : S) → AreSteps Step lines replies first last → Holds done first → Holds (done ++ lines) last
    keep_on done [] [] first last steps holds = subst (Holds (done ++ [])) (sym steps) (subst (λ (l : List L). Holds l first) (sym (append-nil done)) holds)
    keep_on done (line ∷ lines) (reply ∷ replies) first last steps holds =
        subst (λ (l : List L). Holds l last) (append_assoc done (line ∷ []) lines) (keep_on (done ++ line ∷ []) lines replies steps.0 last steps.2 (keeps done line reply first steps.0 steps.1 holds))
    keep_on done [] (reply ∷ replies) first last steps holds = absurd steps
    keep_on done (line ∷ lines) [] first last steps holds = absurd steps

    pub steps_keep : (lines : List L) (replies : List R) (first last : S) → AreSteps Step lines replies first last → Holds [] first → Holds lines last
    steps_keep lines replies first last steps holds = keep_on [] lines replies first last steps holds
