-- Words that are judged from the left.
use Rattle.std.proofs.Common.{◌≡◌, ◌∙◌, ℕ, ◌+◌, List, [], ◌∷◌, ◌++◌, length, inl, inr, refl, sym, subst}
use Rattle.hose_words.specs.steps.Grammar.{Grammar, IsFirstNotAllowed}
use Rattle.hose_words.specs.Words.{IsFirst}

-- the next word is not allowed, or missing
pub wrong_here : (grammar : Grammar) (before words : List (List ℕ)) → (IsFirst (grammar.may_follow before) words → ⊥) → (grammar.is_whole before → ⊥)
    → IsFirstNotAllowed grammar before words (length before + 1)
wrong_here grammar before [] none part = (part, refl)
wrong_here grammar before (word ∷ words) none part = inr (none, refl)

-- the next word is allowed, and a later one is not
pub wrong_later : (grammar : Grammar) (before words rest : List (List ℕ)) (word : List ℕ) (place : ℕ) → words ≡ word ∷ rest → grammar.may_follow before word
    → IsFirstNotAllowed grammar (before ++ word ∷ []) rest place → IsFirstNotAllowed grammar before words place
wrong_later grammar before words rest word place cut follows wrong = subst (λ w. IsFirstNotAllowed grammar before w place) (sym cut) (inl (follows, wrong))

-- the next word is allowed, so a later one is wrong
pub later : (grammar : Grammar) (before words : List (List ℕ)) (word : List ℕ) (place : ℕ) → IsFirstNotAllowed grammar before (word ∷ words) place → grammar.may_follow before word
    → IsFirstNotAllowed grammar (before ++ word ∷ []) words place
later grammar before words word place (inl wrong) follows = wrong.1
later grammar before words word place (inr wrong) follows = absurd (wrong.0 follows)

-- a line has one first word that is not allowed
pub place_unique : (grammar : Grammar) (before words : List (List ℕ)) (one other : ℕ) → IsFirstNotAllowed grammar before words one → IsFirstNotAllowed grammar before words other → one ≡ other
place_unique grammar before [] one other wrong wrong' = wrong.1 ∙ sym wrong'.1
place_unique grammar before (word ∷ words) one other (inl wrong) (inl wrong') = place_unique grammar (before ++ word ∷ []) words one other wrong.1 wrong'.1
place_unique grammar before (word ∷ words) one other (inl wrong) (inr wrong') = absurd (wrong'.0 wrong.0)
place_unique grammar before (word ∷ words) one other (inr wrong) (inl wrong') = absurd (wrong.0 wrong'.0)
place_unique grammar before (word ∷ words) one other (inr wrong) (inr wrong') = wrong.1 ∙ sym wrong'.1
