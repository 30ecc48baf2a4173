-- Words that a form takes one after the other: which of them is the first that is not allowed.
use Rattle.std.proofs.Common.{◌≡◌, ◌∙◌, ℕ, ◌+◌, List, [], ◌∷◌, ◌++◌, length, inl, inr, refl, sym, ap, subst, arith, append_assoc, length-append}
use Rattle.hose_words.specs.steps.Grammar.{Grammar, IsFirstNotAllowed}
use Rattle.hose_words.specs.Words.{IsFirst, IsChoice}
use Rattle.hose_words.specs.steps.Form.{Form, anything, place, branch, maybe, Follows, IsWhole, grammar_of}
use Rattle.hose_words.specs.steps.Cursor.{Position, Took, TookAll, Misses, IsWrong}
use Rattle.hose_words.proofs.Judging.{wrong_here}

-- ---- one grammar after some words of another

-- after these words the one grammar takes what the other takes from the start
pub record GoesOnAs (grammar : Grammar) (front : List (List ℕ)) (rest : Grammar) : Type 0 where
  pub follow : (before : List (List ℕ)) (word : List ℕ) → grammar.may_follow (front ++ before) word → rest.may_follow before word
  pub follow_back : (before : List (List ℕ)) (word : List ℕ) → rest.may_follow before word → grammar.may_follow (front ++ before) word
  pub whole : (before : List (List ℕ)) → grammar.is_whole (front ++ before) → rest.is_whole before
  pub whole_back : (before : List (List ℕ)) → rest.is_whole before → grammar.is_whole (front ++ before)

-- what is wrong of the words to come is so after the front
pub wrong_front : (grammar rest : Grammar) (front before words : List (List ℕ)) (number : ℕ) → GoesOnAs grammar front rest → IsFirstNotAllowed rest before words number
    → IsFirstNotAllowed grammar (front ++ before) words (length front + number)
wrong_front grammar rest front before [] number on wrong = (λ is. wrong.0 (on.whole before is), omega (arith, wrong.1, length-append front before))
wrong_front grammar rest front before (word ∷ words) number on (inl (follows, wrong)) =
    inl (
      on.follow_back before word follows,
      subst (λ w. IsFirstNotAllowed grammar w words (length front + number)) (sym (append_assoc front before (word ∷ [])))
          (wrong_front grammar rest front (before ++ word ∷ []) words number on wrong),
    )
wrong_front grammar rest front before (word ∷ words) number on (inr (none, at)) =
    inr (λ follows. none (on.follow before word follows), omega (arith, at, length-append front before))

-- and the other way round
pub front_wrong : (grammar rest : Grammar) (front before words : List (List ℕ)) (number : ℕ) → GoesOnAs grammar front rest → IsFirstNotAllowed grammar (front ++ before) words number
    → (place : ℕ) × (number ≡ length front + place) × IsFirstNotAllowed rest before words place
front_wrong grammar rest front before [] number on wrong =
    (length before + 1, omega (arith, wrong.1, length-append front before), (λ is. wrong.0 (on.whole_back before is), refl))
front_wrong grammar rest front before (word ∷ words) number on (inl (follows, wrong)) =
    let more = front_wrong grammar rest front (before ++ word ∷ []) words number on (subst (λ w. IsFirstNotAllowed grammar w words number) (append_assoc front before (word ∷ [])) wrong) in
    (more.0, more.1, inl (on.follow before word follows, more.2))
front_wrong grammar rest front before (word ∷ words) number on (inr (none, at)) =
    (length before + 1, omega (arith, at, length-append front before), inr (λ follows. none (on.follow_back before word follows), refl))

-- ---- the words of forms

pub after_place : (passes : List ℕ → Type 0) (form : Form) (word : List ℕ) → GoesOnAs (grammar_of (place passes form)) (word ∷ []) (grammar_of form)
after_place passes form word = record {
  follow = λ before word follows. follows;
  follow_back = λ before word follows. follows;
  whole = λ before is. is;
  whole_back = λ before is. is;
}

-- each choice that there is has a word of its own
pub record AreApart {A : Type 0} (is : A → Type 0) (word_of : A → List ℕ) : Type 0 where
  pub apart : (one other : A) → is one → is other → word_of one ≡ word_of other → one ≡ other

-- so it is where each is found again by its word
pub apart_by : {A : Type 0} {is : A → Type 0} {word_of : A → List ℕ} (back : List ℕ → A) → ((choice : A) → is choice → back (word_of choice) ≡ choice) → AreApart is word_of
apart_by back found = record { apart = λ one other there too same. sym (found one there) ∙ ap back same ∙ found other too }

pub after_branch : {A : Type 0} (is : A → Type 0) (word_of : A → List ℕ) (forms : A → Form) (choice : A) → is choice → AreApart is word_of
    → GoesOnAs (grammar_of (branch is word_of forms)) (word_of choice ∷ []) (grammar_of (forms choice))
after_branch is word_of forms choice there are = record {
  follow = λ before word follows. subst (λ c. Follows (forms c) before word) (sym (are.apart choice follows.0 there follows.1 follows.2)) follows.3;
  follow_back = λ before word follows. (choice, there, refl, follows);
  whole = λ before whole. subst (λ c. IsWhole (forms c) before) (sym (are.apart choice whole.0 there whole.1 whole.2)) whole.3;
  whole_back = λ before whole. (choice, there, refl, whole);
}

-- ---- what is wrong

-- the first word may not stand at the start of a form, or is missing
wrong_first : (form : Form) {old : Position} {number : ℕ} → Misses (Follows form []) old number → ¬ IsWhole form [] → IsWrong form old number
wrong_first form {old} {number} misses some = record {
  place = 1;
  at = misses.at;
  wrong = wrong_here (grammar_of form) [] old.left misses.none some;
}

-- the first word may stand there, and what is wrong comes after it
wrong_behind : (form rest : Form) (old new : Position) (word : List ℕ) (number : ℕ) → Took old new word → Follows form [] word → GoesOnAs (grammar_of form) (word ∷ []) (grammar_of rest)
    → IsWrong rest new number → IsWrong form old number
wrong_behind form rest old new word number took follows on wrong = record {
  place = 1 + wrong.place;
  at = omega (arith, wrong.at, took.counted);
  wrong = subst (λ w. IsFirstNotAllowed (grammar_of form) [] w (1 + wrong.place)) (sym took.cut)
      (inl (follows, wrong_front (grammar_of form) (grammar_of rest) (word ∷ []) [] new.left wrong.place on wrong.wrong));
}

-- the next word does not pass
pub wrong_place : {passes : List ℕ → Type 0} {form : Form} {old : Position} {number : ℕ} → Misses passes old number → IsWrong (place passes form) old number
wrong_place {passes} {form} misses = wrong_first (place passes form) misses (λ whole. whole)

-- the next word passes, and a later one is wrong
pub wrong_later : {passes : List ℕ → Type 0} {form : Form} {old new : Position} {word : List ℕ} {number : ℕ} → Took old new word → passes word → IsWrong form new number → IsWrong (place passes form) old number
wrong_later {passes} {form} {old} {new} {word} {number} took follows wrong =
    wrong_behind (place passes form) form old new word number took follows (after_place passes form word) wrong

-- the next word is none of the choices
pub wrong_choice : {A : Type 0} {is : A → Type 0} {word_of : A → List ℕ} {forms : A → Form} {old : Position} {number : ℕ} → Misses (IsChoice is word_of) old number → IsWrong (branch is word_of forms) old number
wrong_choice {A} {is} {word_of} {forms} misses = wrong_first (branch is word_of forms) misses (λ whole. whole)

-- the next word is one of the choices, and a later one is wrong
pub wrong_chosen : {A : Type 0} {is : A → Type 0} {word_of : A → List ℕ} {forms : A → Form} {old new : Position} {number : ℕ} (choice : A) → is choice → AreApart is word_of → Took old new (word_of choice)
    → IsWrong (forms choice) new number → IsWrong (branch is word_of forms) old number
wrong_chosen {A} {is} {word_of} {forms} {old} {new} {number} choice there are took wrong =
    wrong_behind (branch is word_of forms) (forms choice) old new (word_of choice) number took (choice, there, refl) (after_branch is word_of forms choice there are) wrong

-- a word is there, and it or a later one is wrong
pub wrong_maybe : {form : Form} {old : Position} {number : ℕ} → (old.left ≡ [] → ⊥) → IsWrong form old number → IsWrong (maybe form) old number
wrong_maybe {form} {old} {number} some wrong = record {
  place = wrong.place;
  at = wrong.at;
  wrong = at_front old.left some wrong.wrong;
}
  where
    -- after a first word both forms are one
    goes_on : (before : List (List ℕ)) (first : List ℕ) (words : List (List ℕ)) (n : ℕ) → IsFirstNotAllowed (grammar_of form) (first ∷ before) words n → IsFirstNotAllowed (grammar_of (maybe form)) (first ∷ before) words n
    goes_on before first [] n is = is
    goes_on before first (word ∷ words) n (inl (follows, is)) = inl (follows, goes_on (before ++ word ∷ []) first words n is)
    goes_on before first (word ∷ words) n (inr never) = inr never

    at_front : (words : List (List ℕ)) → (words ≡ [] → ⊥) → IsFirstNotAllowed (grammar_of form) [] words wrong.place → IsFirstNotAllowed (grammar_of (maybe form)) [] words wrong.place
    at_front [] some is = absurd (some refl)
    at_front (word ∷ words) some (inl (follows, is)) = inl (follows, goes_on [] word words wrong.place is)
    at_front (word ∷ words) some (inr never) = inr never

-- ---- what is wrong at the front of a form

-- where anything may stand nothing is wrong
pub wrong_nowhere : {old : Position} {number : ℕ} {P : Type 0} → IsWrong anything old number → P
wrong_nowhere {old} {number} {P} wrong = absurd (never [] old.left wrong.place wrong.wrong)
  where
    never : (before words : List (List ℕ)) (n : ℕ) → IsFirstNotAllowed (grammar_of anything) before words n → ⊥
    never before [] n is = is.0 tt
    never before (word ∷ words) n (inl (follows, is)) = never (before ++ word ∷ []) words n is
    never before (word ∷ words) n (inr (none, at)) = none tt

-- what is wrong of a word or after it, where what is wrong after it in one form is so in the other
pub wrong_both : {passes : List ℕ → Type 0} {form other : Form} {old : Position} {number : ℕ} → ((new : Position) → IsWrong form new number → IsWrong other new number)
    → IsWrong (place passes form) old number → IsWrong (place passes other) old number
wrong_both {passes} {form} {other} {old} {number} then wrong = at_front old.left refl wrong.wrong
  where
    at_front : (words : List (List ℕ)) → old.left ≡ words → IsFirstNotAllowed (grammar_of (place passes form)) [] words wrong.place → IsWrong (place passes other) old number
    at_front [] is judged = wrong_place (record { none = λ first. subst (IsFirst passes) is first; at = omega (arith, wrong.at, judged.1) })
    at_front (word ∷ words) is (inr (none, at)) = wrong_place (record { none = λ first. none (subst (IsFirst passes) is first); at = omega (arith, wrong.at, at) })
    at_front (word ∷ words) is (inl (follows, judged)) =
        let back = front_wrong (grammar_of (place passes form)) (grammar_of form) (word ∷ []) [] words wrong.place (after_place passes form word) judged in
        let new : Position = record { left = words; read = old.read + 1 } in
        let later : IsWrong form new number = record { place = back.0; at = omega (arith, wrong.at, back.1); wrong = back.2 } in
        wrong_later (record { cut = is; counted = refl }) follows (then new later)

-- the words of a front came, so what is wrong after them is so from their start
pub wrong_past : {passes : List ℕ → Type 0} {form : Form} {old new : Position} {word : List ℕ} {words : List (List ℕ)} {number : ℕ} → TookAll old new (word ∷ words) → passes word
    → ((mid : Position) → TookAll mid new words → IsWrong form mid number) → IsWrong (place passes form) old number
wrong_past {passes} {form} {old} {new} {word} {words} {number} took follows then =
    let mid : Position = record { left = words ++ new.left; read = old.read + 1 } in
    wrong_later (record { cut = took.cut; counted = refl }) follows (then mid (record { cut = refl; counted = omega (arith, took.counted) }))

-- where no word came, what is wrong is wrong
pub wrong_same : {form : Form} {old new : Position} {number : ℕ} → TookAll old new [] → IsWrong form new number → IsWrong form old number
wrong_same {form} {old} {new} {number} took wrong = record {
  place = wrong.place;
  at = omega (arith, wrong.at, took.counted);
  wrong = subst (λ w. IsFirstNotAllowed (grammar_of form) [] w wrong.place) (sym took.cut) wrong.wrong;
}

-- ---- tests of the first word

-- what passes for one reason passes for a weaker one
pub IsFirst-weaker : (strong weak : List ℕ → Type 0) → ((word : List ℕ) → strong word → weak word) → (words : List (List ℕ)) → IsFirst strong words → IsFirst weak words
IsFirst-weaker strong weak more [] first = first
IsFirst-weaker strong weak more (word ∷ words) first = more word first

-- where the first word passes, there is one
pub some_word : (passes : List ℕ → Type 0) (words : List (List ℕ)) → IsFirst passes words → words ≡ [] → ⊥
some_word passes words first none = subst (IsFirst passes) none first

-- where a weaker reason is missed, so is the stronger
pub Misses-stronger : {strong weak : List ℕ → Type 0} {old : Position} {number : ℕ} → ((word : List ℕ) → strong word → weak word) → Misses weak old number → Misses strong old number
Misses-stronger {strong} {weak} {old} {number} more misses = record {
  none = λ first. misses.none (IsFirst-weaker strong weak more old.left first);
  at = misses.at;
}

-- the word that came does not pass
pub misses_word : {passes : List ℕ → Type 0} {old new : Position} {word : List ℕ} {number : ℕ} → Took old new word → (passes word → ⊥) → number ≡ old.read + 1 → Misses passes old number
misses_word {passes} {old} {new} {word} {number} took never at = record { none = λ first. never (subst (IsFirst passes) took.cut first); at = at }

-- ---- a line from its start

-- the word that is told of a line is the first that is not allowed
pub wrong_at_start : {form : Form} {start : Position} {number : ℕ} (words : List (List ℕ)) → start ≡ record { left = words; read = 0 } → IsWrong form start number → IsFirstNotAllowed (grammar_of form) [] words number
wrong_at_start {form} {start} {number} words is wrong =
    let place : wrong.place ≡ number = omega (arith, wrong.at, ap (λ (position : Position). position.read) is) in
    subst (λ p. IsFirstNotAllowed (grammar_of form) [] words p) place
    (subst (λ (position : Position). IsFirstNotAllowed (grammar_of form) [] position.left wrong.place) is wrong.wrong)
