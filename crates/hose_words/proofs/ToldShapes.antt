-- Shapes of lines: where words tell something none of them is wrong, and a line has one first word that is wrong.
use Rattle.std.proofs.Common.{◌≡◌, ◌∙◌, ◌⊎◌, ℕ, ◌+◌, ◌<◌, ◌≤◌, List, [], ◌∷◌, ◌++◌, length, take, drop, inl, inr, refl, sym, ap, subst, arith, suc, zero}
use Rattle.std.proofs.lemmas.List.{take-append-drop, take_all}
use Rattle.hose_words.specs.Shapes.{Begin, IsFirstWrong, Shape, Tells, Values, line_end, value}
use Rattle.hose_words.specs.Words.{IsChoice, IsFirst}
use Rattle.hose_words.specs.steps.Grammar.{Grammar}
use Rattle.hose_words.proofs.Forms.{AreApart}
use Rattle.hose_words.proofs.Shapes.{Agrees, agrees_end, first_word}

-- ---- how words begin a line

-- Words begin a line without the last of them too, and those that tell something begin one.
pub record IsFirm (shape : Shape) : Type 0 where
  pub nothing : Begin shape []
  pub front : (before more : List (List ℕ)) → Begin shape (before ++ more) → Begin shape before
  pub begin : (words : List (List ℕ)) (told : Values shape) → Tells shape words told → Begin shape words

pub firm_of : {shape : Shape} {grammar : Grammar} → Agrees shape grammar → IsFirm shape
firm_of agrees = record { nothing = agrees.steps.nothing; front = agrees.steps.front; begin = agrees.begin }

pub firm_end : IsFirm line_end
firm_end = firm_of agrees_end

pub firm_value : {A : Type 0} (may : A → Type 0) (word_of : A → List ℕ) (after : A → Shape) → ((a : A) → may a → IsFirm (after a)) → IsFirm (value may word_of after)
firm_value {A} may word_of after on = record { nothing = tt; front = front; begin = begin }
  where
    front : (before more : List (List ℕ)) → Begin (value may word_of after) (before ++ more) → Begin (value may word_of after) before
    front [] more begin = tt
    front (first ∷ before) more (a, is, same, rest) = (a, is, same, (on a is).front before more rest)

    begin : (words : List (List ℕ)) (told : Values (value may word_of after)) → Tells (value may word_of after) words told → Begin (value may word_of after) words
    begin [] (a, told) tells = tt
    begin (first ∷ words) (a, told) tells = (a, tells.may.0, ap first_word tells.are, (on a tells.may.0).begin words told (record { are = ap (drop 1) tells.are; may = tells.may.1 }))

-- ---- one first word that is wrong

order : (one other : ℕ) → (one < other) ⊎ ((other < one) ⊎ (one ≡ other))
order zero zero = inr (inr refl)
order zero (suc other) = inl (omega arith)
order (suc one) zero = inr (inl (omega arith))
order (suc one) (suc other) = more (order one other)
  where
    more : (one < other) ⊎ ((other < one) ⊎ (one ≡ other)) → (suc one < suc other) ⊎ ((suc other < suc one) ⊎ (suc one ≡ suc other))
    more (inl less) = inl (omega (arith, less))
    more (inr (inl less)) = inr (inl (omega (arith, less)))
    more (inr (inr same)) = inr (inr (ap suc same))

shorter : (all : List (List ℕ)) (one other : ℕ) → one ≤ other → take one all ≡ take one (take other all)
shorter all zero other le = refl
shorter [] (suc one) other le = ap (take (suc one)) (sym (take_all other [] (omega arith)))
shorter (word ∷ all) (suc one) zero le = absurd (omega (arith, le))
shorter (word ∷ all) (suc one) (suc other) le = ap (λ (front : List (List ℕ)). word ∷ front) (shorter all one other (omega (arith, le)))

module _ (shape : Shape) (firm : IsFirm shape) (words : List (List ℕ)) where
  sooner : (few many : ℕ) → few ≤ many → Begin shape (take many words) → Begin shape (take few words)
  sooner few many le begin = firm.front (take few words) (drop few (take many words))
      (subst (Begin shape) (sym (ap (λ (front : List (List ℕ)). front ++ drop few (take many words)) (shorter words few many le) ∙ take-append-drop few (take many words))) begin)

  within : {number : ℕ} (wrong : IsFirstWrong shape words number) → wrong.before ≤ length words
  within wrong = by wrong.wrong
    where
      by : ((wrong.before < length words) × (Begin shape (take (wrong.before + 1) words) → ⊥)) ⊎ ((wrong.before ≡ length words) × ((told : Values shape) → Tells shape words told → ⊥)) → wrong.before ≤ length words
      by (inl (below, never)) = omega (arith, below)
      by (inr (end, none)) = omega (arith, end)

  not_sooner : {number place : ℕ} (one : IsFirstWrong shape words number) (other : IsFirstWrong shape words place) → one.before < other.before → ⊥
  not_sooner one other less = by one.wrong
    where
      by : ((one.before < length words) × (Begin shape (take (one.before + 1) words) → ⊥)) ⊎ ((one.before ≡ length words) × ((told : Values shape) → Tells shape words told → ⊥)) → ⊥
      by (inl (below, never)) = never (sooner (one.before + 1) other.before (omega (arith, less)) other.begin)
      by (inr (end, none)) = omega (arith, end, less, within other)

  -- a line has one first word that is wrong
  pub wrong_unique : (number place : ℕ) → IsFirstWrong shape words number → IsFirstWrong shape words place → number ≡ place
  wrong_unique number place one other = by (order one.before other.before)
    where
      by : (one.before < other.before) ⊎ ((other.before < one.before) ⊎ (one.before ≡ other.before)) → number ≡ place
      by (inl less) = absurd (not_sooner one other less)
      by (inr (inl less)) = absurd (not_sooner other one less)
      by (inr (inr same)) = omega (arith, same, one.is_next, other.is_next)

  -- words that tell something have none
  pub told_not_wrong : (told : Values shape) (number : ℕ) → Tells shape words told → IsFirstWrong shape words number → ⊥
  told_not_wrong told number tells wrong = by wrong.wrong
    where
      begins : Begin shape (take (wrong.before + 1) words)
      begins = firm.front (take (wrong.before + 1) words) (drop (wrong.before + 1) words)
          (subst (Begin shape) (sym (take-append-drop (wrong.before + 1) words)) (firm.begin words told tells))

      by : ((wrong.before < length words) × (Begin shape (take (wrong.before + 1) words) → ⊥)) ⊎ ((wrong.before ≡ length words) × ((told : Values shape) → Tells shape words told → ⊥)) → ⊥
      by (inl (below, never)) = never begins
      by (inr (end, none)) = none told tells

-- ---- the first word, and those after it

-- the first word tells no value, or is missing
pub wrong_first : {A : Type 0} {may : A → Type 0} {word_of : A → List ℕ} {after : A → Shape} (words : List (List ℕ)) → (IsFirst (IsChoice may word_of) words → ⊥) → IsFirstWrong (value may word_of after) words 1
wrong_first {A} {may} {word_of} {after} [] none = record { before = 0; is_next = refl; begin = tt; wrong = inr (refl, nothing) }
  where
    nothing : (told : Values (value may word_of after)) → Tells (value may word_of after) [] told → ⊥
    nothing (a, told) tells = cc tells.are
wrong_first {A} {may} {word_of} {after} (word ∷ words) none = record { before = 0; is_next = refl; begin = tt; wrong = inl (omega arith, λ begin. none (begin.0, begin.1, begin.2)) }

-- the first word tells a value, and of the words after it this one is wrong
pub wrong_behind : {A : Type 0} {may : A → Type 0} {word_of : A → List ℕ} {after : A → Shape} (a : A) → may a → AreApart may word_of → (words : List (List ℕ)) (number : ℕ) → IsFirstWrong (after a) words number
    → IsFirstWrong (value may word_of after) (word_of a ∷ words) (suc number)
wrong_behind {A} {may} {word_of} {after} a is apart words number wrong = record {
  before = suc wrong.before;
  is_next = omega (arith, wrong.is_next);
  begin = (a, is, refl, wrong.begin);
  wrong = by wrong.wrong;
}
  where
    counted : suc wrong.before + 1 ≡ suc (wrong.before + 1)
    counted = omega arith

    -- what the words behind do not tell
    nothing : ((told : Values (after a)) → Tells (after a) words told → ⊥) → (told : Values (value may word_of after)) → Tells (value may word_of after) (word_of a ∷ words) told → ⊥
    nothing none (c, told) tells =
        subst (λ (c : A). (told : Values (after c)) → Tells (after c) words told → ⊥) (apart.apart a c is tells.may.0 (ap first_word tells.are)) none told
        (record { are = ap (drop 1) tells.are; may = tells.may.1 })

    never_begins : (Begin (after a) (take (wrong.before + 1) words) → ⊥) → Begin (value may word_of after) (word_of a ∷ take (wrong.before + 1) words) → ⊥
    never_begins never (c, is', same, rest) = never (subst (λ (c : A). Begin (after c) (take (wrong.before + 1) words)) (sym (apart.apart a c is is' same)) rest)

    by : ((wrong.before < length words) × (Begin (after a) (take (wrong.before + 1) words) → ⊥)) ⊎ ((wrong.before ≡ length words) × ((told : Values (after a)) → Tells (after a) words told → ⊥))
        → ((suc wrong.before < length (word_of a ∷ words)) × (Begin (value may word_of after) (take (suc wrong.before + 1) (word_of a ∷ words)) → ⊥)) ⊎ ((suc wrong.before ≡ length (word_of a ∷ words)) × ((told : Values (value may word_of after)) → Tells (value may word_of after) (word_of a ∷ words) told → ⊥))
    by (inl (below, never)) = inl (omega (arith, below), λ begin. never_begins never (subst (λ (n : ℕ). Begin (value may word_of after) (take n (word_of a ∷ words))) counted begin))
    by (inr (end, none)) = inr (omega (arith, end), nothing none)
