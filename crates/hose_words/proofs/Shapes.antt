-- Shapes of lines and forms that allow the same lines.
use Rattle.std.proofs.Common.{◌≡◌, ◌∙◌, ◌⊎◌, ℕ, ◌+◌, ◌<◌, ◌≤◌, List, [], ◌∷◌, ◌++◌, length, take, drop, get_or, map, inl, inr, refl, sym, ap, subst, arith, append_assoc, append-nil, length-append, true, false, Option, None, Some, suc, zero}
use Rattle.std.proofs.lemmas.List.{length-map, take-append-drop, take_all, take_at}
use Rattle.std.specs.List.{take-map}
use Rattle.hose_words.specs.steps.Grammar.{Grammar, IsFirstNotAllowed}
use Rattle.hose_words.specs.steps.Form.{Form, finish, place, branch, maybe, list, Follows, IsWhole, grammar_of}
use Rattle.hose_words.specs.Words.{IsChoice}
use Rattle.hose_words.specs.Shapes.{Begin, BeginBy, BeginWith, IsFirstWrong, Shape, Tells, Values, choice, flag, items, last, line_end, option, value}
use Rattle.hose_words.proofs.Forms.{AreApart}
use Rattle.hose_words.proofs.Passing.{IsClosed}

-- Words may be the first of a line, and the grammar says which may come next.
pub record Steps (Begins : List (List ℕ) → Type 0) (grammar : Grammar) : Type 0 where
  pub nothing : Begins []
  pub front : (before more : List (List ℕ)) → Begins (before ++ more) → Begins before
  pub follow : (before : List (List ℕ)) (word : List ℕ) → Begins before → grammar.may_follow before word → Begins (before ++ word ∷ [])
  pub follow_back : (before : List (List ℕ)) (word : List ℕ) → Begins (before ++ word ∷ []) → grammar.may_follow before word

-- A shape and a grammar allow the same lines, word by word and as a whole.
pub record Agrees (shape : Shape) (grammar : Grammar) : Type 0 where
  pub steps : Steps (Begin shape) grammar
  pub whole : (words : List (List ℕ)) → Begin shape words → grammar.is_whole words → (told : Values shape) × Tells shape words told
  pub whole_back : (words : List (List ℕ)) (told : Values shape) → Tells shape words told → grammar.is_whole words
  pub begin : (words : List (List ℕ)) (told : Values shape) → Tells shape words told → Begin shape words

-- ---- the first word that is not allowed

equal_or_less : (one other : ℕ) → one ≤ other → (one ≡ other) ⊎ (one < other)
equal_or_less zero zero le = inl refl
equal_or_less zero (suc other) le = inr (omega arith)
equal_or_less (suc one) zero le = absurd (omega (arith, le))
equal_or_less (suc one) (suc other) le = more (equal_or_less one other (omega (arith, le)))
  where
    more : (one ≡ other) ⊎ (one < other) → (suc one ≡ suc other) ⊎ (suc one < suc other)
    more (inl same) = inl (ap suc same)
    more (inr less) = inr (omega (arith, less))

module _ (shape : Shape) (grammar : Grammar) (agrees : Agrees shape grammar) where
  wrong_from : (before words : List (List ℕ)) (number : ℕ) → Begin shape before → IsFirstNotAllowed grammar before words number → IsFirstWrong shape (before ++ words) number
  wrong_from before [] number begin wrong = subst (λ (all : List (List ℕ)). IsFirstWrong shape all number) (sym (append-nil before)) (record {
    before = length before;
    is_next = wrong.1;
    begin = subst (Begin shape) (sym (take_all (length before) before (omega arith))) begin;
    wrong = inr (refl, λ told tells. wrong.0 (agrees.whole_back before told tells));
  })
  wrong_from before (word ∷ words) number begin (inl (follows, wrong)) =
      subst (λ (all : List (List ℕ)). IsFirstWrong shape all number) (append_assoc before (word ∷ []) words)
      (wrong_from (before ++ word ∷ []) words number (agrees.steps.follow before word begin follows) wrong)
  wrong_from before (word ∷ words) number begin (inr (never, at)) = record {
    before = length before;
    is_next = at;
    begin = subst (Begin shape) (sym (take_at before (word ∷ words) (length before) refl)) begin;
    wrong = inl (
      omega (arith, length-append before (word ∷ words)),
      λ more. never (agrees.steps.follow_back before word
          (subst (Begin shape) (ap (take (length before + 1)) (sym (append_assoc before (word ∷ []) words)) ∙ take_at (before ++ word ∷ []) words (length before + 1) (length-append before (word ∷ []))) more)),
    );
  }

  -- the first word that the grammar does not allow is the first that is wrong
  pub wrong_of_form : (words : List (List ℕ)) (number : ℕ) → IsFirstNotAllowed grammar [] words number → IsFirstWrong shape words number
  wrong_of_form words number wrong = wrong_from [] words number agrees.steps.nothing wrong

  -- words begin a line where more of them do
  begin_sooner : (words : List (List ℕ)) (few many : ℕ) → few ≤ many → Begin shape (take many words) → Begin shape (take few words)
  begin_sooner words few many le begin = agrees.steps.front (take few words) (drop few (take many words))
      (subst (Begin shape) (sym (ap (λ (front : List (List ℕ)). front ++ drop few (take many words)) (shorter words few many le) ∙ take-append-drop few (take many words))) begin)
    where
      shorter : (all : List (List ℕ)) (one other : ℕ) → one ≤ other → take one all ≡ take one (take other all)
      shorter all zero other le = refl
      shorter [] (suc one) other le = ap (take (suc one)) (sym (take_all other [] (omega arith)))
      shorter (word ∷ all) (suc one) zero le = absurd (omega (arith, le))
      shorter (word ∷ all) (suc one) (suc other) le = ap (λ (front : List (List ℕ)). word ∷ front) (shorter all one other (omega (arith, le)))

  -- what is wrong after one word more
  abbrev Deeper : List (List ℕ) → List ℕ → List (List ℕ) → ℕ → ℕ → Type 0
  Deeper front word words number before = length (front ++ word ∷ []) ≤ before → IsFirstNotAllowed grammar (front ++ word ∷ []) words number

  not_allowed_from : (front words : List (List ℕ)) (number : ℕ) → (wrong : IsFirstWrong shape (front ++ words) number) → length front ≤ wrong.before → IsFirstNotAllowed grammar front words number
  not_allowed_from front [] number wrong le = by wrong.wrong
    where
      all : front ++ [] ≡ front
      all = append-nil front

      by : ((wrong.before < length (front ++ [])) × (Begin shape (take (wrong.before + 1) (front ++ [])) → ⊥)) ⊎ ((wrong.before ≡ length (front ++ [])) × ((told : Values shape) → Tells shape (front ++ []) told → ⊥)) → IsFirstNotAllowed grammar front [] number
      by (inl (below, never)) = absurd (omega (arith, le, below, ap length all))
      by (inr (end, none)) = (
        λ whole.
            let told = agrees.whole front (subst (Begin shape) (take_all wrong.before (front ++ []) (omega (arith, end)) ∙ all) wrong.begin) whole in
            none told.0 (subst (λ (words : List (List ℕ)). Tells shape words told.0) (sym all) told.1),
        omega (arith, wrong.is_next, end, ap length all),
      )
  not_allowed_from front (word ∷ words) number wrong le =
      by (λ more. not_allowed_from (front ++ word ∷ []) words number (subst (λ (all : List (List ℕ)). IsFirstWrong shape all number) (sym (append_assoc front (word ∷ []) words)) wrong) more) wrong.wrong
    where
      one_more : take (length front + 1) (front ++ word ∷ words) ≡ front ++ word ∷ []
      one_more = ap (take (length front + 1)) (sym (append_assoc front (word ∷ []) words)) ∙ take_at (front ++ word ∷ []) words (length front + 1) (length-append front (word ∷ []))

      count : length (front ++ word ∷ words) ≡ length front + length (word ∷ words)
      count = length-append front (word ∷ words)

      later : Deeper front word words number wrong.before → length front < wrong.before → IsFirstNotAllowed grammar front (word ∷ words) number
      later deeper below = inl (
        agrees.steps.follow_back front word (subst (Begin shape) one_more (begin_sooner (front ++ word ∷ words) (length front + 1) wrong.before (omega (arith, below)) wrong.begin)),
        deeper (omega (arith, below, length-append front (word ∷ []))),
      )

      here : Deeper front word words number wrong.before → (Begin shape (take (wrong.before + 1) (front ++ word ∷ words)) → ⊥) → (length front ≡ wrong.before) ⊎ (length front < wrong.before) → IsFirstNotAllowed grammar front (word ∷ words) number
      here deeper never (inr less) = later deeper less
      here deeper never (inl same) = inr (
        λ follows. never (subst (λ n. Begin shape (take (n + 1) (front ++ word ∷ words))) same
            (subst (Begin shape) (sym one_more) (agrees.steps.follow front word (subst (Begin shape) (ap (λ n. take n (front ++ word ∷ words)) (sym same) ∙ take_at front (word ∷ words) (length front) refl) wrong.begin) follows))),
        omega (arith, wrong.is_next, same),
      )

      by : Deeper front word words number wrong.before → ((wrong.before < length (front ++ word ∷ words)) × (Begin shape (take (wrong.before + 1) (front ++ word ∷ words)) → ⊥)) ⊎ ((wrong.before ≡ length (front ++ word ∷ words)) × ((told : Values shape) → Tells shape (front ++ word ∷ words) told → ⊥)) → IsFirstNotAllowed grammar front (word ∷ words) number
      by deeper (inr (end, none)) = later deeper (omega (arith, end, count))
      by deeper (inl (below, never)) = here deeper never (equal_or_less (length front) wrong.before le)

  -- and the other way round
  pub form_of_wrong : (words : List (List ℕ)) (number : ℕ) → IsFirstWrong shape words number → IsFirstNotAllowed grammar [] words number
  form_of_wrong words number wrong = not_allowed_from [] words number wrong (omega arith)

-- ---- shapes by forms

pub agrees_end : Agrees line_end (grammar_of finish)
agrees_end = record {
  steps = record {
    nothing = refl;
    front = front;
    follow = λ before word begin follows. absurd follows;
    follow_back = λ before word begin. absurd (back before word begin);
  };
  whole = λ words begin whole. (tt, record { are = whole; may = tt });
  whole_back = λ words told tells. tells.are;
  begin = λ words told tells. tells.are;
}
  where
    front : (before more : List (List ℕ)) → before ++ more ≡ [] → before ≡ []
    front [] more none = refl
    front (word ∷ before) more none = absurd (cc none)

    back : (before : List (List ℕ)) (word : List ℕ) → before ++ word ∷ [] ≡ [] → ⊥
    back [] word none = cc none
    back (first ∷ before) word none = cc none

-- words that begin by that of a value, where the words after each agree with a grammar
module _ {A : Type 0} (may : A → Type 0) (word_of : A → List ℕ) (Begins : A → List (List ℕ) → Type 0) (grammars : A → Grammar) (on : (a : A) → may a → Steps (Begins a) (grammars a)) (grammar : Grammar)
    (follow_first : (word : List ℕ) → grammar.may_follow [] word → IsChoice may word_of word) (first_follows : (a : A) → may a → grammar.may_follow [] (word_of a))
    (later : (a : A) (before : List (List ℕ)) (word : List ℕ) → may a → grammar.may_follow (word_of a ∷ before) word → (grammars a).may_follow before word)
    (later_back : (a : A) (before : List (List ℕ)) (word : List ℕ) → may a → (grammars a).may_follow before word → grammar.may_follow (word_of a ∷ before) word) where
  abbrev All : List (List ℕ) → Type 0
  All words = BeginBy may word_of Begins words

  front : (before more : List (List ℕ)) → All (before ++ more) → All before
  front [] more begin = tt
  front (first ∷ before) more (a, is, same, rest) = (a, is, same, (on a is).front before more rest)

  follow : (before : List (List ℕ)) (word : List ℕ) → All before → grammar.may_follow before word → All (before ++ word ∷ [])
  follow [] word begin follows = let choice = follow_first word follows in (choice.0, choice.1, choice.2, (on choice.0 choice.1).nothing)
  follow (first ∷ before) word (a, is, same, rest) follows = (a, is, same, (on a is).follow before word rest (later a before word is (subst (λ (w : List ℕ). grammar.may_follow (w ∷ before) word) same follows)))

  follow_back : (before : List (List ℕ)) (word : List ℕ) → All (before ++ word ∷ []) → grammar.may_follow before word
  follow_back [] word (a, is, same, rest) = subst (grammar.may_follow []) (sym same) (first_follows a is)
  follow_back (first ∷ before) word (a, is, same, rest) = subst (λ (w : List ℕ). grammar.may_follow (w ∷ before) word) (sym same) (later_back a before word is ((on a is).follow_back before word rest))

  pub steps_by : Steps (λ words. BeginBy may word_of Begins words) grammar
  steps_by = record { nothing = tt; front = front; follow = follow; follow_back = follow_back }

abbrev pub first_word : List (List ℕ) → List ℕ
first_word words = get_or words 0 []

-- such words as a whole, where those after each value do
module _ {A : Type 0} (may : A → Type 0) (word_of : A → List ℕ) (after : A → Shape) (grammars : A → Grammar) (on : (a : A) → may a → Agrees (after a) (grammars a)) (grammar : Grammar)
    (steps : Steps (λ words. BeginBy may word_of (λ a. Begin (after a)) words) grammar) (none : grammar.is_whole [] → ⊥)
    (later : (a : A) (before : List (List ℕ)) → may a → grammar.is_whole (word_of a ∷ before) → (grammars a).is_whole before)
    (later_back : (a : A) (before : List (List ℕ)) → may a → (grammars a).is_whole before → grammar.is_whole (word_of a ∷ before)) where
  abbrev this : Shape
  this = value may word_of after

  whole : (words : List (List ℕ)) → Begin this words → grammar.is_whole words → (told : Values this) × Tells this words told
  whole [] begin is = absurd (none is)
  whole (first ∷ words) (a, is, same, rest) all =
      let told = (on a is).whole words rest (later a words is (subst (λ (w : List ℕ). grammar.is_whole (w ∷ words)) same all)) in
      ((a, told.0), record { are = ap (λ (w : List ℕ). w ∷ words) same ∙ ap (λ (more : List (List ℕ)). word_of a ∷ more) told.1.are; may = (is, told.1.may) })

  whole_back : (words : List (List ℕ)) (told : Values this) → Tells this words told → grammar.is_whole words
  whole_back [] (a, told) tells = absurd (cc tells.are)
  whole_back (first ∷ words) (a, told) tells =
      subst (λ (w : List ℕ). grammar.is_whole (w ∷ words)) (sym (ap first_word tells.are)) (later_back a words tells.may.0 ((on a tells.may.0).whole_back words told (record { are = ap (drop 1) tells.are; may = tells.may.1 })))

  begin : (words : List (List ℕ)) (told : Values this) → Tells this words told → Begin this words
  begin [] (a, told) tells = tt
  begin (first ∷ words) (a, told) tells = (a, tells.may.0, ap first_word tells.are, (on a tells.may.0).begin words told (record { are = ap (drop 1) tells.are; may = tells.may.1 }))

  pub value_by : Agrees (value may word_of after) grammar
  value_by = record { steps = steps; whole = whole; whole_back = whole_back; begin = begin }

-- a value by the word of a choice
pub agrees_value : {A : Type 0} {may : A → Type 0} {word_of : A → List ℕ} {after : A → Shape} (forms : A → Form) → AreApart may word_of → ((a : A) → may a → Agrees (after a) (grammar_of (forms a)))
    → Agrees (value may word_of after) (grammar_of (branch may word_of forms))
agrees_value {A} {may} {word_of} {after} forms apart on =
    value_by may word_of after (λ a. grammar_of (forms a)) on (grammar_of (branch may word_of forms))
    (steps_by may word_of (λ a. Begin (after a)) (λ a. grammar_of (forms a)) (λ a is. (on a is).steps) (grammar_of (branch may word_of forms)) (λ word choice. choice) (λ a is. (a, is, refl))
    (λ a before word is follows. subst (λ (c : A). Follows (forms c) before word) (sym (apart.apart a follows.0 is follows.1 follows.2)) follows.3) (λ a before word is follows. (a, is, refl, follows)))
    (λ none. none) (λ a before is all. subst (λ (c : A). IsWhole (forms c) before) (sym (apart.apart a all.0 is all.1 all.2)) all.3) (λ a before is all. (a, is, refl, all))

-- a value by a word that passes, which bears on nothing after it
pub agrees_place : {A : Type 0} {may : A → Type 0} {word_of : A → List ℕ} {after : A → Shape} (passes : List ℕ → Type 0) (form : Form) → ((word : List ℕ) → passes word → IsChoice may word_of word) → ((a : A) → may a → passes (word_of a))
    → ((a : A) → may a → Agrees (after a) (grammar_of form)) → Agrees (value may word_of after) (grammar_of (place passes form))
agrees_place {A} {may} {word_of} {after} passes form chosen passing on =
    value_by may word_of after (λ a. grammar_of form) on (grammar_of (place passes form))
    (steps_by may word_of (λ a. Begin (after a)) (λ a. grammar_of form) (λ a is. (on a is).steps) (grammar_of (place passes form)) chosen passing (λ a before word is follows. follows) (λ a before word is follows. follows))
    (λ none. none) (λ a before is all. all) (λ a before is all. all)

-- a last word, or nothing
module _ {A : Type 0} (may : A → Type 0) (word_of : A → List ℕ) (form : Form) (on : Agrees (value may word_of (λ _. line_end)) (grammar_of form)) where
  abbrev one_word : Shape
  one_word = value may word_of (λ _. line_end)

  last_whole : (words : List (List ℕ)) → Begin one_word words → IsWhole (maybe form) words → (told : Option A) × Tells (last may word_of) words told
  last_whole [] begin is = (None, record { are = refl; may = tt })
  last_whole (first ∷ words) begin is = told_so (on.whole (first ∷ words) begin is)
    where
      told_so : (told : Values one_word) × Tells one_word (first ∷ words) told → (told : Option A) × Tells (last may word_of) (first ∷ words) told
      told_so ((a, _), tells) = (Some a, record { are = tells.are; may = tells.may.0 })

  last_back : (words : List (List ℕ)) (told : Option A) → Tells (last may word_of) words told → IsWhole (maybe form) words
  last_back [] told tells = tt
  last_back (first ∷ words) None tells = absurd (cc tells.are)
  last_back (first ∷ words) (Some a) tells = on.whole_back (first ∷ words) (a, tt) (record { are = tells.are; may = (tells.may, tt) })

  last_begin : (words : List (List ℕ)) (told : Option A) → Tells (last may word_of) words told → Begin one_word words
  last_begin [] told tells = tt
  last_begin (first ∷ words) None tells = absurd (cc tells.are)
  last_begin (first ∷ words) (Some a) tells = on.begin (first ∷ words) (a, tt) (record { are = tells.are; may = (tells.may, tt) })

  pub agrees_last : Agrees (last may word_of) (grammar_of (maybe form))
  agrees_last = record {
    steps = record {
      nothing = tt;
      front = λ before more begin. on.steps.front before more begin;
      follow = λ before word begin follows. on.steps.follow before word begin follows;
      follow_back = λ before word begin. on.steps.follow_back before word begin;
    };
    whole = last_whole;
    whole_back = last_back;
    begin = last_begin;
  }

-- the items of a list
module _ {A : Type 0} (may : List A → Type 0) (word_of : A → List ℕ) (least : ℕ) (closed : IsClosed may) (none : may []) where
  fewer : (before more : List (List ℕ)) → Begin (items may word_of least) (before ++ more) → Begin (items may word_of least) before
  fewer [] more begin = ([], refl, none)
  fewer (first ∷ before) more (told, are, is) =
      let count = length (first ∷ before) in
      let same : first ∷ before ≡ map word_of (take count told) = sym (take_at (first ∷ before) more count refl) ∙ (ap (take count) are ∙ take-map word_of count told) in
      (take count told, same, closed.front (take count told) (drop count told) (omega (arith, ap length same, length-map (take count told) word_of)) (subst may (sym (take-append-drop count told)) is))

  pub agrees_items : Agrees (items may word_of least) (grammar_of (list word_of may least))
  agrees_items = record {
    steps = record { nothing = ([], refl, none); front = fewer; follow = λ before word begin follows. follows; follow_back = λ before word begin. begin };
    whole = λ words begin enough. (begin.0, record { are = begin.1; may = (begin.2, omega (arith, enough, ap length begin.1, length-map begin.0 word_of)) });
    whole_back = λ words told tells. omega (arith, tells.may.1, ap length tells.are, length-map told word_of);
    begin = λ words told tells. (told, tells.are, tells.may.0);
  }

-- ---- options

-- A grammar allows what another one does, and besides a known word and then what a third one does.
pub record AddsOption (known : List ℕ) (plain behind grammar : Grammar) : Type 0 where
  pub first : (word : List ℕ) → grammar.may_follow [] word → (word ≡ known) ⊎ plain.may_follow [] word
  pub known_first : grammar.may_follow [] known
  pub plain_first : (word : List ℕ) → plain.may_follow [] word → grammar.may_follow [] word
  pub later : (before : List (List ℕ)) (word : List ℕ) → grammar.may_follow (known ∷ before) word → behind.may_follow before word
  pub later_back : (before : List (List ℕ)) (word : List ℕ) → behind.may_follow before word → grammar.may_follow (known ∷ before) word
  pub without : (one : List ℕ) (before : List (List ℕ)) (word : List ℕ) → (one ≡ known → ⊥) → grammar.may_follow (one ∷ before) word → plain.may_follow (one ∷ before) word
  pub without_back : (one : List ℕ) (before : List (List ℕ)) (word : List ℕ) → (one ≡ known → ⊥) → plain.may_follow (one ∷ before) word → grammar.may_follow (one ∷ before) word
  pub none : grammar.is_whole [] → plain.is_whole []
  pub none_back : plain.is_whole [] → grammar.is_whole []
  pub whole_behind : (before : List (List ℕ)) → grammar.is_whole (known ∷ before) → behind.is_whole before
  pub whole_behind_back : (before : List (List ℕ)) → behind.is_whole before → grammar.is_whole (known ∷ before)
  pub whole_without : (one : List ℕ) (before : List (List ℕ)) → (one ≡ known → ⊥) → grammar.is_whole (one ∷ before) → plain.is_whole (one ∷ before)
  pub whole_without_back : (one : List ℕ) (before : List (List ℕ)) → (one ≡ known → ⊥) → plain.is_whole (one ∷ before) → grammar.is_whole (one ∷ before)

module _ (known : List ℕ) (plain behind grammar : Grammar) (adds : AddsOption known plain behind grammar) where
  module _ (First Then : List (List ℕ) → Type 0) (steps : Steps First plain) (then : Steps Then behind) (apart : (words : List (List ℕ)) → First (known ∷ words) → ⊥) where
    abbrev Both : List (List ℕ) → Type 0
    Both words = First words ⊎ BeginWith known Then words

    never : (one : List ℕ) (words : List (List ℕ)) → First (one ∷ words) → one ≡ known → ⊥
    never one words begin same = apart words (subst (λ (w : List ℕ). First (w ∷ words)) same begin)

    both_front : (before more : List (List ℕ)) → Both (before ++ more) → Both before
    both_front before more (inl begin) = inl (steps.front before more begin)
    both_front [] more (inr begin) = inl steps.nothing
    both_front (one ∷ before) more (inr (word, is, same, rest)) = inr (word, is, same, then.front before more rest)

    both_follow : (before : List (List ℕ)) (word : List ℕ) → Both before → grammar.may_follow before word → Both (before ++ word ∷ [])
    both_follow [] word begin follows = by (adds.first word follows)
      where
        by : (word ≡ known) ⊎ plain.may_follow [] word → Both (word ∷ [])
        by (inl same) = inr (word, same, refl, then.nothing)
        by (inr may) = inl (steps.follow [] word steps.nothing may)
    both_follow (one ∷ before) word (inl begin) follows = inl (steps.follow (one ∷ before) word begin (adds.without one before word (never one before begin) follows))
    both_follow (one ∷ before) word (inr (first, is, same, rest)) follows =
        inr (first, is, same, then.follow before word rest (adds.later before word (subst (λ (w : List ℕ). grammar.may_follow (w ∷ before) word) (same ∙ is) follows)))

    both_back : (before : List (List ℕ)) (word : List ℕ) → Both (before ++ word ∷ []) → grammar.may_follow before word
    both_back [] word (inl begin) = adds.plain_first word (steps.follow_back [] word begin)
    both_back [] word (inr (first, is, same, rest)) = subst (grammar.may_follow []) (sym (same ∙ is)) adds.known_first
    both_back (one ∷ before) word (inl begin) = adds.without_back one before word (never one (before ++ word ∷ []) begin) (steps.follow_back (one ∷ before) word begin)
    both_back (one ∷ before) word (inr (first, is, same, rest)) =
        subst (λ (w : List ℕ). grammar.may_follow (w ∷ before) word) (sym (same ∙ is)) (adds.later_back before word (then.follow_back before word rest))

    both_steps : Steps (λ words. First words ⊎ BeginWith known Then words) grammar
    both_steps = record { nothing = inl steps.nothing; front = both_front; follow = both_follow; follow_back = both_back }

  -- a known word and one that tells a value, or neither
  module _ {A : Type 0} (may : A → Type 0) (word_of : A → List ℕ) (shape : Shape) (on : Agrees shape plain) (then : Agrees (value may word_of (λ _. shape)) behind) (apart : (words : List (List ℕ)) → Begin shape (known ∷ words) → ⊥) where
    abbrev chosen : Shape
    chosen = option known may word_of shape

    abbrev word_first : Shape
    word_first = value may word_of (λ _. shape)

    plainly : (words : List (List ℕ)) → (told : Values shape) × Tells shape words told → (told : Values chosen) × Tells chosen words told
    plainly words (told, tells) = ((None, told), record { are = tells.are; may = (tt, tells.may) })

    option_whole : (words : List (List ℕ)) → Begin chosen words → grammar.is_whole words → (told : Values chosen) × Tells chosen words told
    option_whole [] begin is = plainly [] (on.whole [] on.steps.nothing (adds.none is))
    option_whole (one ∷ words) (inl begin) is = plainly (one ∷ words) (on.whole (one ∷ words) begin
        (adds.whole_without one words (λ same. apart words (subst (λ (w : List ℕ). Begin shape (w ∷ words)) same begin)) is))
    option_whole (one ∷ words) (inr (first, is_known, same, rest)) is =
        behind_it (then.whole words rest (adds.whole_behind words (subst (λ (w : List ℕ). grammar.is_whole (w ∷ words)) (same ∙ is_known) is)))
      where
        behind_it : (told : Values word_first) × Tells word_first words told → (told : Values chosen) × Tells chosen (one ∷ words) told
        behind_it ((a, told), tells) = ((Some a, told), record { are = ap (λ (w : List ℕ). w ∷ words) (same ∙ is_known) ∙ ap (λ (more : List (List ℕ)). known ∷ more) tells.are; may = tells.may })

    option_back : (words : List (List ℕ)) (told : Values chosen) → Tells chosen words told → grammar.is_whole words
    option_back [] (None, told) tells = adds.none_back (on.whole_back [] told (record { are = tells.are; may = tells.may.1 }))
    option_back (one ∷ words) (None, told) tells =
        let plainly : Tells shape (one ∷ words) told = record { are = tells.are; may = tells.may.1 } in
        adds.whole_without_back one words (λ same. apart words (subst (λ (w : List ℕ). Begin shape (w ∷ words)) same (on.begin (one ∷ words) told plainly))) (on.whole_back (one ∷ words) told plainly)
    option_back [] (Some a, told) tells = absurd (cc tells.are)
    option_back (one ∷ words) (Some a, told) tells =
        subst (λ (w : List ℕ). grammar.is_whole (w ∷ words)) (sym (ap first_word tells.are)) (adds.whole_behind_back words (then.whole_back words (a, told) (record { are = ap (drop 1) tells.are; may = tells.may })))

    option_begin : (words : List (List ℕ)) (told : Values chosen) → Tells chosen words told → Begin chosen words
    option_begin words (None, told) tells = inl (on.begin words told (record { are = tells.are; may = tells.may.1 }))
    option_begin [] (Some a, told) tells = absurd (cc tells.are)
    option_begin (one ∷ words) (Some a, told) tells = inr (one, ap first_word tells.are, refl, then.begin words (a, told) (record { are = ap (drop 1) tells.are; may = tells.may }))

    pub agrees_option : Agrees (option known may word_of shape) grammar
    agrees_option = record {
      steps = both_steps (Begin shape) (λ words. BeginBy may word_of (λ a. Begin shape) words) on.steps then.steps apart;
      whole = option_whole;
      whole_back = option_back;
      begin = option_begin;
    }

  -- a known word, or not
  module _ (shape : Shape) (on : Agrees shape plain) (then : Agrees shape behind) (apart : (words : List (List ℕ)) → Begin shape (known ∷ words) → ⊥) where
    abbrev flagged : Shape
    flagged = flag known shape

    simply : (words : List (List ℕ)) → (told : Values shape) × Tells shape words told → (told : Values flagged) × Tells flagged words told
    simply words (told, tells) = ((false, told), record { are = tells.are; may = tells.may })

    flag_whole : (words : List (List ℕ)) → Begin flagged words → grammar.is_whole words → (told : Values flagged) × Tells flagged words told
    flag_whole [] begin is = simply [] (on.whole [] on.steps.nothing (adds.none is))
    flag_whole (one ∷ words) (inl begin) is = simply (one ∷ words) (on.whole (one ∷ words) begin
        (adds.whole_without one words (λ same. apart words (subst (λ (w : List ℕ). Begin shape (w ∷ words)) same begin)) is))
    flag_whole (one ∷ words) (inr (first, is_known, same, rest)) is =
        let told = then.whole words rest (adds.whole_behind words (subst (λ (w : List ℕ). grammar.is_whole (w ∷ words)) (same ∙ is_known) is)) in
        ((true, told.0), record { are = ap (λ (w : List ℕ). w ∷ words) (same ∙ is_known) ∙ ap (λ (more : List (List ℕ)). known ∷ more) told.1.are; may = told.1.may })

    flag_back : (words : List (List ℕ)) (told : Values flagged) → Tells flagged words told → grammar.is_whole words
    flag_back [] (false, told) tells = adds.none_back (on.whole_back [] told (record { are = tells.are; may = tells.may }))
    flag_back (one ∷ words) (false, told) tells =
        let plainly : Tells shape (one ∷ words) told = record { are = tells.are; may = tells.may } in
        adds.whole_without_back one words (λ same. apart words (subst (λ (w : List ℕ). Begin shape (w ∷ words)) same (on.begin (one ∷ words) told plainly))) (on.whole_back (one ∷ words) told plainly)
    flag_back [] (true, told) tells = absurd (cc tells.are)
    flag_back (one ∷ words) (true, told) tells =
        subst (λ (w : List ℕ). grammar.is_whole (w ∷ words)) (sym (ap first_word tells.are)) (adds.whole_behind_back words (then.whole_back words told (record { are = ap (drop 1) tells.are; may = tells.may })))

    flag_begin : (words : List (List ℕ)) (told : Values flagged) → Tells flagged words told → Begin flagged words
    flag_begin words (false, told) tells = inl (on.begin words told (record { are = tells.are; may = tells.may }))
    flag_begin [] (true, told) tells = absurd (cc tells.are)
    flag_begin (one ∷ words) (true, told) tells = inr (one, ap first_word tells.are, refl, then.begin words told (record { are = ap (drop 1) tells.are; may = tells.may }))

    pub agrees_flag : Agrees (flag known shape) grammar
    agrees_flag = record {
      steps = both_steps (Begin shape) (Begin shape) on.steps then.steps apart;
      whole = flag_whole;
      whole_back = flag_back;
      begin = flag_begin;
    }

  -- a known word and the words after it, or others
  module _ (shape other : Shape) (on : Agrees other plain) (then : Agrees shape behind) (apart : (words : List (List ℕ)) → Begin other (known ∷ words) → ⊥) where
    abbrev either : Shape
    either = choice known shape other

    choice_whole : (words : List (List ℕ)) → Begin either words → grammar.is_whole words → (told : Values either) × Tells either words told
    choice_whole [] begin is =
        let told = on.whole [] on.steps.nothing (adds.none is) in
        (inr told.0, record { are = told.1.are; may = told.1.may })
    choice_whole (one ∷ words) (inl begin) is =
        let told = on.whole (one ∷ words) begin (adds.whole_without one words (λ same. apart words (subst (λ (w : List ℕ). Begin other (w ∷ words)) same begin)) is) in
        (inr told.0, record { are = told.1.are; may = told.1.may })
    choice_whole (one ∷ words) (inr (first, is_known, same, rest)) is =
        let told = then.whole words rest (adds.whole_behind words (subst (λ (w : List ℕ). grammar.is_whole (w ∷ words)) (same ∙ is_known) is)) in
        (inl told.0, record { are = ap (λ (w : List ℕ). w ∷ words) (same ∙ is_known) ∙ ap (λ (more : List (List ℕ)). known ∷ more) told.1.are; may = told.1.may })

    choice_back : (words : List (List ℕ)) (told : Values either) → Tells either words told → grammar.is_whole words
    choice_back [] (inr told) tells = adds.none_back (on.whole_back [] told (record { are = tells.are; may = tells.may }))
    choice_back (one ∷ words) (inr told) tells =
        let plainly : Tells other (one ∷ words) told = record { are = tells.are; may = tells.may } in
        adds.whole_without_back one words (λ same. apart words (subst (λ (w : List ℕ). Begin other (w ∷ words)) same (on.begin (one ∷ words) told plainly))) (on.whole_back (one ∷ words) told plainly)
    choice_back [] (inl told) tells = absurd (cc tells.are)
    choice_back (one ∷ words) (inl told) tells =
        subst (λ (w : List ℕ). grammar.is_whole (w ∷ words)) (sym (ap first_word tells.are)) (adds.whole_behind_back words (then.whole_back words told (record { are = ap (drop 1) tells.are; may = tells.may })))

    choice_begin : (words : List (List ℕ)) (told : Values either) → Tells either words told → Begin either words
    choice_begin words (inr told) tells = inl (on.begin words told (record { are = tells.are; may = tells.may }))
    choice_begin [] (inl told) tells = absurd (cc tells.are)
    choice_begin (one ∷ words) (inl told) tells = inr (one, ap first_word tells.are, refl, then.begin words told (record { are = ap (drop 1) tells.are; may = tells.may }))

    pub agrees_choice : Agrees (choice known shape other) grammar
    agrees_choice = record {
      steps = both_steps (Begin other) (Begin shape) on.steps then.steps apart;
      whole = choice_whole;
      whole_back = choice_back;
      begin = choice_begin;
    }
