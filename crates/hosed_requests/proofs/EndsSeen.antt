-- Words of endpoints, judged one after the other.
use Rattle.std.proofs.Common.{◌≡◌, ◌∙◌, ℕ, ◌+◌, ◌-◌, ◌<◌, ◌≤◌, List, [], ◌∷◌, ◌++◌, Bool, IsTrue, false, not, true, length, take, drop, get_or, map, refl, sym, ap, subst, arith}
use mathlib.Core.List.{map-id}
use Rattle.std.specs.Prelude.{◌↔◌}
use Rattle.std.specs.List.{Any}
use Rattle.std.proofs.lemmas.List.{drop_more, get_or-map, get_or_default, length-drop, length-map, length-take, take_more}
use Rattle.hose_words.specs.steps.Cursor.{IsWrong, MissesItem, Took}
use Rattle.hose_words.specs.steps.Form.{Follows, grammar_of}
use Rattle.hose_words.specs.Words.{IsFirst}
use Rattle.hose_words.specs.steps.Grammar.{IsFirstNotAllowed}
use Rattle.hose_words.proofs.Listing.{Listing, listing_more, wrong_item}
use Rattle.hose_graph.specs.Limit.{IsUpTo}
use Rattle.hose_graph.specs.Name.{IsName}
use Rattle.hose_graph.specs.declared.limits.TheConstants.{LEAST_ENDS, MOST_ENDS, MOST_RATE}
use Rattle.hose_proto.specs.EndWords.{AreNewEndWords, name_in, named_rate}
use Rattle.hose_proto.specs.steps.EndWords.{IsNewEndWord, end_words_form}
use Rattle.hose_proto.proofs.EndWords.{end_words_more, makes_end_words, name_of_end}
use Rattle.hosed_requests.specs.steps.ProgramWords.{at_word}

-- ---- one word after others

-- what holds of an item as it is seen holds of one that is seen so
any_seen : {A : Type 0} (view : A → List ℕ) (P : List ℕ → Type 0) (xs : List A) → Any (λ x. P (view x)) xs → Any P (map view xs)
any_seen view P xs (k, x, below, at, holds) = (k, view x, omega (arith, below, length-map xs view), get_or-map view xs k x (view x) below ∙ ap view at, holds)

seen_any : {A : Type 0} (view : A → List ℕ) (P : List ℕ → Type 0) (xs : List A) → Any P (map view xs) → Any (λ x. P (view x)) xs
seen_any view P [] (k, y, below, at, holds) = absurd (omega (arith, below))
seen_any view P (x ∷ xs) (k, y, below, at, holds) =
    let all = x ∷ xs in
    let there : k < length all = omega (arith, below, length-map all view) in
    (k, get_or all k x, there, get_or_default all k (get_or all k x) x there, subst P (sym at ∙ get_or-map view all k x y there) holds)

not_true : (found : Bool) → IsTrue (not found) → IsTrue found → ⊥
not_true true fails holds = cc fails
not_true false fails holds = cc holds

is_not : (found : Bool) → (IsTrue found → ⊥) → IsTrue (not found)
is_not true never = absurd (never refl)
is_not false never = refl

-- none of all is seen so
pub none_seen : {A : Type 0} (P : A → Type 0) (xs : List A) → ((k : ℕ) (d : A) → k < length xs → P (get_or xs k d) → ⊥) → Any P xs → ⊥
none_seen P xs none (k, x, below, at, holds) = none k x below (subst P (sym at) holds)

-- a word with the form of an endpoint may come where no earlier word has its name
pub new_end_by : {A : Type 0} (view : A → List ℕ) (earlier : List A) (word name other : List ℕ) (rate : ℕ) (found : Bool) → word ≡ named_rate name rate → IsName name → IsUpTo MOST_RATE rate → other ≡ name → length earlier < MOST_ENDS
    → (IsTrue found ↔ Any (λ end. name_in (view end) ≡ other) earlier) → IsTrue (not found) ↔ IsNewEndWord (map view earlier) word
new_end_by view earlier word name other rate found spelled is_name is_rate same room tells = (
  (λ fails. record {
    is_end = (name, rate, spelled, is_name, is_rate);
    is_new = λ any. not_true found fails (tells.1 (subst (λ (n : List ℕ). Any (λ end. name_in (view end) ≡ n) earlier) named (seen_any view (λ w. name_in w ≡ name_in word) earlier any)));
    room = omega (arith, room, length-map earlier view);
  }),
  (λ new. is_not found (λ holds. new.is_new (any_seen view (λ w. name_in w ≡ name_in word) earlier (subst (λ (n : List ℕ). Any (λ end. name_in (view end) ≡ n) earlier) (sym named) (tells.0 holds))))),
)
  where
    named : name_in word ≡ other
    named = name_of_end word name rate spelled is_name ∙ sym same

-- ---- words from the first on

-- a word of an endpoint as it is
abbrev same_word : List ℕ → List ℕ
same_word word = word

-- the first so many of the words may be endpoints of a hose
pub record Seen (words : List (List ℕ)) (place : ℕ) : Type 0 where
  pub within : place ≤ length words
  pub are : AreNewEndWords (take place words)
  pub listing : Listing same_word end_words_form (take place words) (at_word 1 words) (at_word (place + 1) words)

module _ (words : List (List ℕ)) (place : ℕ) (seen : Seen words place) where
  -- the next word came
  took_next : (word : List ℕ) → place < length words → get_or words place [] ≡ word → Took (at_word (place + 1) words) (at_word (place + 1 + 1) words) word
  took_next word below is = record {
    cut =
        let here : place + 1 - 1 ≡ place = omega arith in
        let next : place + 1 + 1 - 1 ≡ place + 1 = omega arith in
        ap (λ n. drop n words) here ∙ (drop_more words place [] below ∙ (λ i. is i ∷ drop (sym next i) words));
    counted = omega arith;
  }

  pub seen_more : (word : List ℕ) → place < length words → get_or words place [] ≡ word → IsNewEndWord (take place words) word → Seen words (place + 1)
  seen_more word below is new =
      let more : take (place + 1) words ≡ take place words ++ word ∷ [] = take_more words place [] below ∙ ap (λ w. take place words ++ w ∷ []) is in
      let are = end_words_more (take place words) word seen.are new in
      let follows : Follows end_words_form (map same_word (take place words)) word =
      (take place words ++ word ∷ [], (λ i. map-id (take place words) i ++ word ∷ []) ∙ sym (map-id (take place words ++ word ∷ [])), are) in
      let listing = listing_more same_word end_words_form (take place words) word (at_word 1 words) (at_word (place + 1) words) (at_word (place + 1 + 1) words) seen.listing (took_next word below is) follows in
      record {
        within = omega (arith, below);
        are = subst AreNewEndWords (sym more) are;
        listing = subst (λ (front : List (List ℕ)). Listing same_word end_words_form front (at_word 1 words) (at_word (place + 1 + 1) words)) (sym more) listing;
      }

  -- the next word is none that may come, or there are too few
  pub next_wrong : MissesItem same_word (IsNewEndWord (take place words)) LEAST_ENDS (take place words) (at_word (place + 1) words) (place + 1) → IsWrong end_words_form (at_word 1 words) (place + 1)
  next_wrong misses = wrong_item (makes_end_words (take place words) seen.are) seen.listing misses

  pub word_wrong : (word : List ℕ) → place < length words → get_or words place [] ≡ word → (IsNewEndWord (take place words) word → ⊥) → IsWrong end_words_form (at_word 1 words) (place + 1)
  word_wrong word below is never = next_wrong (record {
    none = λ first.
        let item = subst (IsFirst (λ (w : List ℕ). (one : List ℕ) × (w ≡ one) × IsNewEndWord (take place words) one)) (took_next word below is).cut first in
        never (subst (IsNewEndWord (take place words)) (sym item.1) item.2);
    few = λ none. absurd (omega (arith, below, length-drop (place + 1 - 1) words, ap length none));
    at = omega arith;
  })

  pub few_wrong : length words ≤ place → place < LEAST_ENDS → IsWrong end_words_form (at_word 1 words) (place + 1)
  few_wrong ended few = next_wrong (record {
    none = λ first. none_left (drop (place + 1 - 1) words) (omega (arith, ended, length-drop (place + 1 - 1) words)) first;
    few = λ none. omega (arith, few, length-take place words);
    at = omega arith;
  })
    where
      none_left : (left : List (List ℕ)) → length left ≡ 0 → IsFirst (λ (w : List ℕ). (one : List ℕ) × (w ≡ one) × IsNewEndWord (take place words) one) left → ⊥
      none_left [] none first = first
      none_left (word ∷ left) none first = omega (arith, none)

-- what is wrong of the words from one on is so of them at its place
pub wrong_from : (words ends : List (List ℕ)) (at place : ℕ) → 1 ≤ at → ends ≡ drop (at - 1) words → IsWrong end_words_form (at_word 1 ends) (place + 1) → IsWrong end_words_form (at_word at words) (at + place)
wrong_from words ends at place some is wrong = record {
  place = wrong.place;
  at = omega (arith, wrong.at, some);
  wrong = subst (λ (left : List (List ℕ)). IsFirstNotAllowed (grammar_of end_words_form) [] left wrong.place) is wrong.wrong;
}
