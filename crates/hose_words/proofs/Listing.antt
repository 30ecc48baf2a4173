-- Words of a list, item by item.
use Rattle.std.proofs.Common.{◌≡◌, ◌∙◌, ℕ, ◌+◌, ◌<◌, List, [], ◌∷◌, ◌++◌, length, map, inl, inr, refl, sym, ap, subst, arith, append_assoc, length-append, suc}
use Rattle.std.specs.List.{All}
use Rattle.std.proofs.lemmas.List.{map-append, length-map}
use Rattle.hose_words.specs.Words.{IsFirst}
use Rattle.hose_words.specs.steps.Grammar.{IsFirstNotAllowed}
use Rattle.hose_words.specs.steps.Form.{Form, list, Follows, grammar_of}
use Rattle.hose_words.specs.steps.Cursor.{Position, Took, TookAll, IsWrong, MissesItem}
use Rattle.hose_words.proofs.Forms.{AreApart}

-- These items were read, and each word of theirs was allowed.
pub record Listing {A : Type 0} (word_of : A → List ℕ) (form : Form) (items : List A) (old new : Position) : Type 0 where
  pub took : TookAll old new (map word_of items)
  pub goes_on : (place : ℕ) → IsFirstNotAllowed (grammar_of form) (map word_of items) new.left place → IsFirstNotAllowed (grammar_of form) [] old.left place

-- one item more
pub listing_more : {A : Type 0} (word_of : A → List ℕ) (form : Form) (items : List A) (item : A) (old mid new : Position) → Listing word_of form items old mid → Took mid new (word_of item)
    → Follows form (map word_of items) (word_of item) → Listing word_of form (items ++ item ∷ []) old new
listing_more word_of form items item old mid new listing took follows =
    let more : map word_of (items ++ item ∷ []) ≡ map word_of items ++ word_of item ∷ [] = map-append word_of items (item ∷ []) in
    record {
      took = record {
        cut = listing.took.cut ∙ ap (λ w. map word_of items ++ w) took.cut ∙ sym (append_assoc (map word_of items) (word_of item ∷ []) new.left) ∙ ap (λ w. w ++ new.left) (sym more);
        counted = omega (arith, listing.took.counted, took.counted, length-map items word_of, length-map (items ++ item ∷ []) word_of, length-append items (item ∷ []));
      };
      goes_on = λ place wrong.
          let after : IsFirstNotAllowed (grammar_of form) (map word_of items ++ word_of item ∷ []) new.left place = subst (λ w. IsFirstNotAllowed (grammar_of form) w new.left place) more wrong in
          listing.goes_on place (subst (λ w. IsFirstNotAllowed (grammar_of form) (map word_of items) w place) (sym took.cut) (inl (follows, after)));
    }

-- what is wrong after the items that were read
pub wrong_after : {A : Type 0} (word_of : A → List ℕ) (form : Form) (items : List A) (old new : Position) (number : ℕ) → Listing word_of form items old new → number ≡ new.read + 1
    → IsFirstNotAllowed (grammar_of form) (map word_of items) new.left (length items + 1) → IsWrong form old number
wrong_after word_of form items old new number listing at wrong =
    record { place = length items + 1; at = omega (arith, at, listing.took.counted, length-map items word_of); wrong = listing.goes_on (length items + 1) wrong }

-- words of items and one word more tell one item more
pub one_item_more : {A : Type 0} (is : A → Type 0) (word_of : A → List ℕ) (items others : List A) (word : List ℕ) → AreApart is word_of → All is items → All is others
    → map word_of items ++ word ∷ [] ≡ map word_of others → (item : A) × (others ≡ items ++ item ∷ []) × (word ≡ word_of item)
one_item_more is word_of [] [] word are all all' same = absurd (cc same)
one_item_more is word_of [] (y ∷ []) word are all all' same = (y, refl, cc same)
one_item_more is word_of [] (y ∷ z ∷ ys) word are all all' same = absurd (cc same)
one_item_more is word_of (x ∷ xs) [] word are all all' same = absurd (cc same)
one_item_more is word_of (x ∷ xs) (y ∷ ys) word are all all' same =
    let first : word_of x ≡ word_of y = cc same in
    let others : map word_of xs ++ word ∷ [] ≡ map word_of ys = cc same in
    let one = are.apart x y (all 0 x (omega arith)) (all' 0 y (omega arith)) first in
    let more = one_item_more is word_of xs ys word are (λ k d below. all (suc k) d (omega (arith, below))) (λ k d below. all' (suc k) d (omega (arith, below))) others in
    (more.0, (λ i. sym one i ∷ more.1 i), more.2)

-- What makes a list: each item is one that there is, and one that stands after others in a list was one that might come
-- after them.
pub record MakesList {A : Type 0} (is : A → Type 0) (word_of : A → List ℕ) (fine : List A → Type 0) (items : List A) (may : A → Type 0) : Type 0 where
  pub apart : AreApart is word_of
  pub each : (others : List A) → fine others → All is others
  pub all : All is items
  pub may_come : (item : A) → fine (items ++ item ∷ []) → may item

-- no item tells the next word, or none comes where one has to
pub wrong_item : {A : Type 0} {is : A → Type 0} {word_of : A → List ℕ} {fine : List A → Type 0} {least : ℕ} {items : List A} {may : A → Type 0} {old new : Position} {number : ℕ} → MakesList is word_of fine items may
    → Listing word_of (list word_of fine least) items old new → MissesItem word_of may least items new number → IsWrong (list word_of fine least) old number
wrong_item {A} {is} {word_of} {fine} {least} {items} {may} {old} {new} {number} makes listing misses =
    wrong_after word_of (list word_of fine least) items old new number listing misses.at (here new.left misses.none misses.few)
  where
    here : (left : List (List ℕ)) → (IsFirst (λ word. (item : A) × (word ≡ word_of item) × may item) left → ⊥) → (left ≡ [] → length items < least)
        → IsFirstNotAllowed (grammar_of (list word_of fine least)) (map word_of items) left (length items + 1)
    here [] none few = (λ whole. omega (arith, whole, few refl, length-map items word_of), omega (arith, length-map items word_of))
    here (word ∷ rest) none few = inr (
      (λ follows.
          let more = one_item_more is word_of items follows.0 word makes.apart makes.all (makes.each follows.0 follows.2) follows.1 in
          none (more.0, more.2, makes.may_come more.0 (subst fine more.1 follows.2))),
      omega (arith, length-map items word_of),
    )
