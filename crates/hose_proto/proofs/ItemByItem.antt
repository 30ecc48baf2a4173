-- Lists of a line, read item by item to its end.
use Rattle.std.proofs.Common.{◌≡◌, ℕ, ◌+◌, ◌<◌, List, [], ◌∷◌, ◌++◌, length, map, inr, refl, sym, subst, arith}
use Rattle.std.specs.List.{All}
use Rattle.std.proofs.lemmas.List.{map-append, length-map}
use Rattle.hose_words.specs.steps.Cursor.{Position, Took, IsWrong}
use Rattle.hose_words.specs.steps.Form.{list, grammar_of}
use Rattle.hose_words.specs.steps.Grammar.{IsFirstNotAllowed}
use Rattle.hose_words.proofs.Forms.{AreApart}
use Rattle.hose_words.proofs.Listing.{Listing, listing_more, one_item_more, wrong_after}
use Rattle.hose_proto.specs.steps.Reading.{EndsList, IfFirst, ListGoesOn, TellsNone}

-- a list goes on so where each item has a word of its own, and one that stands after others in a list may come after them
pub goes_on : {A : Type 0} (is : A → Type 0) {word_of : A → List ℕ} {fine : List A → Type 0} {items : List A} {may : A → Type 0} → AreApart is word_of → ((others : List A) → fine others → All is others) → fine items
    → ((item : A) → may item → fine (items ++ item ∷ [])) → ((item : A) → fine (items ++ item ∷ []) → may item) → ListGoesOn word_of fine may items
goes_on {A} is {word_of} {fine} {items} {may} apart each are more may_come = record {
  more = more;
  only = λ word tells none.
      let one = one_item_more is word_of items tells.0 word apart (each items are) (each tells.0 tells.2) tells.1 in
      none one.0 one.2 (may_come one.0 (subst fine one.1 tells.2));
}

module _ {A : Type 0} {word_of : A → List ℕ} {fine : List A → Type 0} where
  -- one item more
  pub item_more : {least : ℕ} {items : List A} {item : A} {old mid new : Position} → Listing word_of (list word_of fine least) items old mid → Took mid new (word_of item)
      → fine (items ++ item ∷ []) → Listing word_of (list word_of fine least) (items ++ item ∷ []) old new
  item_more {least} {items} {item} {old} {mid} {new} listing took are =
      listing_more word_of (list word_of fine least) items item old mid new listing took (items ++ item ∷ [], sym (map-append word_of items (item ∷ [])), are)

  -- no item more comes where one has to, or may
  pub wrong_last : {least : ℕ} {items : List A} {may : A → Type 0} {old new : Position} {number : ℕ} → ListGoesOn word_of fine may items → Listing word_of (list word_of fine least) items old new
      → EndsList word_of may least items new number → IsWrong (list word_of fine least) old number
  wrong_last {least} {items} {may} {old} {new} {number} goes listing ends =
      wrong_after word_of (list word_of fine least) items old new number listing ends.at (here new.left ends.none ends.few)
    where
      here : (left : List (List ℕ)) → IfFirst (TellsNone word_of may) left → (left ≡ [] → length items < least)
          → IsFirstNotAllowed (grammar_of (list word_of fine least)) (map word_of items) left (length items + 1)
      here [] none few = (λ whole. omega (arith, whole, few refl, length-map items word_of), omega (arith, length-map items word_of))
      here (word ∷ rest) none few = inr ((λ tells. goes.only word tells none), omega (arith, length-map items word_of))
