-- Lists of a reply up to the word that ends them, which is no item's.
use Rattle.std.proofs.Common.{◌≡◌, ◌≢◌, ◌∙◌, ◌⊎◌, ℕ, ◌+◌, ◌≤◌, suc, zero, List, [], ◌∷◌, ◌++◌, length, get_or, map, codes, decimal, inl, inr, refl, sym, ap, subst, arith}
use Rattle.std.specs.List.{All, Contains}
use Rattle.std.proofs.lemmas.Fmt.{decimal_is_IsNumeral}
use Rattle.std.proofs.lemmas.List.{length-map, map-append}
use Rattle.std.proofs.lemmas.List.Elements.{All-cons, All-nil, Contains-append_right}
use Rattle.std.proofs.lemmas.Str.Parse.{digit_at}
use Rattle.hose_words.specs.steps.Cursor.{Position, Took, IsWrong}
use Rattle.hose_words.specs.steps.Form.{Form, Follows, IsWhole, TellsItems, grammar_of, until}
use Rattle.hose_words.specs.Numbers.{Fits64}
use Rattle.hose_words.specs.Words.{IsFirst}
use Rattle.hose_words.specs.steps.Grammar.{IsFirstNotAllowed}
use Rattle.hose_words.proofs.Listing.{Listing, listing_more, wrong_after}
use Rattle.hose_words.proofs.Until.{HasNoLast, no_whole_list, until_more, until_only}
use Rattle.hose_graph.specs.Network.{Network, name_of}
use Rattle.hose_proto.specs.Places.{end_word}
use Rattle.hose_proto.specs.steps.Reading.{IfFirst, ListGoesOn, TellsNone}
use Rattle.hose_replies.specs.steps.Reading.{MissesUntil}
use Rattle.hose_proto.proofs.Colons.{named_cut}

module _ {A : Type 0} {word_of : A → List ℕ} {fine : List A → Type 0} {least : ℕ} {last : List ℕ} {rest : Form} {items : List A} {old mid : Position} (free : HasNoLast last (map word_of items)) (listing : Listing word_of (until word_of fine least last rest) items old mid) where
  -- one item more
  pub until_item : {item : A} {new : Position} → Took mid new (word_of item) → fine (items ++ item ∷ []) → Listing word_of (until word_of fine least last rest) (items ++ item ∷ []) old new
  until_item {item} {new} took are =
      listing_more word_of (until word_of fine least last rest) items item old mid new listing took
      (until_more (TellsItems word_of fine) least last (Follows rest) [] (map word_of items) (word_of item) free (inl (items ++ item ∷ [], sym (map-append word_of items (item ∷ [])), are)))

  -- the next word tells no item more, and is not the end of the list
  pub wrong_until : {may : A → Type 0} {number : ℕ} → ListGoesOn word_of fine may items → MissesUntil word_of may least last items mid number → IsWrong (until word_of fine least last rest) old number
  wrong_until {may} {number} goes misses =
      wrong_after word_of (until word_of fine least last rest) items old mid number listing misses.at (here mid.left misses.none misses.no_last)
    where
      neither : (word : List ℕ) → TellsNone word_of may word → ¬ ((word ≡ last) × (least ≤ length items))
          → TellsItems word_of fine (map word_of items ++ word ∷ []) ⊎ ((least ≤ 0 + length (map word_of items)) × (word ≡ last)) → ⊥
      neither word none no_last (inl told) = goes.only word told none
      neither word none no_last (inr (enough, is)) = no_last (is, omega (arith, enough, length-map items word_of))

      here : (left : List (List ℕ)) → IfFirst (TellsNone word_of may) left → ¬ IsFirst (λ word. (word ≡ last) × (least ≤ length items)) left
          → IsFirstNotAllowed (grammar_of (until word_of fine least last rest)) (map word_of items) left (length items + 1)
      here [] none no_last = (no_whole_list last (IsWhole rest) (map word_of items) free, omega (arith, length-map items word_of))
      here (word ∷ more) none no_last =
          inr ((λ follows. neither word none no_last (until_only (TellsItems word_of fine) least last (Follows rest) [] (map word_of items) word free follows)), omega (arith, length-map items word_of))

-- ---- endpoints

no_colon_links : ¬ Contains (codes "links") 58
no_colon_links (zero, below, at) = absurd (omega (arith, at))
no_colon_links (suc zero, below, at) = absurd (omega (arith, at))
no_colon_links (suc (suc zero), below, at) = absurd (omega (arith, at))
no_colon_links (suc (suc (suc zero)), below, at) = absurd (omega (arith, at))
no_colon_links (suc (suc (suc (suc zero))), below, at) = absurd (omega (arith, at))
no_colon_links (suc (suc (suc (suc (suc k)))), below, at) = absurd (omega (arith, below))

-- an endpoint's word has a colon
pub no_links : (network : Network) (end : ℕ × ℕ) → end_word network end ≢ codes "links"
no_links network end same =
    no_colon_links (subst (λ w. Contains w 58) (sym (named_cut (name_of network end.0) end.1) ∙ same) (Contains-append_right (name_of network end.0) (58 ∷ decimal end.1) 58 (0, omega arith, refl)))

pub ends_no_links : (network : Network) (ends : List (ℕ × ℕ)) → HasNoLast (codes "links") (map (end_word network) ends)
ends_no_links network [] = All-nil (λ word. word ≢ codes "links")
ends_no_links network (end ∷ ends) = All-cons (λ word. word ≢ codes "links") (end_word network end) (map (end_word network) ends) (no_links network end) (ends_no_links network ends)

-- ---- numbers

-- a decimal begins with a digit
no_at : (number : ℕ) → Fits64 number → decimal number ≢ codes "at"
no_at number small same =
    let numeral = decimal_is_IsNumeral number small in
    omega (arith, digit_at (decimal number) 0 numeral.0.1 numeral.0.0, ap (λ w. get_or w 0 0) same)

pub numbers_no_at : (numbers : List ℕ) → All Fits64 numbers → HasNoLast (codes "at") (map decimal numbers)
numbers_no_at [] fit = All-nil (λ word. word ≢ codes "at")
numbers_no_at (number ∷ numbers) fit =
    All-cons (λ word. word ≢ codes "at") (decimal number) (map decimal numbers) (no_at number (fit 0 number (omega arith))) (numbers_no_at numbers (λ k d below. fit (suc k) d (omega (arith, below))))
